-- What a look tells of the files of a day.
use Rattle.std.specs.Prelude.{◌≡◌, ◌≢◌, ◌⊎◌, Bool, true, List, Option, None, Some, IfSome, IsSome, IsSomeAnd}
use Rattle.msr_tree.specs.Calls.{Looks}
use Rattle.msr_tree.specs.Steps.{Path, Step}
use Rattle.msr_tree.specs.declared.facts.Facts.{Facts}
use Rattle.msr_tree.specs.declared.facts.Kind.TheVariants as kind
use Rattle.msr_folders.specs.Paths.{folder_of}
use Rattle.msr_replace.specs.Answers.{HaveLengths, IsRefusedFor, report_in}
use Rattle.msr_replace.specs.Ways.{IsWay}
use Rattle.msr_replace.specs.declared.ways.Way.{Way}
use Rattle.msr_replace.specs.declared.ways.Way.TheVariants as way
use Rattle.msr_exchange.specs.Names.{Names}
use Rattle.msr_replace.specs.declared.answers.DayRefusal.{DayRefusal}
use Rattle.msr_replace.specs.declared.answers.DayRefusal.TheVariants.{Link, RecordsLink, FileUnopened, RecordsUnopened, ReportUnopened}
use Rattle.msr_replace.specs.declared.looks.Looked.{Looked}
use Rattle.msr_replace.specs.declared.looks.Sorted.{Sorted}
use Rattle.msr_replace.specs.declared.looks.Sorted.TheVariants.{Missing, Refused, Whole}
use Rattle.msr_exchange.specs.declared.work.DayWork.{DayWork}

-- this stands under the names of a day
pub record IsSeenDay (names : Names) (report : Path) (old new : List Step) (looked : Looked) : Type 0 where
  pub file : Looks names.day old looked.file
  pub records : Looks names.records old looked.records
  pub text : Looks report old looked.report

-- on one of these ways is a link, or what is no folder
abbrev pub RefusesWays : (root out : Way) → Option DayRefusal → Type 0
RefusesWays root out refusal = IfSome refusal (λ why. ((why ≡ Link) × (root ≡ way.Odd)) ⊎ ((why ≡ RecordsLink) × (out ≡ way.Odd)))

-- the way to a day's folder speaks against it, or nothing does
abbrev pub RefusesByWays : DayWork → Path → (old new : List Step) → Option DayRefusal → Type 0
RefusesByWays work path old new refusal = (root out : Way) × IsWay work.root.now (folder_of path) old root × IsWay work.out.now (folder_of path) old out × RefusesWays root out refusal

-- if a day of which file and records are there is refused, it is for that
abbrev pub RefusesWhole : DayWork → Names → Path → (file records : Facts) → (old new : List Step) → Option DayRefusal → Type 0
RefusesWhole work names path file records old new refusal =
    HaveLengths names file records old → IfSome refusal (λ why. IsRefusedFor work names (report_in work path) why old new)

-- these are told of one file, if that is the answer
abbrev pub AreOfOne : (one other : Facts) → Bool → Type 0
AreOfOne one other answer = answer ≡ true → (one.device ≡ other.device) × (one.number ≡ other.number)

abbrev pub TellsOwn : (file records : Facts) → (old new : List Step) → Bool → Type 0
TellsOwn file records old new own = AreOfOne file records own

-- what was found is no regular file, or there is nothing
abbrev pub IsNoFile : Option Facts → Type 0
IsNoFile found = IfSome found (λ facts. facts.kind ≢ kind.Regular)

-- what was found is a link
abbrev pub IsLinkFound : Option Facts → Type 0
IsLinkFound found = IsSomeAnd found (λ facts. facts.kind ≡ kind.Link)

-- a day is refused for what was found
abbrev pub SortsOut : Looked → DayRefusal → Type 0
SortsOut looked Link = IsLinkFound looked.file
SortsOut looked RecordsLink = IsLinkFound looked.records
SortsOut looked FileUnopened = IsNoFile looked.file
SortsOut looked RecordsUnopened = IsNoFile looked.records
SortsOut looked ReportUnopened = IsNoFile looked.report
SortsOut looked refusal = ⊥

-- the three files of a day are there
pub record AreWhole (looked : Looked) (file records : Facts) : Type 0 where
  pub file_is : looked.file ≡ Some file
  pub records_are : looked.records ≡ Some records
  pub file_kind : file.kind ≡ kind.Regular
  pub records_kind : records.kind ≡ kind.Regular

-- what is to be done with a day
abbrev pub SortsAs : Looked → Sorted → Type 0
SortsAs looked Missing = (looked.records ≡ None) ⊎ (looked.report ≡ None)
SortsAs looked (Refused refusal) = SortsOut looked refusal
SortsAs looked (Whole file records) = AreWhole looked file records

-- a day is young only if it is asked for
abbrev pub AsksYoung : DayWork → (old new : List Step) → Bool → Type 0
AsksYoung work old new young = young ≡ true → IsSome work.changed_before
