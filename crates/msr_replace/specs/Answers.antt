-- What is told of a day, and what it says of the files under its names.
use Rattle.std.specs.Prelude.{IsSomeAnd, ◌<◌, ◌≤◌, ◌≡◌, ◌⊎◌, ℕ, true, false, List, length, None, Some, Result, Ok, Err, IfOk, IsErrOf, IsSome, ◌++◌, codes}
use Rattle.msr_tree.specs.Steps.{AtEachMoment, ChangesOnly, Leaves, Path, Step, failures, now, seen}
use Rattle.msr_tree.specs.declared.tree.TreeFault.{TreeFault}
use Rattle.msr_tree.specs.declared.tree.TreeFault.TheVariants.{Failed}
use Rattle.msr_verify.specs.Day.{DayAnswers, IsShownLeast, IsVerified}
use Rattle.msr_verify.specs.declared.judging.Finding.{Finding}
use Rattle.msr_verify.specs.declared.judging.Finding.TheVariants as finding
use Rattle.msr_verify.specs.declared.judging.VerifyFault.{VerifyFault}
use Rattle.msr_replace.specs.Kinds.{HoldsInt24, LacksInt24}
use Rattle.msr_naming.specs.declared.stamp.StampOf.TheVariants as stamped
use Rattle.msr_exchange.specs.Names.{Names, StampPlaces, all, path_below}
use Rattle.msr_replace.specs.Restored.{refusal_of}
use Rattle.msr_replace.specs.Ways.{IsKindFound, IsWay}
use Rattle.msr_replace.specs.declared.ways.Way.TheVariants as way
use Rattle.msr_folders.specs.Paths.{folder_of}
use Rattle.msr_tree.specs.declared.facts.Facts.{Facts}
use Rattle.msr_tree.specs.declared.facts.Kind.TheVariants.{Link}
use Rattle.msr_exchange.specs.Stamped.{LeavesStamp, all_and_stamp}
use Rattle.msr_exchange.specs.Promise.{AreKept, HaveChanged, KeepsBoth, LeavesAlone}
use Rattle.msr_replace.specs.declared.answers.DayAnswer.{DayAnswer}
use Rattle.msr_replace.specs.declared.answers.DayAnswer.TheVariants.{Replaced, Same, Young, Larger, Changed, Missing, NotShown, Differs, Refused}
use Rattle.msr_replace.specs.declared.answers.DayRefusal.{DayRefusal}
use Rattle.msr_replace.specs.declared.answers.DayRefusal.TheVariants as said
use Rattle.msr_exchange.specs.declared.names.Place.TheVariants.{Original, Records}
use Rattle.msr_exchange.specs.declared.preparing.Verified.{Verified}
use Rattle.msr_exchange.specs.declared.told.Told.{Told}
use Rattle.msr_exchange.specs.declared.told.Told.TheVariants as told
use Rattle.msr_exchange.specs.declared.work.DayWork.{DayWork}

-- the name of a day's report
abbrev pub report_in : DayWork → (path : List ℕ) → Path
report_in work path = path_below work.reports.now (path ++ codes ".txt")

-- The three files of a day have these bytes.
pub record HaveBytes (names : Names) (report : Path) (file records text : List ℕ) (past : List Step) : Type 0 where
  pub day : seen past names.day ≡ Some file
  pub comes : seen past names.records ≡ Some records
  pub shows : seen past report ≡ Some text

-- Verifying them has this answer.
pub record IsFoundDay (names : Names) (report : Path) (answer : Result Finding VerifyFault) (past : List Step) : Type 0 where
  pub file : List ℕ
  pub records : List ℕ
  pub text : List ℕ
  pub bytes : HaveBytes names report file records text past
  pub answers : DayAnswers file records text answer

-- They are verified, and the file and its records have so many bytes. If it is not asked for, no record has 24-bit integers.
pub record IsVerifiedDay (work : DayWork) (names : Names) (report : Path) (before after : ℕ) (past : List Step) : Type 0 where
  pub file : List ℕ
  pub records : List ℕ
  pub text : List ℕ
  pub bytes : HaveBytes names report file records text past
  pub verified : IsVerified file records text
  pub kinds : (work.int24 ≡ true) ⊎ LacksInt24 records
  pub before_is : before ≡ length file
  pub after_is : after ≡ length records

-- The report shows that the day's file is the fewest records, and there are no others.
pub record IsShownItself (names : Names) (report : Path) (past : List Step) : Type 0 where
  pub file : List ℕ
  pub text : List ℕ
  pub day : seen past names.day ≡ Some file
  pub shows : seen past report ≡ Some text
  pub none : now past names.records ≡ None
  pub least : IsShownLeast file text

-- What was verified has changed places, if both files were kept when it began.
pub record IsReplaced (work : DayWork) (names : Names) (report : Path) (before after : ℕ) (old new : List Step) : Type 0 where
  pub day : IsVerifiedDay work names report before after old
  pub changed : (a b : List ℕ) → AreKept names Original Records a b old → HaveChanged names Original a b new

-- The three files are verified ones.
abbrev pub AreVerified : Names → (report : Path) → List Step → Type 0
AreVerified names report past = IsFoundDay names report (Ok finding.Verified) past

-- A record of the day has 24-bit integers.
pub record HaveInt24 (names : Names) (past : List Step) : Type 0 where
  pub records : List ℕ
  pub comes : seen past names.records ≡ Some records
  pub holds : HoldsInt24 records

-- a file cannot be opened: the name leads to none, or a call failed
abbrev pub IsNotOpened : Path → (old new : List Step) → Type 0
IsNotOpened path old new = (now old path ≡ None) ⊎ (failures old < failures new)

-- there is a link under that name, or on the way from `top` to the day's folder
abbrev pub IsLinked : DayWork → (report top name : Path) → List Step → Type 0
IsLinked work report top name past = IsKindFound name past (Some Link) ⊎ ((path : Path) × (report ≡ report_in work path) × IsWay top (folder_of path) past way.Odd)

-- the day's file and its records have as many bytes as was told
pub record HaveLengths (names : Names) (file records : Facts) (past : List Step) : Type 0 where
  pub file_is : IsSomeAnd (now past names.day) (λ found. file.bytes ≡ length found.bytes)
  pub records_are : IsSomeAnd (now past names.records) (λ found. records.bytes ≡ length found.bytes)

-- These are told to be one file.
pub record AreToldOne (names : Names) (past : List Step) : Type 0 where
  pub file : Facts
  pub records : Facts
  pub have : HaveLengths names file records past
  pub device : file.device ≡ records.device
  pub number : file.number ≡ records.number

-- Why a day is refused. What is found as the files change places is told of verified files only, and so is that records
-- which were read cannot be read again.
abbrev pub IsRefusedFor : DayWork → Names → (report : Path) → DayRefusal → (old new : List Step) → Type 0
IsRefusedFor work names report said.Link old new = IsLinked work report work.root.now names.day old ⊎ AreVerified names report old
IsRefusedFor work names report said.RecordsLink old new = IsLinked work report work.out.now names.records old ⊎ AreVerified names report old
IsRefusedFor work names report said.FileUnopened old new = IsNotOpened names.day old new
IsRefusedFor work names report said.RecordsUnopened old new = IsNotOpened names.records old new ⊎ AreVerified names report old
IsRefusedFor work names report said.ReportUnopened old new = IsNotOpened report old new
IsRefusedFor work names report said.SameFile old new = AreToldOne names old
IsRefusedFor work names report (said.Fault fault) old new = IsFoundDay names report (Err fault) old
IsRefusedFor work names report said.Int24 old new = (work.int24 ≡ false) × HaveInt24 names old
IsRefusedFor work names report said.AsideLink old new = AreVerified names report old
IsRefusedFor work names report said.AsideTaken old new = AreVerified names report old
IsRefusedFor work names report said.RecordsTaken old new = AreVerified names report old
IsRefusedFor work names report said.Dress old new = AreVerified names report old
IsRefusedFor work names report said.AsideDress old new = AreVerified names report old

-- what an answer says of a day with which nothing is done
abbrev pub IsToldDay : DayWork → Names → (report : Path) → DayAnswer → (old new : List Step) → Type 0
IsToldDay work names report (Replaced before after) old new = ⊥
IsToldDay work names report Same old new = IsShownItself names report old
IsToldDay work names report Young old new = IsSome work.changed_before
IsToldDay work names report (Larger before after) old new = (work.only_smaller ≡ true) × (before ≤ after) × IsVerifiedDay work names report before after old
IsToldDay work names report Changed old new = AreVerified names report old
IsToldDay work names report Missing old new = (now old names.records ≡ None) ⊎ (now old report ≡ None)
IsToldDay work names report NotShown old new = IsFoundDay names report (Ok finding.NotShown) old
IsToldDay work names report Differs old new = IsFoundDay names report (Ok finding.Differs) old
IsToldDay work names report (Refused refusal) old new = IsRefusedFor work names report refusal old new

-- each crash leaves the records in ROOT, if both files were kept when it began
abbrev pub IsInPlaceOf : Names → (old new : List Step) → Type 0
IsInPlaceOf names old new = (a b : List ℕ) → AreKept names Original Records a b old → Leaves new names.day (Some b)

-- what an answer says
abbrev pub Means : DayWork → Names → (report : Path) → DayAnswer → (old new : List Step) → Type 0
Means work names report (Replaced before after) old new = IsReplaced work names report before after old new
Means work names report Same old new = IsShownItself names report old ⊎ IsInPlaceOf names old new
Means work names report Young old new = IsToldDay work names report Young old new
Means work names report (Larger before after) old new = IsToldDay work names report (Larger before after) old new
Means work names report Changed old new = IsToldDay work names report Changed old new
Means work names report Missing old new = IsToldDay work names report Missing old new
Means work names report NotShown old new = IsToldDay work names report NotShown old new
Means work names report Differs old new = IsToldDay work names report Differs old new
Means work names report (Refused refusal) old new = IsToldDay work names report (Refused refusal) old new

-- What is promised of a day whose records are to take the place of its file: its names alone change; if both files are
-- kept when it begins, they are at each moment since; another file in ASIDE is left alone; and the answer is so.
pub record Exchanges (work : DayWork) (names : Names) (report : Path) (result : Result DayAnswer TreeFault) (old new : List Step) : Type 0 where
  pub changes : ChangesOnly (all names) old new
  pub cause : IsErrOf result Failed → failures old < failures new
  pub safe : (a b : List ℕ) → AreKept names Original Records a b old → AtEachMoment (KeepsBoth names Original a Records b) old new
  pub alone : LeavesAlone names.original names.day old new
  pub answers : IfOk result (λ answer. Means work names report answer old new)

-- The same; and the stamp that a crash leaves might have been left before, or is that of the records, which then have the
-- day's place.
pub record Replaces (work : DayWork) (names : Names) (report : Path) (stamp : StampPlaces) (result : Result DayAnswer TreeFault) (old new : List Step) : Type 0 where
  pub changes : ChangesOnly (all_and_stamp names stamp) old new
  pub cause : IsErrOf result Failed → failures old < failures new
  pub safe : (a b : List ℕ) → AreKept names Original Records a b old → AtEachMoment (KeepsBoth names Original a Records b) old new
  pub alone : LeavesAlone names.original names.day old new
  pub answers : IfOk result (λ answer. Means work names report answer old new)
  pub stamps : (a b : List ℕ) → AreKept names Original Records a b old → AtEachMoment (LeavesStamp names stamp stamped.Records b old) old new

-- what is told of a day whose files were to change places
abbrev pub replaced_of : Told → Verified → DayAnswer
replaced_of told.Done verified = Replaced verified.file.bytes verified.records.bytes
replaced_of told.Same verified = Same
replaced_of told.Changed verified = Changed
replaced_of (told.Refused why) verified = Refused (refusal_of why)
