-- What the words of a command line ask for.
use Rattle.std.specs.Prelude.{◌≡◌, ◌≢◌, ◌⊎◌, ◌≤◌, ℕ, ⊤, Bool, true, false, List, ◌++◌, AllPairs, None, IfSome, codes}
use Rattle.msr_base.specs.declared.kinds.Kinds.{Kinds}
use Rattle.msr_base.specs.declared.kinds.Kinds.TheVariants.{All}
use Rattle.msr_options.specs.Choice.{Choice, record_size}
use Rattle.msr_options.specs.declared.task.Folders.{Folders}
use Rattle.msr_options.specs.declared.task.Replacing.{Replacing}
use Rattle.msr_options.specs.declared.task.Task.{Task}
use Rattle.msr_options.specs.declared.task.Task.TheVariants.{Repack, List as Listing, Check, Compare, Archive, Trial, Verify, Replace, Feed}
use Rattle.msr_options.specs.declared.task.Verb.{Verb}
use Rattle.msr_options.specs.declared.task.Verb.TheVariants as verb

-- the word of a command
abbrev pub word_of : Verb → List ℕ
word_of verb.Repack = codes "repack"
word_of verb.List = codes "list"
word_of verb.Check = codes "check"
word_of verb.Compare = codes "compare"
word_of verb.Archive = codes "archive"
word_of verb.Verify = codes "verify"
word_of verb.Replace = codes "replace"
word_of verb.Feed = codes "feed"

-- the command that asks for a task
abbrev pub verb_of : Task → Verb
verb_of (Repack asked) = verb.Repack
verb_of (Listing asked) = verb.List
verb_of (Check asked) = verb.Check
verb_of (Compare asked) = verb.Compare
verb_of (Archive asked) = verb.Archive
verb_of (Trial asked) = verb.Archive
verb_of (Verify asked) = verb.Verify
verb_of (Replace asked) = verb.Replace
verb_of (Feed asked) = verb.Feed

-- 1 to 1,000,000 microseconds
pub record IsTolerance (tolerance : ℕ) : Type 0 where
  pub least : 1 ≤ tolerance
  pub most : tolerance ≤ 1_000_000

-- the tolerance that is asked for is in its range; checking, verifying and replacing take that of the report
abbrev pub HasTolerance : Task → Type 0
HasTolerance (Repack asked) = IsTolerance asked.options.tolerance
HasTolerance (Listing asked) = IsTolerance asked.options.tolerance
HasTolerance (Check asked) = ⊤
HasTolerance (Compare asked) = IsTolerance asked.options.tolerance
HasTolerance (Archive asked) = IsTolerance asked.days.options.tolerance
HasTolerance (Trial asked) = IsTolerance asked.days.options.tolerance
HasTolerance (Verify asked) = ⊤
HasTolerance (Replace asked) = ⊤
HasTolerance (Feed asked) = IsTolerance asked.options.tolerance

-- the path begins with the folder's name and a slash
abbrev pub IsBelow : (folder path : List ℕ) → Type 0
IsBelow folder path = (rest : List ℕ) × (path ≡ folder ++ (codes "/" ++ rest))

-- one folder is the other, or stands below it, by their names
abbrev pub Overlap : (a b : List ℕ) → Type 0
Overlap a b = (a ≡ b) ⊎ (IsBelow a b ⊎ IsBelow b a)

-- of these folders of an archive none is another or stands below it
abbrev pub AreApart : (folders : List (List ℕ)) → Type 0
AreApart folders = AllPairs (λ a b. ¬ (Overlap a b)) folders

-- no two of the folders overlap
pub record StandApart (folders : Folders) : Type 0 where
  pub out : ¬ (Overlap folders.root.now folders.out.now)
  pub reports : ¬ (Overlap folders.root.now folders.reports.now)
  pub outputs : ¬ (Overlap folders.out.now folders.reports.now)

-- the folder overlaps none of these
pub record AreApartFrom (folder : List ℕ) (folders : Folders) : Type 0 where
  pub root : ¬ (Overlap folders.root.now folder)
  pub out : ¬ (Overlap folders.out.now folder)
  pub reports : ¬ (Overlap folders.reports.now folder)

-- the folders stand apart, and originals that are put back keep their times
pub record KeepsOriginals (asked : Replacing) : Type 0 where
  pub folders : StandApart asked.folders
  pub aside : AreApartFrom asked.aside.now asked.folders
  pub times : asked.undo ≡ true → asked.touch ≡ false

-- both names stand for standard input
abbrev pub AreBothStandard : (one other : List ℕ) → Type 0
AreBothStandard one other = (one ≡ codes "-") × (other ≡ codes "-")

-- the output, if one is asked for, has another name than the input; of two inputs not both are standard input; the
-- folders of an archive stand apart; its originals are kept
abbrev pub KeepsInput : Task → Type 0
KeepsInput (Repack asked) = IfSome asked.output (λ name. name.now ≢ asked.input.now)
KeepsInput (Listing asked) = ⊤
KeepsInput (Check asked) = ⊤
KeepsInput (Compare asked) = ¬ (AreBothStandard asked.one.now asked.other.now)
KeepsInput (Archive asked) = StandApart asked.folders
KeepsInput (Trial asked) = ⊤
KeepsInput (Verify asked) = StandApart asked.folders
KeepsInput (Replace asked) = KeepsOriginals asked
KeepsInput (Feed asked) = ⊤

-- the options that have these numbers and these kinds
pub record AreOptions (bytes tolerance : ℕ) (strict : Bool) (kinds : Kinds) (options : Choice) : Type 0 where
  pub size : record_size options ≡ bytes
  pub tolerance_is : options.tolerance ≡ tolerance
  pub strict_is : options.strict ≡ strict
  pub kinds_are : options.kinds ≡ kinds

-- standard input is to be repacked to nowhere, with records of 512 bytes of any kind and a tolerance of 1000
-- microseconds, and not strictly
abbrev pub IsDefault : Task → Type 0
IsDefault (Repack asked) =
    AreOptions 512 1000 false All asked.options × (asked.input.now ≡ codes "-") × (asked.output ≡ None)
IsDefault (Listing asked) = ⊥
IsDefault (Check asked) = ⊥
IsDefault (Compare asked) = ⊥
IsDefault (Archive asked) = ⊥
IsDefault (Trial asked) = ⊥
IsDefault (Verify asked) = ⊥
IsDefault (Replace asked) = ⊥
IsDefault (Feed asked) = ⊥

-- the task is a dry run
abbrev pub IsTrial : Task → Type 0
IsTrial (Trial asked) = ⊤
IsTrial _ = ⊥
