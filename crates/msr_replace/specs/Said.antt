-- What is told of the entries of a walk, by what the names lead to.
use Rattle.std.specs.Prelude.{◌<◌, ◌≡◌, ◌≢◌, ◌⊎◌, true, false, List, [], ◌∷◌, Option, None, Some, is_some, Result, Ok, Err, IfOk}
use Rattle.std.specs.Borrow.{Bor}
use Rattle.msr_devices.specs.Device.{Device}
use Rattle.msr_devices.specs.declared.fault.DeviceFault.{DeviceFault}
use Rattle.msr_exchange.specs.Stamped.{all_parts_in}
use Rattle.msr_exchange.specs.Work.{names_in, stamp_in}
use Rattle.msr_exchange.specs.declared.work.DayWork.{DayWork}
use Rattle.msr_folders.specs.Days.{IsDay, IsNoDay}
use Rattle.msr_folders.specs.Entries.{AreEntriesBetween, Entry, Left, Passed, Visit, WithoutList}
use Rattle.msr_folders.specs.Paths.{joined, told_folder}
use Rattle.msr_folders.specs.Stopping.{TellsUntil}
use Rattle.msr_folders.specs.Walks.{IsWalked}
use Rattle.msr_sds.specs.declared.SdsFault.{SdsFault}
use Rattle.msr_tree.specs.Listing.{is_there}
use Rattle.msr_tree.specs.Reads.{OnlyLooks}
use Rattle.msr_tree.specs.Steps.{ChangesOnly, Path, Step, failures}
use Rattle.msr_tree.specs.declared.kind.FileKind.{FileKind}
use Rattle.msr_tree.specs.declared.kind.FileKind.TheVariants.{Gone}
use Rattle.msr_tree.specs.declared.tree.TreeFault.TheVariants as fault
use Rattle.msr_replace.specs.Answers.{Replaces, report_in}
use Rattle.msr_replace.specs.Entries.{ExchangeEntry, IsExchangeEntry, IsExchangeEntryLine, entry_of}
use Rattle.msr_replace.specs.Restored.{RestoresDay}
use Rattle.msr_replace.specs.Touched.{TouchesDays}
use Rattle.msr_replace.specs.Walk.{HasCome}
use Rattle.msr_replace.specs.Ways.{LeadsBack}
use Rattle.msr_replace.specs.declared.lines.EntryRefusal.{EntryRefusal}
use Rattle.msr_replace.specs.declared.lines.EntryRefusal.TheVariants as refusal
use Rattle.msr_replace.specs.declared.lines.Outcome.{Outcome}
use Rattle.msr_replace.specs.declared.lines.Outcome.TheVariants.{Day, Undone, Refused, Skipped, Orphan, DayFailed, FolderFailed}
use Rattle.msr_replace.specs.declared.progress.Progress.{Progress}
use Rattle.msr_replace.specs.declared.replacer.Course.{Course}
use Rattle.msr_replace.specs.declared.replacer.Course.TheVariants as course

-- what is said of a visit: the line of an entry, or that nothing more is begun
abbrev pub Said : Type 0
Said = Option ExchangeEntry

abbrev pub only_line : (path : Path) → Outcome → List Said
only_line path outcome = Some (entry_of path outcome) ∷ []

-- the line of that path, if something is told
abbrev pub said_of : (path : Path) → Option Outcome → List Said
said_of path None = []
said_of path (Some outcome) = only_line path outcome

-- This was said: the lines were printed, and are counted; none of them after the tree has failed, and all of them if it has
-- not.
abbrev pub TellsSaid : List Said → (out0 out : Device) → (old new : Progress) → Type 0
TellsSaid said out0 out old new = TellsUntil IsExchangeEntry IsExchangeEntryLine HasCome (λ progress. is_some progress.failed) said out0 out old new

-- what is told of what is no day
abbrev pub other_outcome : FileKind → SdsFault → Outcome
other_outcome Gone fault = Refused refusal.FileUnopened
other_outcome kind fault = Skipped fault

-- what is told of a folder that has no list
abbrev pub unlisted_of : Course → EntryRefusal
unlisted_of course.Root = refusal.Listing
unlisted_of course.Out = refusal.RecordsListing
unlisted_of course.Aside = refusal.Listing

-- what became of a day whose records were to take the place of its file
abbrev pub IsOfReplaced : DayWork → Path → Outcome → (old new : List Step) → Type 0
IsOfReplaced work path (Day answer) old new = Replaces work (names_in work path) (report_in work path) (stamp_in work path) (Ok answer) old new
IsOfReplaced work path DayFailed old new = Replaces work (names_in work path) (report_in work path) (stamp_in work path) (Err fault.Failed) old new
IsOfReplaced work path outcome old new = ⊥

-- what became of one whose original was to get its place again
abbrev pub IsOfRestored : DayWork → Path → Outcome → (old new : List Step) → Type 0
IsOfRestored work path (Undone answer) old new = RestoresDay (names_in work path) (stamp_in work path) (Ok answer) old new
IsOfRestored work path DayFailed old new = RestoresDay (names_in work path) (stamp_in work path) (Err fault.Failed) old new
IsOfRestored work path outcome old new = ⊥

-- what is told of a day of the records: that the archive does not have it; or nothing, if it does, or a call failed
abbrev pub IsOfSearched : DayWork → Path → Option Outcome → (old new : List Step) → Type 0
IsOfSearched work path None old new = (is_there old (joined work.root.now path) ≡ true) ⊎ (failures old < failures new)
IsOfSearched work path (Some Orphan) old new = is_there old (joined work.root.now path) ≡ false
IsOfSearched work path (Some outcome) old new = ⊥

-- What is told of a day of the records, which are left as they are.
pub record SearchesDay (work : DayWork) (path : Path) (outcome : Option Outcome) (old new : List Step) : Type 0 where
  pub looks : OnlyLooks old new
  pub is : IsOfSearched work path outcome old new

-- what is told of a day, if anything is
abbrev pub IsOfDay : Course → DayWork → Path → Option Outcome → (old new : List Step) → Type 0
IsOfDay course.Root work path None old new = ⊥
IsOfDay course.Root work path (Some outcome) old new = IsOfReplaced work path outcome old new
IsOfDay course.Out work path outcome old new = SearchesDay work path outcome old new
IsOfDay course.Aside work path None old new = ⊥
IsOfDay course.Aside work path (Some outcome) old new = IsOfRestored work path outcome old new

-- what is told of what is no day: of the archive alone why it is none
abbrev pub IsOfOther : Course → Path → FileKind → Option Outcome → Type 0
IsOfOther course.Root path kind outcome = (why : SdsFault) × IsNoDay path why × (outcome ≡ Some (other_outcome kind why))
IsOfOther course.Out path kind outcome = outcome ≡ None
IsOfOther course.Aside path kind outcome = outcome ≡ None

-- What is no day was told.
pub record TellsOther (on : Course) (path : Path) (kind : FileKind) (out0 out : Device) (old new : Progress) : Type 0 where
  pub outcome : Option Outcome
  pub told : TellsSaid (said_of path outcome) out0 out old new
  pub is : IsOfOther on path kind outcome

-- What is told of an entry. What is no day is left as it is.
pub record IsOfEntry (on : Course) (work : DayWork) (path : Path) (kind : FileKind) (outcome : Option Outcome) (old new : List Step) : Type 0 where
  pub day : IsDay path → IsOfDay on work path outcome old new
  pub other : ¬ (IsDay path) → IsOfOther on path kind outcome × (new ≡ old)

-- the folder that is walked
abbrev pub walked : Course → DayWork → Path
walked course.Root work = work.root.now
walked course.Out work = work.out.now
walked course.Aside work = work.aside.now

-- what is told of a folder that has no list; of one of records or originals that is not there nothing is
abbrev pub IsOfUnlisted : Course → DayWork → (folder : Path) → Option Outcome → (old : List Step) → Type 0
IsOfUnlisted on work folder None old = (on ≢ course.Root) × (is_there old (joined (walked on work) folder) ≡ false)
IsOfUnlisted on work folder (Some outcome) old = outcome ≡ Refused (unlisted_of on)

-- why a folder is left alone: another process works on it, and nothing is done; no way leads there; or a call failed
abbrev pub IsWhyPassed : Course → DayWork → (folder : Path) → Outcome → (old new : List Step) → Type 0
IsWhyPassed on work folder (Refused refusal.Busy) old new = new ≡ old
IsWhyPassed on work folder (Refused refusal.NoFolder) old new = (on ≢ course.Root) × LeadsBack work folder old false
IsWhyPassed on work folder FolderFailed old new = failures old < failures new
IsWhyPassed on work folder outcome old new = ⊥

-- A folder is left alone for that. No more is changed than what is in its making.
pub record PassesFolder (on : Course) (work : DayWork) (folder : Path) (outcome : Outcome) (old new : List Step) : Type 0 where
  pub why : IsWhyPassed on work folder outcome old new
  pub changes : ChangesOnly (all_parts_in work folder) old new

-- what is told of a folder that is left, whose originals are all back: that a call failed, or nothing
abbrev pub IsOfLeft : (folder : Path) → List Said → (old new : List Step) → Type 0
IsOfLeft folder said old new = (said ≡ []) ⊎ ((said ≡ only_line folder FolderFailed) × (failures old < failures new))

-- what is said of a visit, and done in it but of a day, if the tree has not failed before
abbrev pub IsSaidGoing : Course → DayWork → (old new : List Step) → Visit → List Said → Type 0
IsSaidGoing on work old new (Entry path kind) said = (outcome : Option Outcome) × (said ≡ said_of path outcome) × IsOfEntry on work path kind outcome old new
IsSaidGoing on work old new (WithoutList folder) said = (outcome : Option Outcome) × (said ≡ said_of (told_folder folder) outcome) × IsOfUnlisted on work folder outcome old × OnlyLooks old new
IsSaidGoing on work old new (Passed folder) said = (on ≢ course.Out) × (outcome : Outcome) × (said ≡ only_line folder outcome) × PassesFolder on work folder outcome old new
IsSaidGoing on work old new (Left folder) said = IsOfLeft folder said old new × ChangesOnly [] old new

-- what is said of a visit; after the tree has failed nothing is done
abbrev pub IsSaid : Course → DayWork → (old new : List Step) → Visit → List Said → Type 0
IsSaid on work old new visit said = ((said ≡ None ∷ []) × (new ≡ old)) ⊎ IsSaidGoing on work old new visit said

-- these entries of a folder were visited, each as it was at a moment of the walk, and this was said
abbrev pub IsCourse : Course → DayWork → List (Bor Path) → List Visit → List Said → (old new : List Step) → Type 0
IsCourse on work below = IsWalked (IsSaid on work) (TouchesDays on work) (TouchesDays on work) ⊥ (walked on work) (λ past new. AreEntriesBetween (TouchesDays on work) past new (walked on work) below)

-- What is done of the tree in a function that answers what may be told.
pub record DoesFor (on : Course) (work : DayWork) {A : Type 0} (Is : A → (old new : List Step) → Type 0) (result : Result A DeviceFault) (old new : List Step) : Type 0 where
  pub later : TouchesDays on work old new
  pub says : IfOk result (λ answer. Is answer old new)
