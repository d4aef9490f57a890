-- What a walk tells of an archive, by what its names lead to, and what it changes, while nobody else changes them.
use Rattle.std.specs.Prelude.{◌≡◌, ◌≢◌, ℕ, Bool, List, [], ◌∷◌, IfOk, IsOk, Result, is_ok}
use Rattle.msr_devices.specs.Device.{Device, Takes}
use Rattle.msr_folders.specs.Days.{IsDay, IsNoDay}
use Rattle.msr_folders.specs.Entries.{AreEntriesOf, Entry as Found, Left, Passed, StandsWithin, Visit, WithoutList}
use Rattle.msr_folders.specs.Paths.{told_folder}
use Rattle.msr_folders.specs.Visits.{IsWalk, TellsThese}
use Rattle.msr_folders.specs.Walks.{IsWalked, VisitDoes}
use Rattle.msr_folders.specs.Within.{ChangesWithin}
use Rattle.msr_making.specs.Making.{IsOwnOfFile}
use Rattle.msr_making.specs.Places.{DayPaths}
use Rattle.msr_naming.specs.Naming.{day_paths}
use Rattle.msr_naming.specs.Promise.{HasOwn, HasReport, ShowsDay}
use Rattle.msr_making.specs.Told.{AreUntouched, IsLeftFor, IsOutcomeThere, stays_for}
use Rattle.msr_making.specs.declared.answer.DayFault.TheVariants.{CannotOpen, Gone as WasGone, Listing}
use Rattle.msr_making.specs.declared.answer.DayOutcome.{DayOutcome}
use Rattle.msr_making.specs.declared.answer.DayOutcome.TheVariants as outcomes
use Rattle.msr_folders.specs.Names.{day_name}
use Rattle.msr_options.specs.Days.{with_name}
use Rattle.msr_options.specs.declared.days.DayOptions.{DayOptions}
use Rattle.msr_options.specs.declared.task.Archiving.{Archiving}
use Rattle.msr_sds.specs.SdsPath.{ReadsAsDay, SdsPath}
use Rattle.msr_sds.specs.declared.SdsFault.{SdsFault}
use Rattle.msr_tree.specs.Calls.{Goes}
use Rattle.msr_tree.specs.Steps.{AtEachMoment, ChangesOnly, Path, Step, failures, now}
use Rattle.msr_tree.specs.declared.kind.FileKind.{FileKind}
use Rattle.msr_tree.specs.declared.kind.FileKind.TheVariants.{Gone}
use Rattle.msr_outcomes.specs.Entries.{Entry, IsTally}
use Rattle.msr_outcomes.specs.Known.{IsEntry, known_as}
use Rattle.msr_walk.specs.Files.{AreNamesOfDay, DayNames, HaveNames, LeavesMade, StaysMade, day_names, files_of, paths_of_names}
use Rattle.msr_walk.specs.Handling.{ChangesNames}
use Rattle.msr_walk.specs.Kills.{day_names_in}
use Rattle.msr_walk.specs.Losses.{ChangesDays, SettlesDays}
use Rattle.msr_outcomes.specs.Lines.{IsEntryLine}
use Rattle.msr_outcomes.specs.Outcomes.{IsForDay, of_day}
use Rattle.msr_outcomes.specs.Summary.{summary}
use Rattle.msr_walk.specs.Walk.{TellsWalked}
use Rattle.msr_walk.specs.declared.folders.Walked.{Walked}
use Rattle.msr_outcomes.specs.declared.outcome.Outcome.{Outcome}
use Rattle.msr_outcomes.specs.declared.outcome.Outcome.TheVariants.{Refused, Skipped}
use Rattle.msr_outcomes.specs.declared.tally.Tally.{Tally}

-- What an outcome says of a day by what its names lead to. No clause speaks of claims, links and missing folders, for which
-- a day may not be opened: of such a day only that is said which stays.
abbrev pub IsToldThere : DayOptions → DayPaths → DayOutcome → (old new : List Step) → Type 0
IsToldThere asked paths (outcomes.Refused (CannotOpen unopened)) old new = IsLeftFor (stays_for asked (CannotOpen unopened)) (CannotOpen unopened) paths old new
IsToldThere asked paths outcome old new = IsOutcomeThere asked paths outcome old new

-- what is done of an archive, after which the walk goes on or does not; no folder is listed
abbrev pub WorksFor : (goes_on : Bool) → Archiving → (old new : List Step) → Type 0
WorksFor goes_on archive = VisitDoes (ChangesDays goes_on archive) (Unit {0})

-- what is done of days that wait; no folder is listed
abbrev pub SettlesWaiting : Archiving → (old new : List Step) → Type 0
SettlesWaiting archive = VisitDoes (SettlesDays archive) (Unit {0})

-- What is done of days that wait: only these names lead elsewhere.
pub record SettlesNames (archive : Archiving) (names : List Path) (old new : List Step) : Type 0 where
  pub works : SettlesWaiting archive old new
  pub only : ChangesOnly names old new

-- Days wait no more. Nothing that is made of this one is touched.
pub record DropsWaiting (archive : Archiving) (path : Path) (old new : List Step) : Type 0 where
  pub works : SettlesWaiting archive old new
  pub still : HaveNames archive.folders.out.now archive.folders.reports.now → AreUntouched (paths_of_names (day_names_in archive path)) old new

-- An outcome was so of a day between two moments. Before, nothing was touched of what is made of it; after, its records and its
-- report stayed.
pub record ToldBetween (asked : DayOptions) (names : DayNames) (out reports : Path) (outcome : DayOutcome) (old new : List Step) : Type 0 where
  pub from : List Step
  pub to : List Step
  pub before : ChangesWithin out reports old from
  pub still : AreUntouched (paths_of_names names) old from
  pub there : IsToldThere asked (paths_of_names names) outcome from to
  pub after : ChangesWithin out reports to new
  pub stays : StaysMade names to new

-- A day of which this is asked was done, or left as it is, or refused. If its records have their own report before, they have it
-- at each moment since. If no call failed, it has its own at each moment since, and what is not seen of it cannot come back
-- once it was handled.
pub record HandlesDay {H E : Type 0} (outcome : H → DayOutcome) (names : DayNames) (out reports : Path) (asked : DayOptions)
    (result : Result H E) (old new : List Step) : Type 0 where
  pub changes : ChangesNames day_paths names old new
  pub killed : AreNamesOfDay names → (number : ℕ) (is_own : (records report : List ℕ) → Bool) → IsOwnOfFile names.input asked.options is_own old
      → HasReport is_own (files_of names number) old → AtEachMoment (HasReport is_own (files_of names number)) old new
  pub safe : failures new ≡ failures old → AreNamesOfDay names → (number : ℕ) (is_own : (records report : List ℕ) → Bool)
      (is_of : (stamp records report : List ℕ) → Bool) → IsOwnOfFile names.input asked.options is_own old → ShowsDay (files_of names number) old
      → HasOwn is_own is_of (files_of names number) old → AtEachMoment (HasOwn is_own is_of (files_of names number)) old new
  pub shows : failures new ≡ failures old → AreNamesOfDay names → IsOk result → (number : ℕ) → ShowsDay (files_of names number) old
      → ShowsDay (files_of names number) new
  pub says : AreNamesOfDay names → IfOk result (λ handled. ToldBetween asked names out reports (outcome handled) old new)

-- The outcome of a day of an archive of whose days this is asked is told, where it is so.
pub record IsDayTold (days : DayOptions) (names : DayNames) (out reports : Path) (outcome : Outcome) (old new : List Step) : Type 0 where
  pub asked : DayOptions
  pub for_day : IsForDay days asked
  pub of : DayOutcome
  pub same : outcome ≡ of_day of
  pub there : HaveNames out reports → ToldBetween asked names out reports of old new

-- A day was handled, and this is told of it.
pub record TellsDay {H E : Type 0} (outcome : H → Outcome) (archive : Archiving) (days : DayOptions) (path : Path)
    (result : Result H E) (old new : List Step) : Type 0 where
  pub works : WorksFor (is_ok result) archive old new
  pub changes : ChangesNames day_paths (day_names_in archive path) old new
  pub says : IfOk result (λ told. IsDayTold days (day_names_in archive path) archive.folders.out.now archive.folders.reports.now (outcome told) old new)

-- What is told of an entry: that it is gone, what became of it if it is a day, and else why it is none. Of what is no day
-- nothing is done. What is asked of a day may be that its segments are those of its path.
pub record IsToldOfPath (days : DayOptions) (names : DayNames) (out reports path : Path) (kind : FileKind) (outcome : Outcome) (old new : List Step) : Type 0 where
  pub gone : kind ≡ Gone → (outcome ≡ Refused WasGone) × (new ≡ old)
  pub day : kind ≢ Gone → IsDay path → (name : SdsPath) × ReadsAsDay path name × IsDayTold (with_name (day_name name) days) names out reports outcome old new
  pub other : kind ≢ Gone → ¬ (IsDay path) → (fault : SdsFault) × IsNoDay path fault × (outcome ≡ Skipped fault) × (new ≡ old)

-- the one entry that is told of a visit, as known if it is; what was made of other days stays
abbrev pub IsToldOfVisit : (root out reports : Path) → Archiving → (old new : List Step) → Visit → List Entry → Type 0
IsToldOfVisit root out reports asked old new (Found path kind) entries = (channel : Path) × (outcome : Outcome)
    × (entries ≡ record { path = path; channel = channel; outcome = known_as asked.known path outcome } ∷ [])
    × IsToldOfPath asked.days (day_names root out reports path) out reports path kind outcome old new
    × LeavesMade root out reports (λ other. other ≡ path) old new
IsToldOfVisit root out reports asked old new (WithoutList folder) entries = (entries ≡ record {
  path = told_folder folder;
  channel = [];
  outcome = known_as asked.known (told_folder folder) (Refused Listing);
} ∷ []) × (new ≡ old)
IsToldOfVisit root out reports asked old new (Passed folder) entries = ⊥
IsToldOfVisit root out reports asked old new (Left folder) entries = (entries ≡ []) × LeavesMade root out reports (λ other. ⊥) old new

-- What is done between visits: only what stands within the two folders is changed, and what was made of each day stays.
pub record RestsWithin (root out reports : Path) (old new : List Step) : Type 0 where
  pub within : ChangesWithin out reports old new
  pub leaves : LeavesMade root out reports (λ path. ⊥) old new

-- these entries were told, and are counted in a part of what changes
abbrev pub TellsOutcomesOf : {P : Type 0} → (P → Tally) → Archiving → List Entry → Device → Device → P → P → Type 0
TellsOutcomesOf tally asked = TellsThese (IsEntry asked) (IsEntryLine asked) (λ entries counted. IsTally entries (tally counted))

-- What was told of an archive: of each entry, in order, by what its names led to.
abbrev pub IsArchiveTold : Archiving → List Visit → List Entry → (old new : List Step) → Type 0
IsArchiveTold archive visits entries old new =
    let folders = archive.folders in
    IsWalked (IsToldOfVisit folders.root.now folders.out.now folders.reports.now archive) (ChangesWithin folders.out.now folders.reports.now)
    (RestsWithin folders.root.now folders.out.now folders.reports.now) (Unit {0}) folders.root.now (λ past new. AreEntriesOf past folders.root.now archive.below.items) visits entries old new

-- The whole text was printed: a line for each entry of the archive, in order, but for those that are left out, and then what
-- all of these sum up to.
pub record WalksTree (archive : Archiving) (before after : List Step → Type 0) (out0 out : Device) (walked : Walked) : Type 0 where
  pub visits : List Visit
  pub entries : List Entry
  pub printed : List ℕ
  pub prints : Takes out0 out printed
  pub text : IsWalk (IsEntry archive) (IsEntryLine archive) (summary archive) printed entries
  pub tells : TellsWalked entries walked
  pub goes : Goes before after (IsArchiveTold archive visits entries)

-- At each moment the names within a folder lead to what they led to.
pub record StaysWithin (root : Path) (old new : List Step) : Type 0 where
  pub each : AtEachMoment (λ past. (name : Path) → StandsWithin root name → now past name ≡ now old name) old new
