-- What a dry run tells of the entries of an archive.
use Rattle.std.specs.Prelude.{◌≡◌, ◌≢◌, ⊤, ℕ, List, [], ◌∷◌}
use Rattle.msr_folders.specs.Days.{IsDay, IsNoDay}
use Rattle.msr_folders.specs.Entries.{AreEntriesOf, Entry as Found, Left, Passed, Visit, WithoutList}
use Rattle.msr_folders.specs.Paths.{joined, told_folder}
use Rattle.msr_folders.specs.Walks.{IsWalked}
use Rattle.msr_making.specs.declared.answer.DayFault.TheVariants.{Gone as WasGone, Listing}
use Rattle.msr_options.specs.declared.days.DayOptions.{DayOptions}
use Rattle.msr_options.specs.declared.task.Trying.{Trying}
use Rattle.msr_outcomes.specs.Entries.{Entry, IsDayOf}
use Rattle.msr_outcomes.specs.declared.outcome.Outcome.{Outcome}
use Rattle.msr_outcomes.specs.declared.outcome.Outcome.TheVariants.{Refused, Skipped}
use Rattle.msr_sds.specs.declared.SdsFault.{SdsFault}
use Rattle.msr_tree.specs.Reads.{OnlyReads}
use Rattle.msr_tree.specs.Steps.{Path, Step}
use Rattle.msr_tree.specs.declared.kind.FileKind.{FileKind}
use Rattle.msr_tree.specs.declared.kind.FileKind.TheVariants.{Gone}
use Rattle.msr_trial.specs.Days.{IsDayTried, WasTriedFor}

-- The entry is a day of this channel, with this outcome.
pub record IsTriedDay (days : DayOptions) (path channel : List ℕ) (outcome : Outcome) : Type 0 where
  pub day : IsDayOf path channel
  pub tried : WasTriedFor days outcome

-- what an outcome says of an entry
abbrev pub IsTriedAs : DayOptions → (path channel : List ℕ) → Outcome → Type 0
IsTriedAs days path channel (Skipped fault) = IsNoDay path fault
IsTriedAs days path channel (Refused WasGone) = ⊤
IsTriedAs days path channel (Refused Listing) = ⊤
IsTriedAs days path channel outcome = IsTriedDay days path channel outcome

pub record IsTrialEntry (days : DayOptions) (entry : Entry) : Type 0 where
  pub is : IsTriedAs days entry.path entry.channel entry.outcome

-- What is told of an entry, by what the names lead to: that it is gone, what repacking it would give if it is a day, and
-- else why it is none.
pub record IsTrialOfPath (days : DayOptions) (root path : Path) (kind : FileKind) (outcome : Outcome) (old new : List Step) : Type 0 where
  pub gone : kind ≡ Gone → outcome ≡ Refused WasGone
  pub day : kind ≢ Gone → IsDay path → IsDayTried days (joined root path) outcome old new
  pub other : kind ≢ Gone → ¬ (IsDay path) → (fault : SdsFault) × IsNoDay path fault × (outcome ≡ Skipped fault)

-- the one entry that is told of a visit
abbrev pub IsTrialOfVisit : (root : Path) → DayOptions → (old new : List Step) → Visit → List Entry → Type 0
IsTrialOfVisit root days old new (Found path kind) entries = (channel : Path) × (outcome : Outcome)
    × (entries ≡ record { path = path; channel = channel; outcome = outcome } ∷ [])
    × IsTrialOfPath days root path kind outcome old new
IsTrialOfVisit root days old new (WithoutList folder) entries =
    entries ≡ record { path = told_folder folder; channel = []; outcome = Refused Listing } ∷ []
IsTrialOfVisit root days old new (Passed folder) entries = ⊥
IsTrialOfVisit root days old new (Left folder) entries = entries ≡ []

-- What was told of an archive: of each entry, in order, by what its name led to. Nothing was changed.
abbrev pub IsArchiveTried : Trying → List Visit → List Entry → (old new : List Step) → Type 0
IsArchiveTried asked visits entries old new =
    IsWalked (IsTrialOfVisit asked.root.now asked.days) OnlyReads OnlyReads (Unit {0}) asked.root.now
    (λ past new. AreEntriesOf past asked.root.now asked.below.items) visits entries old new
