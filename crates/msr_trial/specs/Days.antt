-- What repacking a day of an archive would give.
use Rattle.std.specs.Prelude.{◌≡◌, ◌<◌, ℕ, ⊤, List, length, Some, Result, Ok, Err, IfOk}
use Rattle.std.specs.declared.alloc.AllocError.{AllocError}
use Rattle.msr_devices.specs.Device.{Device, HasLeft, unused}
use Rattle.msr_tree.specs.Reads.{OnlyLooks}
use Rattle.msr_tree.specs.Steps.{Path, Step, failures, seen}
use Rattle.msr_tree.specs.declared.tree.TreeFault.{TreeFault}
use Rattle.msr_tree.specs.declared.tree.TreeFault.TheVariants.{Failed, Memory}
use Rattle.msr_options.specs.Choice.{Choice}
use Rattle.msr_options.specs.declared.days.DayOptions.{DayOptions}
use Rattle.msr_making.specs.Day.{AsksForAge, CountAnswers}
use Rattle.msr_making.specs.declared.answer.DayFault.TheVariants.{CannotOpen, Tool}
use Rattle.msr_outcomes.specs.Outcomes.{IsForDay}
use Rattle.msr_outcomes.specs.declared.outcome.Outcome.{Outcome}
use Rattle.msr_outcomes.specs.declared.outcome.Outcome.TheVariants.{Done, Refused, Young}
use Rattle.msr_trial.specs.declared.day.OpenDay.{OpenDay}

-- what an outcome says of some input, of which so many bytes were counted: some records and some text are its repack, with
-- these counts; or it is not repacked, for that fault
abbrev pub OutcomeAnswers : Choice → (bytes_read : ℕ) → (input records text : List ℕ) → Outcome → Type 0
OutcomeAnswers choice bytes_read input records text (Done repacked) =
    CountAnswers choice input records text (Ok repacked) × (repacked.bytes_read ≡ bytes_read)
OutcomeAnswers choice bytes_read input records text (Refused (Tool fault)) = CountAnswers choice input records text (Err fault)
OutcomeAnswers choice bytes_read input records text _ = ⊥

-- What the source has was packed.
pub record PacksFrom (choice : Choice) (source : Device) (bytes_read : ℕ) (outcome : Outcome) : Type 0 where
  pub input : List ℕ
  pub records : List ℕ
  pub text : List ℕ
  pub left : HasLeft source input
  pub answers : OutcomeAnswers choice bytes_read input records text outcome

-- Some input was packed.
pub record WasPacked (choice : Choice) (outcome : Outcome) : Type 0 where
  pub bytes_read : ℕ
  pub input : List ℕ
  pub records : List ℕ
  pub text : List ℕ
  pub answers : OutcomeAnswers choice bytes_read input records text outcome

-- The bytes to which a name leads were packed, all of them.
pub record IsPackedThere (choice : Choice) (path : Path) (outcome : Outcome) (past : List Step) : Type 0 where
  pub input : List ℕ
  pub records : List ℕ
  pub text : List ℕ
  pub has_input : seen past path ≡ Some input
  pub answers : OutcomeAnswers choice (length input) input records text outcome

-- what an outcome says of a file; nothing is known of the files of the system but that they have some bytes
abbrev pub WasTried : Choice → Outcome → Type 0
WasTried choice (Refused (CannotOpen unopened)) = ⊤
WasTried choice outcome = WasPacked choice outcome

-- what it says of the file to which a name leads
abbrev pub IsTriedThere : Choice → Path → Outcome → (old new : List Step) → Type 0
IsTriedThere choice path (Refused (CannotOpen unopened)) old new = failures old < failures new
IsTriedThere choice path outcome old new = IsPackedThere choice path outcome old

-- The same in the length that a day of an archive has, of whose days this is asked.
pub record WasTriedInLength (days : DayOptions) (outcome : Outcome) : Type 0 where
  pub asked : DayOptions
  pub for_day : IsForDay days asked
  pub was : WasTried asked.options outcome

pub record IsTriedInLength (days : DayOptions) (path : Path) (outcome : Outcome) (old new : List Step) : Type 0 where
  pub asked : DayOptions
  pub for_day : IsForDay days asked
  pub there : IsTriedThere asked.options path outcome old new

-- what an outcome says of a day: of one that is young that an age was asked for
abbrev pub WasTriedFor : DayOptions → Outcome → Type 0
WasTriedFor days Young = AsksForAge days
WasTriedFor days outcome = WasTriedInLength days outcome

abbrev pub IsDayTried : DayOptions → Path → Outcome → (old new : List Step) → Type 0
IsDayTried days path Young old new = AsksForAge days
IsDayTried days path outcome old new = IsTriedInLength days path outcome old new

-- A file was opened and looked at, or a call failed.
abbrev pub IsDayOpened : {R : Type 0} → Path → (R → Device) → Result (OpenDay R) TreeFault → (old new : List Step) → Type 0
IsDayOpened path device (Ok day) old new =
    (input : List ℕ) × (seen old path ≡ Some input) × (device day.source ≡ unused (Some input)) × (day.bytes ≡ length input)
IsDayOpened path device (Err Failed) old new = failures old < failures new
IsDayOpened path device (Err Memory) old new = ⊤

pub record OpensTriedDay {R : Type 0} (path : Path) (device : R → Device) (result : Result (OpenDay R) TreeFault) (old new : List Step) : Type 0 where
  pub looks : OnlyLooks old new
  pub opens : IsDayOpened path device result old new

-- A file was tried, and nothing changed.
pub record TriesFile (choice : Choice) (path : Path) (result : Result Outcome AllocError) (old new : List Step) : Type 0 where
  pub looks : OnlyLooks old new
  pub says : IfOk result (λ outcome. IsTriedThere choice path outcome old new)

-- A day was tried, and nothing changed.
pub record TriesDay (days : DayOptions) (path : Path) (result : Result Outcome AllocError) (old new : List Step) : Type 0 where
  pub looks : OnlyLooks old new
  pub says : IfOk result (λ outcome. IsDayTried days path outcome old new)
