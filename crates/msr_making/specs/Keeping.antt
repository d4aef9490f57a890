-- What is asked of what an earlier walk left of a day.
use Rattle.std.specs.Prelude.{◌≡◌, ℕ, Bool, true, IsTrue, List, Option, Some, IfSome, Result}
use Rattle.std.specs.declared.alloc.AllocError.{AllocError}
use Rattle.msr_options.specs.declared.days.DayOptions.{DayOptions}
use Rattle.msr_tree.specs.Steps.{Path, Step, seen}
use Rattle.msr_tree.specs.declared.facts.Kind.TheVariants.{Regular}
use Rattle.msr_naming.specs.declared.stamp.StampOf.{StampOf}
use Rattle.msr_naming.specs.declared.stamp.StampOf.TheVariants.{Input, Records}
use Rattle.msr_making.specs.Day.{GotSmaller, IsReportKept}
use Rattle.msr_making.specs.Looking.{Asks, IsDayLook}
use Rattle.msr_making.specs.Places.{DayPaths}
use Rattle.msr_making.specs.Told.{IsLeftEither}
use Rattle.msr_making.specs.declared.answer.Repacked.{Repacked}
use Rattle.msr_making.specs.declared.looks.DayLook.{DayLook}
use Rattle.msr_making.specs.declared.looks.Sight.{Sight}
use Rattle.msr_making.specs.declared.looks.Sight.TheVariants.{Found, Nothing, Unknown}

-- a name leads to a file with this text
abbrev pub AsksForText : Path → List ℕ → Result Bool AllocError → (old new : List Step) → Type 0
AsksForText path text result old new = Asks (λ sooner later answer. answer ≡ true → seen sooner path ≡ Some text) result old new

-- The counts are those of the report to which a name leads.
pub record IsReportThere (path : Path) (asked : DayOptions) (bytes_read : ℕ) (past : List Step) (repacked : Repacked) : Type 0 where
  pub is : IsReportKept asked repacked
  pub has : seen past path ≡ Some is.text
  pub read : repacked.bytes_read ≡ bytes_read

abbrev pub AsksForReport : Path → DayOptions → ℕ → Result (Option Repacked) AllocError → (old new : List Step) → Type 0
AsksForReport path asked bytes_read result old new =
    Asks (λ sooner later found. IfSome found (IsReportThere path asked bytes_read sooner)) result old new

-- which file the stamp is of, by what was found under the records' name
abbrev pub stamped_by : Sight → StampOf
stamped_by (Found facts) = Input
stamped_by Nothing = Records
stamped_by Unknown = Input

-- As many bytes of records are kept as the report tells, and if that is asked for, they are fewer than were read; or these
-- were read.
abbrev pub IsKeptBy : DayOptions → Repacked → Sight → Type 0
IsKeptBy asked repacked (Found facts) = (facts.kind ≡ Regular) × (facts.bytes ≡ repacked.bytes_written) × (IsTrue asked.only_smaller → GotSmaller repacked)
IsKeptBy asked repacked Nothing = repacked.bytes_written ≡ repacked.bytes_read
IsKeptBy asked repacked Unknown = ⊥

-- what is left of a day of which a look told this
abbrev pub AsksForKept : DayPaths → DayLook → DayOptions → Result (Option Repacked) AllocError → (old new : List Step) → Type 0
AsksForKept paths look asked result old new =
    Asks (λ sooner later found. IsDayLook paths look sooner → IfSome found (λ repacked. IsLeftEither asked paths repacked sooner)) result old new
