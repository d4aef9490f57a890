-- What packed records, a report and another input show when the two inputs are read side by side.
use Rattle.std.specs.Prelude.{ℕ, List, Option, None, Some, Result, Ok, Err}
use Rattle.msr_report.specs.declared.report.Report.{Report}
use Rattle.msr_input.specs.Input.{HasFirstFault}
use Rattle.msr_input.specs.declared.fault.Fault.{Fault}
use Rattle.msr_input.specs.declared.fault.ReadFault.TheVariants as fault
use Rattle.msr_compare.specs.Answers.{AreSame, DifferFirst, OtherHasFault}
use Rattle.msr_compare.specs.declared.comparison.Comparison.{Comparison}
use Rattle.msr_compare.specs.declared.comparison.Comparison.TheVariants.{Same, Differ}
use Rattle.msr_compare.specs.declared.comparison.Difference.{Difference}
use Rattle.msr_compare.specs.declared.comparison.SameSegments.{SameSegments}
use Rattle.msr_compare.specs.declared.fault.CompareFault.{CompareFault}
use Rattle.msr_compare.specs.declared.fault.CompareFault.TheVariants.{One, Other}
use Rattle.msr_verdict.specs.Packed.{ShowsLeast, DoesNotShow, settings_by}
use Rattle.msr_verdict.specs.declared.verdict.Verdict.{Verdict}
use Rattle.msr_verdict.specs.declared.verdict.Verdict.TheVariants.{Least, NotShown}

-- The report shows that the records are the fewest, and the other input has the same segments.
pub record AreShownSame (report : Report) (records other : List ℕ) (told : SameSegments) : Type 0 where
  pub shown : ShowsLeast report records
  pub same : AreSame (settings_by report) records other told

-- The report shows it, and this is the first difference of the segments.
pub record AreShownDifferent (report : Report) (records other : List ℕ) (difference : Difference) : Type 0 where
  pub shown : ShowsLeast report records
  pub differ : DifferFirst (settings_by report) records other difference

-- The report shows it, and the other input has this first fault.
pub record IsShownBesideFault (report : Report) (records other : List ℕ) (found : Fault) : Type 0 where
  pub shown : ShowsLeast report records
  pub faulty : OtherHasFault (settings_by report) records other found

-- What an answer says of the records and of the other input. A source that failed, and memory that was refused, say
-- nothing of them.
abbrev pub BesideAnswers : Report → (records other : List ℕ) → Result (Option Comparison) CompareFault → Type 0
BesideAnswers report records other (Ok None) = DoesNotShow report records
BesideAnswers report records other (Ok (Some (Same told))) = AreShownSame report records other told
BesideAnswers report records other (Ok (Some (Differ difference))) = AreShownDifferent report records other difference
BesideAnswers report records other (Err (One (fault.Input found))) = HasFirstFault (settings_by report) records found
BesideAnswers report records other (Err (Other (fault.Input found))) = IsShownBesideFault report records other found
BesideAnswers report records other (Err (One fault.Read)) = Unit {0}
BesideAnswers report records other (Err (One fault.Memory)) = Unit {0}
BesideAnswers report records other (Err (Other fault.Read)) = Unit {0}
BesideAnswers report records other (Err (Other fault.Memory)) = Unit {0}

-- what is answered of records with that verdict which were compared so: if the report does not show that they are the
-- fewest, nothing of the other input is told but that its source or memory failed
abbrev pub beside_answer : Verdict → Result Comparison CompareFault → Result (Option Comparison) CompareFault
beside_answer Least (Ok comparison) = Ok (Some comparison)
beside_answer NotShown (Ok comparison) = Ok None
beside_answer NotShown (Err (Other (fault.Input found))) = Ok None
beside_answer verdict (Err why) = Err why
