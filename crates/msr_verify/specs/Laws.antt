-- What comparing says of what was repacked.
use Rattle.std.specs.Prelude.{◌≡◌, ℕ, false, List, All, Result, Ok}
use Rattle.msr_segments.specs.declared.joiner.Segment.{Segment}
use Rattle.msr_report.specs.declared.report.Report.{Report}
use Rattle.msr_options.specs.Choice.{Choice, as_strict}
use Rattle.msr_compare.specs.Answers.{CompareAnswers, HasSegments, HaveSameSegments, IsOfInputs}
use Rattle.msr_compare.specs.declared.comparison.Comparison.{Comparison}
use Rattle.msr_compare.specs.declared.comparison.Comparison.TheVariants.{Same}
use Rattle.msr_compare.specs.declared.comparison.SameSegments.{SameSegments}
use Rattle.msr_compare.specs.declared.fault.CompareFault.{CompareFault}
use Rattle.msr_tool.specs.Answer.{IsRepacked}
use Rattle.msr_tool.specs.Settings.{settings_of}
use Rattle.msr_tool.specs.Shown.{EndsBeforeTheLast}

-- The two inputs have the same segments, joined with the tolerance of the choice, whatever its strictness.
abbrev pub AreSameBy : Choice → (one other : List ℕ) → Type 0
AreSameBy choice one other = HaveSameSegments (settings_of (as_strict false choice)) one other

-- None of the input's segments ends in the last microsecond of the supported years.
pub record EndsInTime (choice : Choice) (input : List ℕ) : Type 0 where
  pub segments : List Segment
  pub has : HasSegments (settings_of choice) input segments
  pub before : All EndsBeforeTheLast segments

-- what was repacked has the segments of its input
abbrev pub RepackedIsSame : Type 0
RepackedIsSame =
    (choice : Choice) (input written : List ℕ) (report : Report) → IsRepacked choice input written report
    → EndsInTime choice input
    → AreSameBy choice input written

-- and it has them without that condition, if it is readable
abbrev pub ReadableIsSame : Type 0
ReadableIsSame =
    (choice : Choice) (input written : List ℕ) (report : Report) (segments : List Segment)
    → IsRepacked choice input written report
    → HasSegments (settings_of (as_strict false choice)) written segments
    → AreSameBy choice input written

-- under it every answer of comparing the two says so, but that a source failed or that memory was refused
abbrev pub RepackedComparesAsSame : Type 0
RepackedComparesAsSame =
    (choice : Choice) (input written : List ℕ) (report : Report) (answer : Result Comparison CompareFault)
    → IsRepacked choice input written report
    → EndsInTime choice input
    → CompareAnswers (settings_of (as_strict false choice)) input written answer
    → IsOfInputs answer
    → (told : SameSegments) × (answer ≡ Ok (Same told))

-- inputs with the same segments are repacked to the same records
abbrev pub SameInputsHaveOneOutput : Type 0
SameInputsHaveOneOutput =
    (choice : Choice) (one other written again : List ℕ) (report another : Report) → AreSameBy choice one other
    → IsRepacked choice one written report
    → IsRepacked choice other again another
    → written ≡ again

-- and inputs that are repacked to the same records have the same segments
abbrev pub OneOutputHasSameInputs : Type 0
OneOutputHasSameInputs =
    (choice : Choice) (one other written : List ℕ) (report another : Report)
    → IsRepacked choice one written report
    → IsRepacked choice other written another
    → EndsInTime choice one
    → EndsInTime choice other
    → AreSameBy choice one other
