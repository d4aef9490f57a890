-- What comparing two inputs answers.
use Rattle.std.specs.Prelude.{◌≡◌, ℕ, List, length, Result, Ok, Err}
use Rattle.msr_rows.specs.declared.row.Record.{Record}
use Rattle.msr_segments.specs.declared.joiner.Segment.{Segment}
use Rattle.msr_input.specs.Input.{HasFirstFault, IsReadable, rows_of_records}
use Rattle.msr_input.specs.declared.settings.Settings.{Settings}
use Rattle.msr_input.specs.declared.fault.Fault.{Fault}
use Rattle.msr_input.specs.declared.fault.ReadFault.{ReadFault}
use Rattle.msr_input.specs.declared.fault.ReadFault.TheVariants as fault
use Rattle.msr_compare.specs.declared.comparison.Comparison.{Comparison}
use Rattle.msr_compare.specs.declared.comparison.Comparison.TheVariants.{Same, Differ}
use Rattle.msr_compare.specs.declared.comparison.SameSegments.{SameSegments}
use Rattle.msr_compare.specs.declared.comparison.Difference.{Difference}
use Rattle.msr_compare.specs.declared.fault.CompareFault.{CompareFault}
use Rattle.msr_compare.specs.declared.fault.CompareFault.TheVariants.{One, Other}
use Rattle.msr_compare.specs.Moves.{IsGreatestMove}
use Rattle.msr_compare.specs.Differences.{IsFirstDifference, samples_in}

-- the input is readable, and these are its segments
pub record HasSegments (settings : Settings) (input : List ℕ) (segments : List Segment) : Type 0 where
  pub records : List Record
  pub readable : IsReadable settings input records segments

-- the greatest distance of a record's time from the nominal instant of its first sample, in the input
pub record HasMoved (settings : Settings) (input : List ℕ) (micros : ℕ) : Type 0 where
  pub records : List Record
  pub segments : List Segment
  pub readable : IsReadable settings input records segments
  pub greatest : IsGreatestMove settings.tolerance (rows_of_records records) micros

-- both inputs are readable, and have the same segments
pub record HaveSameSegments (settings : Settings) (one other : List ℕ) : Type 0 where
  pub segments : List Segment
  pub one_has : HasSegments settings one segments
  pub other_has : HasSegments settings other segments

-- the same, with the numbers of their segments and samples, and how far the records of each have moved
pub record AreSame (settings : Settings) (one other : List ℕ) (told : SameSegments) : Type 0 where
  pub same : HaveSameSegments settings one other
  pub segments_are : told.segments ≡ length same.segments
  pub samples_are : told.samples ≡ samples_in same.segments
  pub one_moved : HasMoved settings one told.moved_one
  pub other_moved : HasMoved settings other told.moved_other

-- both inputs are readable, and this is the first difference of their segments
pub record DifferFirst (settings : Settings) (one other : List ℕ) (difference : Difference) : Type 0 where
  pub ones : List Segment
  pub others : List Segment
  pub one_has : HasSegments settings one ones
  pub other_has : HasSegments settings other others
  pub first : IsFirstDifference ones others difference

-- one input is readable, and the other has this first fault
pub record OtherHasFault (settings : Settings) (one other : List ℕ) (fault : Fault) : Type 0 where
  pub segments : List Segment
  pub one_has : HasSegments settings one segments
  pub faulty : HasFirstFault settings other fault

-- What an answer says of the two inputs. A source that failed and memory that was refused say nothing of them.
abbrev pub CompareAnswers : Settings → List ℕ → List ℕ → Result Comparison CompareFault → Type 0
CompareAnswers settings one other (Ok (Same told)) = AreSame settings one other told
CompareAnswers settings one other (Ok (Differ difference)) = DifferFirst settings one other difference
CompareAnswers settings one other (Err (One (fault.Input found))) = HasFirstFault settings one found
CompareAnswers settings one other (Err (Other (fault.Input found))) = OtherHasFault settings one other found
CompareAnswers settings one other (Err (One fault.Read)) = Unit {0}
CompareAnswers settings one other (Err (One fault.Memory)) = Unit {0}
CompareAnswers settings one other (Err (Other fault.Read)) = Unit {0}
CompareAnswers settings one other (Err (Other fault.Memory)) = Unit {0}

-- the answer is about the inputs: no source failed, and no memory was refused
abbrev pub IsOfFault : ReadFault → Type 0
IsOfFault (fault.Input found) = Unit {0}
IsOfFault fault.Read = ⊥
IsOfFault fault.Memory = ⊥

abbrev pub IsOfInputs : Result Comparison CompareFault → Type 0
IsOfInputs (Ok comparison) = Unit {0}
IsOfInputs (Err (One why)) = IsOfFault why
IsOfInputs (Err (Other why)) = IsOfFault why

-- two inputs have one answer
abbrev pub HaveOneAnswer : Type 0
HaveOneAnswer =
    (settings : Settings) (one other : List ℕ) (answer again : Result Comparison CompareFault)
    → IsOfInputs answer
    → IsOfInputs again
    → CompareAnswers settings one other answer
    → CompareAnswers settings one other again
    → answer ≡ again

-- It is `Same` exactly if both are readable and have the same segments.
abbrev pub SameIsExact : Type 0
SameIsExact =
    (settings : Settings) (one other : List ℕ) (answer : Result Comparison CompareFault) → IsOfInputs answer
    → CompareAnswers settings one other answer
    → HaveSameSegments settings one other
    → (told : SameSegments) × (answer ≡ Ok (Same told))

-- a readable input is the same as itself
abbrev pub SameIsReflexive : Type 0
SameIsReflexive =
    (settings : Settings) (input : List ℕ) (segments : List Segment) → HasSegments settings input segments
    → HaveSameSegments settings input input

-- the same told of two inputs in the other order
abbrev pub turned : SameSegments → SameSegments
turned told = record {
  segments = told.segments;
  samples = told.samples;
  moved_one = told.moved_other;
  moved_other = told.moved_one;
}

abbrev pub SameIsSymmetric : Type 0
SameIsSymmetric =
    (settings : Settings) (one other : List ℕ) (told : SameSegments) → AreSame settings one other told
    → AreSame settings other one (turned told)

-- what is told of the first and the last of three inputs
abbrev pub joined_telling : SameSegments → SameSegments → SameSegments
joined_telling first second = record {
  segments = first.segments;
  samples = first.samples;
  moved_one = first.moved_one;
  moved_other = second.moved_other;
}

abbrev pub SameIsTransitive : Type 0
SameIsTransitive =
    (settings : Settings) (one other third : List ℕ) (first second : SameSegments)
    → AreSame settings one other first
    → AreSame settings other third second
    → AreSame settings one third (joined_telling first second)
