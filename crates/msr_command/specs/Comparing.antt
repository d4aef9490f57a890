-- What comparing two inputs prints, and how it stops.
use Rattle.std.specs.Prelude.{◌≡◌, ℕ, List, [], ◌++◌, codes, false, take, Result, Ok, Err}
use Rattle.msr_devices.specs.Device.{Device, Takes}
use Rattle.msr_options.specs.Choice.{Choice}
use Rattle.msr_input.specs.declared.settings.Settings.{Settings}
use Rattle.msr_input.specs.declared.fault.ReadFault.TheVariants as read
use Rattle.msr_compare.specs.Answers.{CompareAnswers}
use Rattle.msr_compare.specs.Texts.{comparison_text}
use Rattle.msr_compare.specs.declared.comparison.Comparison.{Comparison}
use Rattle.msr_compare.specs.declared.fault.CompareFault.{CompareFault}
use Rattle.msr_compare.specs.declared.fault.CompareFault.TheVariants.{One, Other}
use Rattle.msr_tool.specs.declared.fault.ToolFault.{ToolFault}
use Rattle.msr_tool.specs.declared.fault.ToolFault.TheVariants as fault
use Rattle.msr_options.specs.declared.task.Comparing.{Comparing}
use Rattle.msr_command.specs.declared.task_fault.TaskFault.{TaskFault}
use Rattle.msr_command.specs.declared.task_fault.TaskFault.TheVariants.{Input, Tool}

-- both inputs are read with the tolerance of the options, and never strictly
abbrev pub compare_settings : Choice → Settings
compare_settings choice = record { tolerance = choice.tolerance; strict = false }

-- what an answer prints
abbrev pub comparison_lines : Comparison → List ℕ
comparison_lines comparison = comparison_text comparison ++ codes "\n"

-- the answer was printed, or else a part of it, or there was no memory for its text
abbrev pub TellsComparison : Comparison → (out0 out : Device) → Result (Unit {0}) ToolFault → Type 0
TellsComparison comparison out0 out (Ok told) = Takes out0 out (comparison_lines comparison)
TellsComparison comparison out0 out (Err (fault.Input found)) = ⊥
TellsComparison comparison out0 out (Err (fault.Report line)) = ⊥
TellsComparison comparison out0 out (Err fault.Read) = ⊥
TellsComparison comparison out0 out (Err fault.Write) = (n : ℕ) × Takes out0 out (take n (comparison_lines comparison))
TellsComparison comparison out0 out (Err fault.Memory) = Takes out0 out []

-- what the task ends with at this fault of one of its inputs; memory that was refused has no name
abbrev pub stop_of : Comparing → CompareFault → TaskFault
stop_of asked (One (read.Input found)) = Input asked.one (fault.Input found)
stop_of asked (One read.Read) = Input asked.one fault.Read
stop_of asked (One read.Memory) = Tool fault.Memory
stop_of asked (Other (read.Input found)) = Input asked.other (fault.Input found)
stop_of asked (Other read.Read) = Input asked.other fault.Read
stop_of asked (Other read.Memory) = Tool fault.Memory

-- The inputs have this answer, and it was printed.
pub record IsAnswered (choice : Choice) (first second printed : List ℕ) (comparison : Comparison) : Type 0 where
  pub answer : CompareAnswers (compare_settings choice) first second (Ok comparison)
  pub lines : printed ≡ comparison_lines comparison

-- The inputs have some answer, and a part of it was printed.
pub record IsAnsweredInPart (choice : Choice) (first second printed : List ℕ) : Type 0 where
  pub rest : List ℕ
  pub comparison : Comparison
  pub answered : IsAnswered choice first second (printed ++ rest) comparison

-- One of the inputs stops the task so, by its name.
pub record IsAtFault (choice : Choice) (asked : Comparing) (first second : List ℕ) (stop : TaskFault) : Type 0 where
  pub fault : CompareFault
  pub answer : CompareAnswers (compare_settings choice) first second (Err fault)
  pub stops : stop ≡ stop_of asked fault

-- what a fault says that no input has
abbrev pub StopsComparison : Choice → (first second printed : List ℕ) → ToolFault → Type 0
StopsComparison choice first second printed (fault.Input found) = ⊥
StopsComparison choice first second printed (fault.Report line) = ⊥
StopsComparison choice first second printed fault.Read = ⊥
StopsComparison choice first second printed fault.Write = IsAnsweredInPart choice first second printed
StopsComparison choice first second printed fault.Memory = printed ≡ []
