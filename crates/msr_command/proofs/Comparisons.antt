-- How a comparison ends: answered, stopped, or before it begins.
use Rattle.std.proofs.Common.{◌≡◌, ℕ, List, [], take, drop, refl, subst, inl, inr, append-nil, Result, Ok, Err}
use Rattle.std.proofs.lemmas.List.{take-append-drop}
use Rattle.msr_devices.specs.Device.{Device, HasLeft, Takes}
use Rattle.msr_devices.proofs.Chaining.{takes_append, takes_none}
use Rattle.msr_compare.specs.Answers.{CompareAnswers}
use Rattle.msr_compare.specs.declared.comparison.Comparison.{Comparison}
use Rattle.msr_compare.specs.declared.fault.CompareFault.{CompareFault}
use Rattle.msr_input.specs.declared.settings.Settings.{Settings}
use Rattle.msr_tool.specs.declared.fault.ToolFault.{ToolFault}
use Rattle.msr_tool.specs.declared.fault.ToolFault.TheVariants as fault
use Rattle.msr_options.specs.Choice.{Choice}
use Rattle.msr_options.specs.declared.task.Comparing.{Comparing}
use Rattle.msr_command.specs.declared.done.Done.{Done}
use Rattle.msr_command.specs.declared.task_fault.TaskFault.{TaskFault}
use Rattle.msr_command.specs.declared.task_fault.TaskFault.TheVariants.{Tool}
use Rattle.msr_tree.specs.Steps.{Step}
use Rattle.msr_command.proofs.Inputs.{unread_unopened}
use Rattle.msr_command.specs.Comparing.{TellsComparison, compare_settings, comparison_lines, stop_of}
use Rattle.msr_command.specs.Ends.{Compares, ComparesNamed, CompareEnds, HasOpened, IsUnread, OverTwo}

-- what was tried before prints nothing
pub two_after : (opened : Type 0) (comes_one comes_other : List ℕ → Type 0)
    (says : (first second printed : List ℕ) → Type 0) (out0 out1 out : Device) → Takes out0 out1 []
    → OverTwo opened comes_one comes_other says out1 out → OverTwo opened comes_one comes_other says out0 out
two_after opened comes_one comes_other says out0 out1 out none does = record {
  first = does.first;
  second = does.second;
  printed = does.printed;
  come_one = does.come_one;
  come_other = does.come_other;
  prints = takes_append out0 out1 out [] does.printed none does.prints;
  ends = does.ends;
}

-- nothing was opened or printed
pub two_none : (opened : Type 0) (comes_one comes_other : List ℕ → Type 0)
    (says : (first second printed : List ℕ) → Type 0) (out0 out : Device) → (opened → ⊥) → Takes out0 out []
    → says [] [] [] → OverTwo opened comes_one comes_other says out0 out
two_none opened comes_one comes_other says out0 out unopened none ends = record {
  first = [];
  second = [];
  printed = [];
  come_one = λ is. absurd (unopened is);
  come_other = λ is. absurd (unopened is);
  prints = none;
  ends = ends;
}

-- an input cannot be opened, or is the output
pub compare_unread : (comes_one comes_other : List ℕ → Type 0) (choice : Choice) (asked : Comparing) (out : Device)
    (stop : TaskFault) → IsUnread stop
    → OverTwo (HasOpened (Err stop)) comes_one comes_other (CompareEnds choice asked (Err stop)) out out
compare_unread comes_one comes_other choice asked out stop is =
    two_none (HasOpened (Err stop)) comes_one comes_other (CompareEnds choice asked (Err stop)) out out
    (unread_unopened stop is) (takes_none out) (inr (inl (inl is), refl))

-- what was done over two inputs that come from names
pub two_known : {opened named : Type 0} {comes_one comes_other others_one others_other : List ℕ → Type 0}
    {says : (first second printed : List ℕ) → Type 0} {out0 out : Device}
    (does : OverTwo opened comes_one comes_other says out0 out) → (named → others_one does.first)
    → (named → others_other does.second) → OverTwo named others_one others_other says out0 out
two_known does come_one come_other = record {
  first = does.first;
  second = does.second;
  printed = does.printed;
  come_one = come_one;
  come_other = come_other;
  prints = does.prints;
  ends = does.ends;
}

-- the answer by settings that are those that are asked for
pub as_asked : (choice : Choice) (settings : Settings) (first second : List ℕ) (answer : Result Comparison CompareFault)
    → settings ≡ compare_settings choice → CompareAnswers settings first second answer
    → CompareAnswers (compare_settings choice) first second answer
as_asked choice settings first second answer same answers =
    let P : Settings → Type 0 = λ it. CompareAnswers it first second answer in
    subst P same answers

-- an input is at fault
pub compare_stops : (choice : Choice) (asked : Comparing) (one other out : Device) (first second : List ℕ) (why : CompareFault) →
    HasLeft one first → HasLeft other second → CompareAnswers (compare_settings choice) first second (Err why) →
    Compares choice asked one other out out (Err (stop_of asked why))
compare_stops choice asked one other out first second why left_one left_other answer = record {
  first = first;
  second = second;
  printed = [];
  come_one = λ opened. left_one;
  come_other = λ opened. left_other;
  prints = takes_none out;
  ends = inr (inl (inr (record { fault = why; answer = answer; stops = refl })), refl);
}

-- the answer is not printed, or not whole
pub compare_untold : (choice : Choice) (asked : Comparing) (one other out0 out : Device) (first second : List ℕ) (comparison : Comparison)
    (why : ToolFault) → HasLeft one first → HasLeft other second →
    CompareAnswers (compare_settings choice) first second (Ok comparison) →
    TellsComparison comparison out0 out (Err why) → Compares choice asked one other out0 out (Err (Tool why))
compare_untold choice asked one other out0 out first second comparison (fault.Input found) left_one left_other answer tells =
    absurd tells
compare_untold choice asked one other out0 out first second comparison (fault.Report line) left_one left_other answer tells =
    absurd tells
compare_untold choice asked one other out0 out first second comparison fault.Read left_one left_other answer tells =
    absurd tells
compare_untold choice asked one other out0 out first second comparison fault.Write left_one left_other answer tells = record {
  first = first;
  second = second;
  printed = take tells.0 (comparison_lines comparison);
  come_one = λ opened. left_one;
  come_other = λ opened. left_other;
  prints = tells.1;
  ends = inl (record {
    rest = drop tells.0 (comparison_lines comparison);
    comparison = comparison;
    answered = record { answer = answer; lines = take-append-drop tells.0 (comparison_lines comparison) };
  });
}
compare_untold choice asked one other out0 out first second comparison fault.Memory left_one left_other answer tells = record {
  first = first;
  second = second;
  printed = [];
  come_one = λ opened. left_one;
  come_other = λ opened. left_other;
  prints = tells;
  ends = inl refl;
}

-- what was printed is not stored
pub compare_unsettled : (went : List Step → Type 0) (choice : Choice) (asked : Comparing) (standard out0 out : Device)
    (done : Done) → ComparesNamed went choice asked standard out0 out (Ok done)
    → ComparesNamed went choice asked standard out0 out (Err (Tool fault.Write))
compare_unsettled went choice asked standard out0 out done does = record {
  first = does.first;
  second = does.second;
  printed = does.printed;
  come_one = does.come_one;
  come_other = does.come_other;
  prints = does.prints;
  ends = inl (record { rest = []; comparison = does.ends.0; answered = rw append-nil does.ends.2 });
}
