-- What is answered when a task that writes a text stops, or has written it whole.
use Rattle.std.proofs.Common.{◌≡◌, ℕ, List, [], take, drop, refl, sym, ◌∙◌, inl, inr, Ok, Err}
use Rattle.std.proofs.lemmas.List.{take-append-drop}
use Rattle.msr_devices.specs.Device.{Device, HasLeft, Takes}
use Rattle.msr_devices.proofs.Chaining.{takes_none}
use Rattle.msr_report.specs.Text.{IsReportText}
use Rattle.msr_report.specs.Writing.{TakesPrefix}
use Rattle.msr_report.specs.declared.report.Report.{Report}
use Rattle.msr_devices.specs.declared.fault.DeviceFault.{DeviceFault}
use Rattle.msr_devices.specs.declared.fault.DeviceFault.TheVariants as write
use Rattle.msr_verdict.specs.declared.verdict.Verdict.{Verdict}
use Rattle.msr_tool.specs.Answer.{Answers}
use Rattle.msr_tool.specs.Checking.{CheckAnswers, IsChecked}
use Rattle.msr_options.specs.Choice.{Choice}
use Rattle.msr_tool.specs.Fault.{ReadsAndWrites, fault_of_writing}
use Rattle.msr_tool.specs.Tasks.{IsReportedInPart, ReportAnswers, Reports, TellsVerdict, VerdictAnswers, verdict_line}
use Rattle.msr_tool.specs.declared.fault.ToolFault.{ToolFault}
use Rattle.msr_tool.specs.declared.fault.ToolFault.TheVariants as fault

-- what is answered if nothing was told
untold : (choice : Choice) (input written : List ℕ) (why : ToolFault) → Answers choice input written (Err why)
    → ReportAnswers choice input written [] (Err why)
untold choice input written (fault.Input found) a = (a, refl)
untold choice input written (fault.Report line) a = absurd a
untold choice input written fault.Read a = record { stopped = a; untold = refl }
untold choice input written fault.Write a = inl (record { stopped = a; untold = refl })
untold choice input written fault.Memory a = inl (record { stopped = a; untold = refl })

-- repacking stops, and no call is made for the text
pub repack_stops : (choice : Choice) (source0 source records0 records text : Device) (why : ToolFault)
    → ReadsAndWrites (Answers choice) source0 source records0 records (Err why)
    → Reports choice source0 records0 records text text (Err why)
repack_stops choice source0 source records0 records text why does =
    let a = does.answer in
    record {
      input = a.0;
      written = a.1;
      told = [];
      left = a.2;
      wrote = a.3;
      told_all = takes_none text;
      answers = untold choice a.0 a.1 why a.4;
    }

cut_answers : (choice : Choice) (input written told : List ℕ) (why : DeviceFault) →
    IsReportedInPart choice input written told → ReportAnswers choice input written told (Err (fault_of_writing why))
cut_answers choice input written told write.Failed part = inr part
cut_answers choice input written told write.Memory part = inr part

-- the text of the report is not written whole
pub text_stops : (choice : Choice) (source0 source records0 records text0 text : Device) (whole : List ℕ)
    (report : Report) (why : DeviceFault) → ReadsAndWrites (Answers choice) source0 source records0 records (Ok report)
    → IsReportText report whole → TakesPrefix text0 text whole
    → Reports choice source0 records0 records text0 text (Err (fault_of_writing why))
text_stops choice source0 source records0 records text0 text whole report why does is_text prefix =
    let a = does.answer in
    record {
      input = a.0;
      written = a.1;
      told = prefix.taken;
      left = a.2;
      wrote = a.3;
      told_all = prefix.takes;
      answers = cut_answers choice a.0 a.1 prefix.taken why (record {
        report = report;
        rest = prefix.rest;
        reported = record { repacked = a.4; text = rw prefix.whole at is_text };
      });
    }

-- the text of the report is written whole
pub text_told : (choice : Choice) (source0 source records0 records text0 text : Device) (whole : List ℕ)
    (report : Report) → ReadsAndWrites (Answers choice) source0 source records0 records (Ok report)
    → IsReportText report whole → Takes text0 text whole → Reports choice source0 records0 records text0 text (Ok report)
text_told choice source0 source records0 records text0 text whole report does is_text took =
    let a = does.answer in
    record {
      input = a.0;
      written = a.1;
      told = whole;
      left = a.2;
      wrote = a.3;
      told_all = took;
      answers = record { repacked = a.4; text = is_text };
    }

-- what is answered if no call was made for the verdict
unspoken : (input text : List ℕ) (why : ToolFault) → CheckAnswers input text (Err why)
    → VerdictAnswers input text [] (Err why)
unspoken input text (fault.Input found) a = (a, refl)
unspoken input text (fault.Report line) a = (a, refl)
unspoken input text fault.Read a = refl
unspoken input text fault.Write a = absurd a
unspoken input text fault.Memory a = refl

-- checking stops, and no call is made for the verdict
pub check_stops : (packed report out : Device) (input text : List ℕ) (why : ToolFault) → HasLeft packed input →
    HasLeft report text → CheckAnswers input text (Err why) → TellsVerdict packed report out out (Err why)
check_stops packed report out input text why left left_text a = record {
  input = input;
  text = text;
  told = [];
  left = left;
  left_text = left_text;
  told_all = takes_none out;
  answers = unspoken input text why a;
}

-- the line of the verdict is written whole
pub line_told : (packed report out0 out : Device) (input text line : List ℕ) (verdict : Verdict) →
    HasLeft packed input → HasLeft report text → IsChecked input text (Ok verdict) → line ≡ verdict_line verdict →
    Takes out0 out line → TellsVerdict packed report out0 out (Ok verdict)
line_told packed report out0 out input text line verdict left left_text checked is_line took = record {
  input = input;
  text = text;
  told = line;
  left = left;
  left_text = left_text;
  told_all = took;
  answers = (checked, is_line);
}

-- the line of the verdict is not written whole
pub line_cut : (packed report out0 out : Device) (input text line : List ℕ) (n : ℕ) (verdict : Verdict) →
    HasLeft packed input → HasLeft report text → IsChecked input text (Ok verdict) → line ≡ verdict_line verdict →
    Takes out0 out (take n line) → TellsVerdict packed report out0 out (Err fault.Write)
line_cut packed report out0 out input text line n verdict left left_text checked is_line took = record {
  input = input;
  text = text;
  told = take n line;
  left = left;
  left_text = left_text;
  told_all = took;
  answers = record {
    verdict = verdict;
    rest = drop n line;
    checked = checked;
    line = sym is_line ∙ sym (take-append-drop n line);
  };
}
