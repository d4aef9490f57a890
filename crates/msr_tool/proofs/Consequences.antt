-- What follows from the answers.
use Rattle.std.proofs.Common.{◌≡◌, ◌≢◌, ◌∙◌, Bool, true, false, ℕ, List, refl, sym, ap, Result, Ok, Err}
use Rattle.std.specs.Prelude.{IfErr}
use Rattle.msr_base.specs.declared.counts.Counts.{Counts}
use Rattle.msr_report.specs.declared.report.Report.{Report}
use Rattle.msr_input.specs.declared.fault.Fault.{Fault}
use Rattle.msr_input.specs.Input.{AllAgree, OneListOfRecords, OneFirstFault, ReadableHasNoFault, counts_of}
use Rattle.msr_record.specs.Output.{OneOutput}
use Rattle.msr_tool.specs.Answer.{Answers, IsRepacked}
use Rattle.msr_tool.specs.Listing.{ListAnswers}
use Rattle.msr_tool.specs.declared.fault.ToolFault.{ToolFault}
use Rattle.msr_options.specs.Choice.{Choice, as_strict, form_chosen}
use Rattle.msr_tool.specs.Settings.{settings_of}
use Rattle.msr_tool.specs.Laws.{OneRepacking, OneRefusal, ReadableIsRepacked, ReadableIsListed, StrictWritesTheSame}
use Rattle.msr_tool.specs.declared.fault.ToolFault.TheVariants as fault

-- if the input has no fault and no device failed, there is no memory
memory_left : {T : Type 0} (Says : Result T ToolFault → Type 0)
    → ((found : Fault) → Says (Err (fault.Input found)) → ⊥) → ((line : ℕ) → Says (Err (fault.Report line)) → ⊥)
    → (result : Result T ToolFault) → Says result → result ≢ Err fault.Read → result ≢ Err fault.Write
    → IfErr result (λ found. found ≡ fault.Memory)
memory_left Says input report (Ok value) says not_read not_write = tt
memory_left Says input report (Err (fault.Input found)) says not_read not_write = absurd (input found says)
memory_left Says input report (Err (fault.Report line)) says not_read not_write = absurd (report line says)
memory_left Says input report (Err fault.Read) says not_read not_write = absurd (not_read refl)
memory_left Says input report (Err fault.Write) says not_read not_write = absurd (not_write refl)
memory_left Says input report (Err fault.Memory) says not_read not_write = refl

pub readable_repacked : ReadableHasNoFault → ReadableIsRepacked
readable_repacked law choice input written records segments result readable = memory_left (Answers choice input written)
    (λ found is. law (settings_of choice) input records is.records segments found readable is.first)
    (λ line is. is) result

pub readable_listed : ReadableHasNoFault → ReadableIsListed
readable_listed law form settings input written records segments result readable =
    memory_left (ListAnswers form settings input written)
    (λ found is. law settings input records is.records segments found readable is.first) (λ line is. is) result

pub repacking_alone : OneListOfRecords → OneOutput → OneRepacking
repacking_alone records_law output_law choice input written other report another one two =
    let same = records_law (settings_of choice) input one.records two.records _ _ one.readable two.readable in
    let outputs = output_law
    (form_chosen choice) one.packed two.packed one.rows two.rows written other same.1 one.output two.output in (
      outputs.2,
      one.is_report.counts ∙ ap counts_of same.0 ∙ sym two.is_report.counts,
      (one.packed, one.is_report.lines, rw (outputs.0) two.is_report.lines),
    )

pub refusal_alone : OneFirstFault → OneRefusal
refusal_alone law choice input written other found another one two =
    (law (settings_of choice) input one.records two.records found another one.first two.first).1

-- what was repacked, strictly or not
repacked_as : (a b : Bool) (choice : Choice) (input written : List ℕ) (report : Report)
    (is : IsRepacked (as_strict a choice) input written report) → AllAgree b is.records
    → IsRepacked (as_strict b choice) input written report
repacked_as a b choice input written report is agree = record {
  records = is.records;
  packed = is.packed;
  rows = is.rows;
  readable = record {
    are_read = record { begins = is.readable.are_read.begins; in_range = is.readable.are_read.in_range; agree = agree };
    are_segments = is.readable.are_segments;
  };
  output = is.output;
  same_segments = is.same_segments;
  is_report = assumption;
}

pub strict_writes : StrictWritesTheSame
strict_writes choice input written report = (
  λ is. (
    repacked_as true false choice input written report is (λ strict. absurd cc),
    ap (λ (c : Counts). c.mismatched) is.is_report.counts ∙ is.readable.are_read.agree refl,
  ),
  λ both. repacked_as false true choice input written report both.0
      (λ strict. sym (ap (λ (c : Counts). c.mismatched) both.0.is_report.counts) ∙ both.1),
)
