-- What follows from the answers: a readable input is refused by nothing but devices and memory, and an input has
-- one output and one refusal.
use Rattle.std.specs.Prelude.{◌≡◌, ◌≢◌, ◌↔◌, true, false, List, ℕ, Result, Err, IfErr}
use Rattle.msr_rows.specs.declared.row.Record.{Record}
use Rattle.msr_segments.specs.declared.joiner.Segment.{Segment}
use Rattle.msr_base.specs.declared.counts.Counts.{Counts}
use Rattle.msr_report.specs.declared.report.Report.{Report}
use Rattle.msr_input.specs.Input.{IsReadable}
use Rattle.msr_input.specs.declared.settings.Settings.{Settings}
use Rattle.msr_input.specs.declared.fault.Fault.{Fault}
use Rattle.msr_record.specs.Output.{Packed}
use Rattle.msr_options.specs.Choice.{Choice, as_strict}
use Rattle.msr_options.specs.declared.task.ListForm.{ListForm}
use Rattle.msr_tool.specs.Settings.{settings_of}
use Rattle.msr_tool.specs.Answer.{AreLinesOf, IsRepacked, IsRefusedAt, Answers}
use Rattle.msr_tool.specs.Listing.{ListAnswers}
use Rattle.msr_tool.specs.declared.fault.ToolFault.{ToolFault}
use Rattle.msr_tool.specs.declared.fault.ToolFault.TheVariants.{Read, Write, Memory}

-- if no device failed, a readable input is repacked, or there is no memory
abbrev pub ReadableIsRepacked : Type 0
ReadableIsRepacked =
    (choice : Choice) (input written : List ℕ) (records : List Record) (segments : List Segment)
    (result : Result Report ToolFault)
    → IsReadable (settings_of choice) input records segments
    → Answers choice input written result
    → result ≢ Err Read → result ≢ Err Write
    → IfErr result (λ fault. fault ≡ Memory)

-- if no device failed, a readable input is listed, or there is no memory
abbrev pub ReadableIsListed : Type 0
ReadableIsListed =
    (form : ListForm) (settings : Settings) (input written : List ℕ) (records : List Record)
    (segments : List Segment) (result : Result Counts ToolFault)
    → IsReadable settings input records segments
    → ListAnswers form settings input written result
    → result ≢ Err Read → result ≢ Err Write
    → IfErr result (λ fault. fault ≡ Memory)

-- an input has one output, and the lines of its reports are those of the same packings
abbrev pub OneRepacking : Type 0
OneRepacking =
    (choice : Choice) (input written other : List ℕ) (report another : Report)
    → IsRepacked choice input written report
    → IsRepacked choice input other another
    → (written ≡ other) × (report.counts ≡ another.counts)
    × ((packed : List Packed) × AreLinesOf packed report.segments.items × AreLinesOf packed another.segments.items)

-- an input has one refusal
abbrev pub OneRefusal : Type 0
OneRefusal =
    (choice : Choice) (input written other : List ℕ) (fault another : Fault)
    → IsRefusedAt choice input written fault
    → IsRefusedAt choice input other another
    → fault ≡ another

-- Strict or not, the same is written: an input is repacked strictly exactly when it is repacked otherwise, and the
-- report counts no record whose reverse constant does not agree.
abbrev pub StrictWritesTheSame : Type 0
StrictWritesTheSame =
    (choice : Choice) (input written : List ℕ) (report : Report)
    → IsRepacked (as_strict true choice) input written report
    ↔ (IsRepacked (as_strict false choice) input written report × (report.counts.mismatched ≡ 0))
