use Rattle.std.proofs.Common.{refl, arith, List, ◌+◌, ◌*◌, ◌++◌, length}
use Rattle.msr_report.specs.declared.report.SegmentLine.{SegmentLine}
use Rattle.msr_report_reader.specs.Content.{lines_before}
use Rattle.msr_report_reader.specs.declared.draft.Expected.TheVariants.{Separators}
use Rattle.msr_report_reader.proofs.Faults.{at_number, word_fault}
use Rattle.msr_report_reader.proofs.Steps.{word_step, read_to, refused}
use Rattle.msr_report_reader.proofs.draft.Draft.read_word.Goals as goal

pub returns-in_default : goal.returns-in_default
returns-in_default c = λ expected.
    let segments : List SegmentLine = c.args.self.now.segments.items in
    refused c.args.self.now _ c.args.text.now c.may_begin-begins.result c.args.text.now (1 + c.line_after.result) c.refuse.result refl
    (λ past more follows enough. at_number (past ++ (c.args.text.now ++ more))
    (2 + lines_before c.args.first.kinds + 2 * length segments)
    (1 + c.line_after.result) (omega (arith, c.line_after.ensures.line)) (word_fault c.args.first segments c.args.line c.may_begin-begins.result past
    c.args.text.now more (read_to c.args.self.now (Separators c.args.first c.args.line) past expected follows).0 (c.may_begin-begins.ensures more) enough
    c.in_default.ensures.only)) c.refuse.ensures

pub returns : goal.returns
returns c = λ expected.
    word_step c.args.self.now c.go_on.new.self c.args.first c.args.line c.in-Some.last c.args.text.now
    c.in-Some.rest.now _ expected c.in_ok-go_on.ensures c.in-Some.ensures.found refl
