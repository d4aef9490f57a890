use Rattle.std.proofs.Common.{rules, arith, List, ◌+◌, ◌*◌, ◌<◌, ◌++◌, length}
use Rattle.msr_report.specs.declared.report.SegmentLine.{SegmentLine}
use Rattle.msr_report_reader.specs.Content.{lines_before}
use Rattle.msr_report_reader.specs.declared.draft.Expected.TheVariants.{End}
use Rattle.msr_report_reader.proofs.Faults.{at_number, end_fault}
use Rattle.msr_report_reader.proofs.Steps.{read_to}
use Rattle.msr_report_reader.proofs.draft.Draft.read_nothing.Goals as goal

pub returns-else-is_empty : goal.returns-else-is_empty
returns-else-is_empty c = λ expected past more follows.
    let segments : List SegmentLine = c.args.self.now.segments.items in
    let some : 0 < length c.args.text.now = search rules in
    at_number (past ++ (c.args.text.now ++ more)) (2 + lines_before c.args.first.kinds + 2 * length segments)
    (1 + c.line_after.result)
    (omega (arith, c.line_after.ensures.line)) (end_fault c.args.first segments past c.args.text.now more
    (read_to c.args.self.now (End c.args.first) past expected follows) some)
