use Rattle.std.proofs.Common.{ap, arith, length-append, refl, rules, ◌||◌, Bool, List, ◌+◌, ◌*◌, ◌++◌, length}
use Rattle.msr_report.specs.declared.report.SegmentLine.{SegmentLine}
use Rattle.msr_report_reader.specs.Content.{lines_before}
use Rattle.msr_report_reader.specs.declared.draft.Expected.TheVariants.{Segment}
use Rattle.msr_report_reader.proofs.Begun.{one_of, other_of}
use Rattle.msr_report_reader.proofs.Faults.{at_number, segment_fault}
use Rattle.msr_report_reader.proofs.Steps.{opening_step, end_step, read_to, refused}
use Rattle.msr_report_reader.proofs.draft.Draft.read_segment.Goals as goal

pub returns-in-Some : goal.returns-in-Some
returns-in-Some c = λ expected.
    opening_step c.args.self.now _ c.args.first c.in-Some.line c.args.text.now c.in-Some.rest.now _ expected refl refl
    refl c.in-Some.ensures.is_key c.in-Some.ensures.range (search rules) (search rules) c.in-Some.ensures.found refl

pub returns-in-Some-last_line : goal.returns-in-Some-last_line
returns-in-Some-last_line c = λ expected.
    end_step c.args.self.now _ c.args.first c.args.text.now c.in-Some-last_line.rest.now _ expected refl refl refl
    (rw c.as_slice.ensures.value at c.in-Some-last_line.ensures.found) refl

pub returns : goal.returns
returns c = λ expected.
    let segments : List SegmentLine = c.args.self.now.segments.items in
    let begins : Bool = c.may_begin.result || c.may_begin-2.result in
    refused c.args.self.now _ c.args.text.now begins c.args.text.now c.line_after.result c.refuse.result refl
    (λ past more follows enough. at_number (past ++ (c.args.text.now ++ more))
    (1 + lines_before c.args.first.kinds + 2 * length segments)
    c.line_after.result c.line_after.ensures.line (segment_fault c.args.first segments begins past c.args.text.now more
    (read_to c.args.self.now (Segment c.args.first) past expected follows).0
    (λ x is. one_of c.may_begin.result c.may_begin-2.result (c.may_begin.ensures more x is))
    (λ x is. other_of c.may_begin.result c.may_begin-2.result (c.may_begin-2.ensures more x is)) enough c.in_default.ensures.only
    (rw c.as_slice.ensures.value at c.in_default-last_line.ensures.only))) c.refuse.ensures

pub overflow_sub-result : goal.overflow_sub-result
overflow_sub-result c = let same = simp length-append at (ap length c.in-Some.ensures.found.is) in omega (arith, same)

pub overflow_sub-result-in-Some-last_line : goal.overflow_sub-result-in-Some-last_line
overflow_sub-result-in-Some-last_line c =
    let same = simp length-append at (ap length c.in-Some-last_line.ensures.found.is) in omega (arith, same)
