use Rattle.std.proofs.Common.{refl, rules, arith, false, ℕ, List, ◌+◌, ◌*◌, ◌++◌, length}
use Rattle.msr_report.specs.declared.report.SegmentLine.{SegmentLine}
use Rattle.msr_report_reader.specs.declared.draft.Draft.{Draft}
use Rattle.msr_report_reader.specs.Content.{lines_before}
use Rattle.msr_report_reader.specs.declared.draft.Expected.TheVariants.{Number}
use Rattle.msr_report_reader.proofs.Faults.{at_number, number_fault}
use Rattle.msr_report_reader.proofs.Steps.{after_shorter, more_shorter, more_then, number_step, one_read, read_to, refused}
use Rattle.msr_report_reader.proofs.draft.Draft.read_numbers.Goals as goal

pub returns-in_default : goal.returns-in_default
returns-in_default c = λ expected.
    let segments : List SegmentLine = c.args.self.now.segments.items in
    refused c.args.self.now _ c.args.text.now c.may_be_number.result c.args.text.now (1 + c.line_after.result) c.refuse.result refl
    (λ past more follows enough. at_number (past ++ (c.args.text.now ++ more))
    (2 + lines_before c.args.first.kinds + 2 * length segments)
    (1 + c.line_after.result) (omega (arith, c.line_after.ensures.line)) (number_fault c.args.first segments c.args.line
    c.args.self.now.numbers.items c.may_be_number.result past c.args.text.now more
    (read_to c.args.self.now (Number c.args.first c.args.line) past expected follows)
    (λ n x small is. c.may_be_number.ensures n more x small is) enough c.in_default.ensures.only)) c.refuse.ensures

pub returns : goal.returns
returns c = λ expected.
    let numbers : List ℕ = c.args.self.now.numbers.items in
    let mid : Draft = record {
      alloc = c.args.self.now.alloc;
      expected = c.args.self.now.expected;
      segments = c.args.self.now.segments;
      numbers = c.more_separators.new.numbers;
    } in
    let one = one_read numbers c.push.new.self.items c.in-Some.n c.in-Some.last c.args.text.now c.in-Some.rest.now
    c.in_ok-push.ensures.items (search rules) c.in-Some.ensures.found in
    let less = after_shorter c.in-Some.n c.in-Some.last c.args.text.now c.in-Some.rest.now c.in-Some.ensures.found in
    let least = more_shorter c.push.new.self.items mid.numbers.items c.in-Some.last c.in_ok-last.last c.in-Some.rest.now
    c.in_ok-last.rest.now c.in_ok-last.ensures.read in
    number_step c.args.self.now mid c.go_on.new.self c.args.first c.args.line c.in_ok-last.last c.args.text.now
    c.in_ok-last.rest.now _ expected refl
    (more_then numbers c.push.new.self.items mid.numbers.items false c.in-Some.last c.in_ok-last.last c.args.text.now
    c.in-Some.rest.now c.in_ok-last.rest.now one c.in_ok-last.ensures.read)
    (omega (arith, less, least)) c.in_ok-go_on.ensures refl
