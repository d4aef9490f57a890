use Rattle.std.proofs.Common.{arith, refl, subst, length-drop, List, ℕ, ◌++◌}
use Rattle.std.proofs.lemmas.Result.{err_from_is_err_and}
use Rattle.msr_report.specs.declared.report.Report.{Report}
use Rattle.msr_report_reader.specs.Reading.{IsReadFrom}
use Rattle.msr_report_reader.proofs.Steps.{left_cut, left_fault, left_taken, left_whole, taken_within, whole_report}
use Rattle.msr_report_reader.proofs.draft.Draft.finish.Goals as goal

pub returns-in_err-count-clause-fault : goal.returns-in_err-count-clause-fault
returns-in_err-count-clause-fault c = λ past follows.
    let p = err_from_is_err_and c.from_residual.result c.from_residual.ensures.1 in
    rw (p.1, p.2) (left_fault c.reading.self (past ++ c.args.text.now) c.reading.rest.now c.in_err-count.field-0.0
    (c.reading.invariant past follows) c.in_err-count.ensures)

pub reading-init : goal.reading-init
reading-init c = λ past follows. record { read = past; follows = follows; is = refl }

pub slice_bounds-rest-start : goal.slice_bounds-rest-start
slice_bounds-rest-start c =
    taken_within c.reading.self c.step.new.self c.reading.rest.now c.in-Consumed.count
    (rw c.in-Consumed.is at c.in_ok-count.ensures)

pub reading-smaller : goal.reading-smaller
reading-smaller c =
    let taken = rw c.in-Consumed.is at c.in_ok-count.ensures in
    let within = taken_within c.reading.self c.step.new.self c.reading.rest.now c.in-Consumed.count taken in
    omega (arith, within, taken.some, length-drop c.in-Consumed.count c.reading.rest.now)

pub reading-preserved : goal.reading-preserved
reading-preserved c = λ past follows.
    left_taken c.reading.self c.step.new.self (past ++ c.args.text.now) c.reading.rest.now c.in-Consumed.count
    (c.reading.invariant past follows) (rw c.in-Consumed.is at c.in_ok-count.ensures)

pub returns-in-Cut-clause-fault : goal.returns-in-Cut-clause-fault
returns-in-Cut-clause-fault c = λ past follows.
    left_cut c.reading.self c.step.new.self (past ++ c.args.text.now) c.reading.rest.now c.in-Cut.line
    (c.reading.invariant past follows) (rw c.in-Cut.is at c.in_ok-count.ensures)

pub returns-in-Whole-clause-found : goal.returns-in-Whole-clause-found
returns-in-Whole-clause-found c = λ past follows.
    let left = c.reading.invariant past follows in
    let whole = rw c.in-Whole.is at c.in_ok-count.ensures in
    let report : Report = record {
      length = c.in-Whole.first.length;
      kinds = c.in-Whole.first.kinds;
      tolerance = c.in-Whole.first.tolerance;
      counts = c.in-Whole.first.counts;
      segments = c.step.new.self.segments;
    } in
    subst (λ (t : List ℕ). IsReadFrom report t)
    (left_whole c.reading.self (past ++ c.args.text.now) c.reading.rest.now left whole.none)
    (whole_report report c.in-Whole.first left.read refl refl refl refl
    (rw whole.same (whole.read left.read left.follows)))
