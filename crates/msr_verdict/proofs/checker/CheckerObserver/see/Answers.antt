use Rattle.msr_verdict.specs.Packed.{form_by}
use Rattle.msr_verdict.proofs.ComparingStates.{follows_step}
use Rattle.msr_verdict.proofs.checker.CheckerObserver.see.Goals as goal

pub returns : goal.returns
returns c = λ begun old new records found seen told. record {
  report_is = seen.report_is;
  follows = follows_step (form_by begun.report.now) begun.report.now.segments.items old new records found c.args.next.now
      _ _ _ seen.follows told.length_is told.row_is told.step (rw seen.report_is at c.full_row-row.ensures)
      (rw seen.report_is at c.in_ok-take.ensures);
}
