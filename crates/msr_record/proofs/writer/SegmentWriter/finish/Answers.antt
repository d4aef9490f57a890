use Rattle.std.proofs.lemmas.Result.{err_from_is_err_and}
use Rattle.msr_record.proofs.BetweenSegments.{written_all, stopped_all}
use Rattle.msr_record.proofs.writer.SegmentWriter.finish.Goals as goal

pub returns-in_err-flush-clause-written : goal.returns-in_err-flush-clause-written
returns-in_err-flush-clause-written g c start packed rows h =
    let p = err_from_is_err_and c.from_residual.result c.from_residual.ensures.1 in
    rw (p.1, p.2, ← c.self.view_is) (stopped_all start _ _ _ packed rows _
    (rw (← c.self.view_is) at h) c.in_err-flush.ensures.passes c.in_err-flush.ensures.failed)

pub returns-clause-written : goal.returns-clause-written
returns-clause-written g c start packed rows h =
    rw (← c.self.view_is) (written_all start _ _ _ packed rows (rw (← c.self.view_is) at h)
    (rw c.in_ok-flush.ensures.empty at c.in_ok-flush.ensures.passes) c.in_ok-flush.ensures.calm)
