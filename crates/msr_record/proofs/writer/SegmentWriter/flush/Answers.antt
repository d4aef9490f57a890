use Rattle.std.proofs.Common.{refl, false}
use Rattle.std.proofs.lemmas.Result.{err_from_is_err_and}
use Rattle.msr_record.specs.Writing.{Writing}
use Rattle.msr_record.proofs.OpenSegments.{appends_none, begun_failed, begun_more, writable_now}
use Rattle.msr_record.proofs.BetweenSegments.{stopped_all, written_some}
use Rattle.msr_record.proofs.writer.SegmentWriter.flush.Goals as goal

pub returns-in_err-flush-clause-written : goal.returns-in_err-flush-clause-written
returns-in_err-flush-clause-written g c = λ start packed rows h.
    let p = err_from_is_err_and c.from_residual.result c.from_residual.ensures.1 in
    rw (p.1, p.2, ← c.self.view_is) (stopped_all start _ _ _ packed rows _
    (rw (← c.self.view_is) at h) c.in_err-flush.ensures.passes c.in_err-flush.ensures.failed)

pub returns-in_err-flush-clause-begun : goal.returns-in_err-flush-clause-begun
returns-in_err-flush-clause-begun g c = λ start packed before opened can h.
    let p = err_from_is_err_and c.from_residual.result c.from_residual.ensures.1 in
    let w : Writing = record {
      form = c.self.inside.form;
      number = c.self.inside.number;
      waiting = c.self.inside.buffer.bytes.items;
    } in
    let was = rw (← c.self.view_is) at h in
    rw (p.1, p.2, ← c.self.view_is)
    (begun_failed start _ _ w packed before opened opened false w.waiting _ w.number
    (writable_now opened can before was.runs was.is_open was.samples) refl was
    (appends_none false before was.runs opened w.number w.waiting was.is_open) c.in_err-flush.ensures.passes
    c.in_err-flush.ensures.failed)

pub returns-clause-written : goal.returns-clause-written
returns-clause-written g c = λ start packed rows h.
    written_some start _ _ _ packed rows _
    (rw (← c.self.view_is) at h) c.in_ok-flush.ensures.passes c.in_ok-flush.ensures.calm

pub returns-clause-begun : goal.returns-clause-begun
returns-clause-begun g c = λ start packed before opened can h.
    let w : Writing = record {
      form = c.self.inside.form;
      number = c.self.inside.number;
      waiting = c.self.inside.buffer.bytes.items;
    } in
    let was = rw (← c.self.view_is) at h in
    begun_more start _ _ w packed before opened opened w.waiting _ w.number refl was
    (appends_none false before was.runs opened w.number w.waiting was.is_open) c.in_ok-flush.ensures.passes
    c.in_ok-flush.ensures.calm
