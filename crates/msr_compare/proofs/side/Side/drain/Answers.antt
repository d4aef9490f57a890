use Rattle.std.proofs.Common.{◌∙◌, ap, sym}
use Rattle.std.proofs.lemmas.Result.{err_from_is_err_and}
use Rattle.msr_devices.proofs.Chaining.{steady_can_count, steady_then_few}
use Rattle.msr_compare.specs.Sides.{Standing}
use Rattle.msr_compare.proofs.Draining.{drained_before, draining, drains_no_more, drains_row, drains_to_end, is_draining, steady_few, still_draining, unseen}
use Rattle.msr_compare.proofs.side.Side.drain.Goals as goal

pub returns-then-self-clause-drained : goal.returns-then-self-clause-drained
returns-then-self-clause-drained g c = λ begun settings start done h.
    drained_before h (ap (λ (s : Standing). s.ended) (sym c.self.view_is) ∙ c.if-self.true)

pub returns-then-self-clause-few : goal.returns-then-self-clause-few
returns-then-self-clause-few g c = λ settings start done h. steady_few h.read.came.steady

pub rows-init : goal.rows-init
rows-init g c =
    let begun = rw (← c.self.view_is) at c.requires in
    rw (← c.self.view_is) (record {
      draining = λ settings start done h. draining h;
      begun = is_draining begun;
      open_still = c.if-self.false;
      any = c.is_watching.ensures c.if-is_watching.false;
    })

pub next_outline-requires : goal.next_outline-requires
next_outline-requires g c =
    let b = c.rows.invariant.begun in
    steady_can_count b.start (g.R.Source.device c.rows.source) b.drains.read.came.steady b.can

pub returns-in_err-_next-clause-drained : goal.returns-in_err-_next-clause-drained
returns-in_err-_next-clause-drained g c =
    let p = err_from_is_err_and c.from_residual.result c.from_residual.ensures.1 in
    rw (p.1, p.2) (λ begun settings start done h.
    let d = c.rows.invariant.draining settings start done (unseen h) in
    drains_no_more (g.R.Source.device c.next_outline.new.source) c.in_err-_next.field-0.0 d
    (c.in_err-_next.ensures.read start d.records d.answers d.read))

pub returns-in_err-_next-clause-few : goal.returns-in_err-_next-clause-few
returns-in_err-_next-clause-few g c = λ settings start done h.
    steady_then_few start (g.R.Source.device c.rows.source) (g.R.Source.device c.next_outline.new.source)
    (c.rows.invariant.draining settings start done h).read.came.steady c.next_outline.ensures.few

pub rows-preserved : goal.rows-preserved
rows-preserved g c =
    let step = rw c.in-Some.is at c.in_ok-_next.ensures.step in
    record {
      draining = λ settings start done h.
          let d = c.rows.invariant.draining settings start done h in
          let one = rw c.in-Some.is at (c.in_ok-_next.ensures.read start d.records d.answers d.read) in
          drains_row d one c.next_outline.ensures.settings step;
      begun =
          let b = c.rows.invariant.begun in
          let d = b.drains in
          let one = rw c.in-Some.is at (c.in_ok-_next.ensures.read b.start d.records d.answers d.read) in
          still_draining b (drains_row d one c.next_outline.ensures.settings step);
      open_still = c.rows.invariant.open_still;
      any = c.rows.invariant.any;
    }

pub returns-clause-drained : goal.returns-clause-drained
returns-clause-drained g c = λ begun settings start done h.
    let d = c.rows.invariant.draining settings start done (unseen h) in
    let all = rw c.in_default.is at (c.in_ok-_next.ensures.read start d.records d.answers d.read) in
    drains_to_end d c.rows.invariant.open_still all c.next_outline.ensures.settings
    (c.rows.invariant.any begun)

pub returns-clause-few : goal.returns-clause-few
returns-clause-few g c = λ settings start done h.
    steady_then_few start (g.R.Source.device c.rows.source) (g.R.Source.device c.next_outline.new.source)
    (c.rows.invariant.draining settings start done h).read.came.steady c.next_outline.ensures.few
