use Rattle.std.proofs.Common.{◌∙◌, arith, refl}
use Rattle.std.proofs.lemmas.Result.{err_from_is_err_and}
use Rattle.msr_devices.proofs.Chaining.{steady_can_count, steady_steady, steady_then_few}
use Rattle.msr_compare.proofs.Draining.{can_count, draining, drains_no_more, drains_record, drains_seen, no_memory}
use Rattle.msr_compare.proofs.side.Side.see_rest.Goals as goal

pub records-init : goal.records-init
records-init g c = rw (← c.self.view_is) (record {
  draining = λ begun settings start done h. record { drains = draining h; is_seen = h.is_seen };
  steady = record { failures = refl; grows = omega arith; still = λ e. omega arith; moved = λ h. absurd (omega arith) };
})

pub next_record-requires : goal.next_record-requires
next_record-requires g c = steady_can_count (g.R.Source.device c.args.source.now) (g.R.Source.device c.records.source)
    c.records.invariant.steady (can_count c.requires.begins)

pub returns-in_err-last-clause-drained : goal.returns-in_err-last-clause-drained
returns-in_err-last-clause-drained g c =
    let p = err_from_is_err_and c.from_residual.result c.from_residual.ensures.1 in
    rw (p.1, p.2) (λ begun settings start done h.
    let d = (c.records.invariant.draining begun settings start done h).drains in
    drains_no_more (g.R.Source.device c.next_record.new.source) c.in_err-last.field-0.0 d
    (c.in_err-last.ensures.read start d.records d.answers d.read))

pub returns-in_err-last-clause-few : goal.returns-in_err-last-clause-few
returns-in_err-last-clause-few g c = λ settings start done h.
    steady_then_few start (g.R.Source.device c.records.source) (g.R.Source.device c.next_record.new.source)
    (steady_steady start (g.R.Source.device c.args.source.now) (g.R.Source.device c.records.source) h.read.came.steady
    c.records.invariant.steady) c.next_record.ensures.few

pub records-preserved : goal.records-preserved
records-preserved g c =
    let step = rw c.in-Some.is at c.in_ok-last.ensures.step in
    record {
      draining = λ begun settings start done h.
          let s = c.records.invariant.draining begun settings start done h in
          let d = s.drains in
          let one = rw c.in-Some.is at (c.in_ok-last.ensures.exact start d.records d.answers d.read) in
          let is_seen = c.in-Ok.ensures begun _ _ d.records one.found s.is_seen
          (record { length_is = one.length_is; row_is = one.row_is; step = step }) in
          rw c.give_back.ensures (drains_record c.in-Some.last.row one.found s one.row_is one.read
          c.next_record.ensures.settings step is_seen);
      steady = steady_steady (g.R.Source.device c.args.source.now) (g.R.Source.device c.records.source)
          (g.R.Source.device c.next_record.new.source) c.records.invariant.steady c.in_ok-last.ensures.steady;
    }

pub returns-in_default-see-clause-drained : goal.returns-in_default-see-clause-drained
returns-in_default-see-clause-drained g c = λ begun settings start done h.
    let d = (c.records.invariant.draining begun settings start done h).drains in
    let one = rw c.in-Some.is at (c.in_ok-last.ensures.exact start d.records d.answers d.read) in
    no_memory one.read (c.next_record.ensures.settings ∙ d.settings_are)

pub returns-in_default-see-clause-few : goal.returns-in_default-see-clause-few
returns-in_default-see-clause-few g c = λ settings start done h.
    steady_then_few start (g.R.Source.device c.records.source) (g.R.Source.device c.next_record.new.source)
    (steady_steady start (g.R.Source.device c.args.source.now) (g.R.Source.device c.records.source) h.read.came.steady
    c.records.invariant.steady) c.next_record.ensures.few

pub returns-clause-drained : goal.returns-clause-drained
returns-clause-drained g c = λ begun settings start done h.
    let s = c.records.invariant.draining begun settings start done h in
    let none = rw c.in_default.is at (c.in_ok-last.ensures.exact start s.drains.records s.drains.answers s.drains.read) in
    drains_seen s c.requires.going none c.next_record.ensures.settings

pub returns-clause-few : goal.returns-clause-few
returns-clause-few g c = λ settings start done h.
    steady_then_few start (g.R.Source.device c.records.source) (g.R.Source.device c.next_record.new.source)
    (steady_steady start (g.R.Source.device c.args.source.now) (g.R.Source.device c.records.source) h.read.came.steady
    c.records.invariant.steady) c.next_record.ensures.few
