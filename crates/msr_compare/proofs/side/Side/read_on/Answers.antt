use Rattle.std.proofs.Common.{◌∙◌, arith, refl}
use Rattle.std.proofs.lemmas.Result.{err_from_is_err_and}
use Rattle.msr_devices.proofs.Chaining.{steady_steady}
use Rattle.msr_compare.specs.Sides.{Standing}
use Rattle.msr_compare.proofs.Draining.{draining, drains_no_more, no_memory}
use Rattle.msr_compare.proofs.Taking.{ends_as, taken_end, taken_one, weighs_less}
use Rattle.msr_compare.proofs.side.Side.read_on.Goals as goal

pub returns-in_err-next-clause-fetched : goal.returns-in_err-next-clause-fetched
returns-in_err-next-clause-fetched g c =
    let p = err_from_is_err_and c.from_residual.result c.from_residual.ensures.1 in
    rw (p.1, p.2) (λ begun settings start done h.
    let taken = rw (← c.self-in-records.view_is) at (c.records.invariant.taken begun settings start done h) in
    drains_no_more (g.R.Source.device c.next_record.new.source) c.in_err-next.field-0.0 (draining taken)
    (c.in_err-next.ensures.read start taken.records taken.answers taken.read))

pub returns-in_default-clause-fetched : goal.returns-in_default-clause-fetched
returns-in_default-clause-fetched g c = λ begun settings start done h.
    let taken = rw (← c.self-in-records.view_is) at (c.records.invariant.taken begun settings start done h) in
    let none = rw c.in_default.is at (c.in_ok-next.ensures.exact start taken.records taken.answers taken.read) in
    record { taken = taken_end taken none c.next_record.ensures.settings; some = λ e. refl }

pub returns-in_default-clause-weight : goal.returns-in_default-clause-weight
returns-in_default-clause-weight g c =
    let before = rw (← c.self-in-records.view_is) at c.records.invariant.weight_is in
    omega (arith, before)

pub returns-in_default-see-clause-fetched : goal.returns-in_default-see-clause-fetched
returns-in_default-see-clause-fetched g c = λ begun settings start done h.
    let taken = rw (← c.self-in-records.view_is) at (c.records.invariant.taken begun settings start done h) in
    let one = rw c.in-Some.is at (c.in_ok-next.ensures.exact start taken.records taken.answers taken.read) in
    no_memory one.read (c.next_record.ensures.settings ∙ taken.settings_are)

pub records-preserved : goal.records-preserved
records-preserved g c =
    let inside = c.self-in-records.inside in
    let at : Standing = record { reading = inside.reader; tally = inside.tally; ahead = inside.ahead; ended = inside.ended } in
    let source = g.R.Source.device c.records.source in
    let new = g.R.Source.device c.next_record.new.source in
    let going = rw (← c.self-in-records.view_is) at c.records.invariant.open_still in
    let none = c.is_empty.ensures.0 c.records-test.true in
    let told = c.in-Some.next.row in
    let step = rw c.in-Some.is at c.in_ok-next.ensures.step in
    let row = rw c.in-Some.is at c.in_ok-next.ensures.row in
    let bounds = rw c.in-Some.is at c.in_ok-next.ensures.in_bounds in
    let less = rw c.in-Some.is at c.in_ok-next.ensures.less in
    let before = rw (← c.self-in-records.view_is) at c.records.invariant.weight_is in
    let after = weighs_less source new at _ c.next_record.new.self told less going c.take.ensures row none in
    record {
      taken = λ begun settings start done h.
          let taken = rw (← c.self-in-records.view_is) at (c.records.invariant.taken begun settings start done h) in
          let one = rw c.in-Some.is at (c.in_ok-next.ensures.exact start taken.records taken.answers taken.read) in
          let is_seen = c.in-Ok.ensures begun _ _ taken.records one.found taken.is_seen
          (record { length_is = one.length_is; row_is = one.row_is; step = step }) in
          taken_one told one.found taken is_seen going none one.row_is one.read c.next_record.ensures.settings step row bounds
          c.take.ensures;
      weight_is = omega (arith, before, after);
      steady = steady_steady (g.R.Source.device c.args.source.now) source new c.records.invariant.steady
          c.in_ok-next.ensures.steady;
      open_still = ends_as _ c.take.new.self told c.take.ensures ∙ going;
    }
