use Rattle.std.proofs.Common.{arith, None, Some}
use Rattle.msr_devices.proofs.Chaining.{steady_steady}
use Rattle.msr_compare.proofs.Agreeing.{fetched_both, met_so, pass_both, weighs_less_both}
use Rattle.msr_compare.proofs.comparing.agree.Goals as goal

pub returns-in-Err-clause-met : goal.returns-in-Err-clause-met
returns-in-Err-clause-met g c = λ begun settings start_one start_other h.
    let t = c.meetings.invariant.taken begun settings start_one start_other h in
    (c.in-Err.ensures.fetched begun settings start_one t.done t.one_taken, t.other_taken.read.came.steady)

pub returns-in-Err-fetch-clause-met : goal.returns-in-Err-fetch-clause-met
returns-in-Err-fetch-clause-met g c = λ begun settings start_one start_other h.
    let t = c.meetings.invariant.taken begun settings start_one start_other h in
    let f = c.in_default.ensures.fetched begun settings start_one t.done t.one_taken in (
      c.in-Err-fetch.ensures.fetched tt settings start_other t.done t.other_taken,
      record { done = t.done; taken = f.taken },
    )

pub returns-in-End-clause-met : goal.returns-in-End-clause-met
returns-in-End-clause-met g c = λ begun settings start_one start_other h.
    let t = c.meetings.invariant.taken begun settings start_one start_other h in
    let f = c.in_default.ensures.fetched begun settings start_one t.done t.one_taken in
    let k = c.in_default-fetch.ensures.fetched tt settings start_other t.done t.other_taken in
    met_so None (fetched_both f k) c.in-End.ensures.2 (c.in-End.ensures.0, c.in-End.ensures.1)

pub returns-in-Differ-clause-met : goal.returns-in-Differ-clause-met
returns-in-Differ-clause-met g c = λ begun settings start_one start_other h.
    let t = c.meetings.invariant.taken begun settings start_one start_other h in
    let f = c.in_default.ensures.fetched begun settings start_one t.done t.one_taken in
    let k = c.in_default-fetch.ensures.fetched tt settings start_other t.done t.other_taken in
    met_so (Some c.in-Differ.difference) (fetched_both f k) c.in-Differ.ensures.1 c.in-Differ.ensures.0

pub meetings-preserved : goal.meetings-preserved
meetings-preserved g c = record {
  taken = λ begun settings start_one start_other h.
      let t = c.meetings.invariant.taken begun settings start_one start_other h in
      let f = c.in_default.ensures.fetched begun settings start_one t.done t.one_taken in
      let k = c.in_default-fetch.ensures.fetched tt settings start_other t.done t.other_taken in
      pass_both (fetched_both f k) c.in-Agree.ensures;
  one_steady = steady_steady (g.One.Source.device c.args.one.now) (g.One.Source.device c.meetings.one)
      (g.One.Source.device c.fetch.new.source) c.meetings.invariant.one_steady c.in_default.ensures.steady;
  other_steady = steady_steady (g.Other.Source.device c.args.other.now) (g.Other.Source.device c.meetings.other)
      (g.Other.Source.device c.fetch-in-meetings.new.source) c.meetings.invariant.other_steady
      c.in_default-fetch.ensures.steady;
}

pub meetings-smaller : goal.meetings-smaller
meetings-smaller g c =
    let less = weighs_less_both (g.One.Source.device c.fetch.new.source)
    (g.Other.Source.device c.fetch-in-meetings.new.source) c.in-Agree.ensures in
    omega (arith, less, c.in_default.ensures.weight, c.in_default-fetch.ensures.weight)
