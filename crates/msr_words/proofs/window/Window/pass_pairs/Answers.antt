-- One word more.
use Rattle.std.proofs.Common.{arith}
use Rattle.msr_words.proofs.PairWalks.{pass_on}
use Rattle.msr_words.proofs.window.Window.pass_pairs.Goals as goal

pub loop-on-preserved : goal.loop-on-preserved
loop-on-preserved c =
    let step = c.size_at.ensures in
    record {
      later = omega (arith, c.loop-on.invariant.later);
      more = omega (arith, c.loop-on.invariant.more);
      few = omega (arith, c.if-on-last.true);
      walked = λ start walked.
          let window = rw (← c.self.view_is) at c.place_of.ensures.window in
          let on = pass_on c.args.samples.now _ c.in-Some.pairs c.args.walk.at start c.loop-on.on
          c.is_small_before.result window c.loop-on.invariant.later c.loop-on-test.true c.in-Some.ensures
          (rw step at c.is_small_before.ensures) (c.loop-on.invariant.walked start walked) in
          rw step on;
    }
