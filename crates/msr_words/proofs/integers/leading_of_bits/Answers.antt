use Rattle.std.proofs.Common.{arith, ◌+◌}
use Rattle.msr_words.proofs.IntegerBits.{leading_of_part, leading_there, more_of_all, none_of_all}
use Rattle.msr_words.proofs.integers.leading_of_bits.Goals as goal

pub loop-at-init : goal.loop-at-init
loop-at-init c = record { all = none_of_all c.args.bits c.args.run.now; some = omega arith }

pub loop-at-preserved : goal.loop-at-preserved
loop-at-preserved c = record {
  all = more_of_all c.args.bits c.args.run.now c.loop-at.at (c.loop-at.at + c.min.result) (omega arith) (omega arith)
      (c.together_of_bits.ensures.0 c.if-not-together_of_bits.false) c.loop-at.invariant.all;
  some = omega arith;
}

pub returns-then-not-together_of_bits : goal.returns-then-not-together_of_bits
returns-then-not-together_of_bits c =
    leading_of_part c.args.bits c.args.run.now c.loop-at.at (c.loop-at.at + c.min.result) c.leading_one_by_one.result
    (omega arith) (omega arith) c.loop-at.invariant.all c.leading_one_by_one.ensures
    (λ all. let t = c.together_of_bits.ensures.1 all in let not = c.if-not-together_of_bits.true in cc)

pub returns : goal.returns
returns c =
    leading_there c.args.bits c.args.run.now c.loop-at.at c.loop-at.invariant.all (λ less. absurd (omega arith))
