-- If no places are given, no sizes are told.
use Rattle.std.proofs.Common.{arith}
use Rattle.msr_packer.proofs.ToldSizes.{none_sized}
use Rattle.msr_packer.proofs.step.next_step.Goals as goal

pub returns-then-not-begins_small : goal.returns-then-not-begins_small
returns-then-not-begins_small c =
    (c.step_from.ensures.0, none_sized _ _ _ _ _ _ (omega (arith, c.step_from.ensures.1.room)))

pub returns-then-ne : goal.returns-then-ne
returns-then-ne c =
    (c.step_from-then-ne.ensures.0, none_sized _ _ _ _ _ _ (omega (arith, c.step_from-then-ne.ensures.1.room)))
