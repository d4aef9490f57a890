use Rattle.std.proofs.Common.{arith, refl}
use Rattle.msr_arguments.proofs.words.default_task.Goals as goal

pub unwrap-length-requires : goal.unwrap-length-requires
unwrap-length-requires c = c.new.ensures.some.1
    (record { exponent = 9; least = omega arith; most = omega arith; power = refl })
