use Rattle.std.proofs.Common.{◌≡◌, arith, length}
use Rattle.std.specs.Prelude.{min}
use Rattle.msr_segments.proofs.unequal.are_same.Goals as goal

pub returns : goal.returns
returns c =
    let end : c.places.at ≡ min (length c.args.ones.now) (length c.args.others.now) = omega arith in
    rw (← end) c.places.invariant
