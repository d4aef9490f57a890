-- A lane for each bit.
use Rattle.std.proofs.Common.{ltb, arith, w32}
use Rattle.std.proofs.lemmas.Simd.{bitmask_splat}
use Rattle.msr_words.proofs.Masks.{compared}
use Rattle.msr_words.proofs.pairs.below.Goals as goal

pub returns : goal.returns
returns c = compared c.args.sizes.now c.args.limit _ c.told-sizes
    (bitmask_splat w32 ltb c.args.sizes.now 64 c.args.limit c.told-sizes (omega arith))
