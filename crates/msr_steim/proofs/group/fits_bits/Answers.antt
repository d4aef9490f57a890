use Rattle.std.proofs.Common.{rules}
use Rattle.msr_steim.proofs.group.fits_bits.Goals as goal

pub returns-then-half-number : goal.returns-then-half-number
returns-then-half-number c = search rules
