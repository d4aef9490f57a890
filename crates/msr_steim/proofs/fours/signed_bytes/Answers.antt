-- By the eight bytes.
use Rattle.std.proofs.Common.{w8}
use Rattle.std.proofs.lemmas.Simd.{below_from_Fits}
use Rattle.msr_steim.proofs.ByteSums.{bytes_are}
use Rattle.msr_steim.proofs.fours.signed_bytes.Goals as goal

pub returns : goal.returns
returns c = bytes_are c.args.bytes c.fits-bytes.0 (below_from_Fits w8 c.args.bytes c.fits-bytes.1)
