use Rattle.std.proofs.Common.{arith}
use Rattle.msr_words.specs.Fit.{records_of}
use Rattle.msr_check.proofs.HoldsBoth.{held, held_here}
use Rattle.msr_check.proofs.holds_both.Goals as goal

pub returns : goal.returns
returns c =
    let form = c.args.form in
    let samples = c.args.samples.now in
    let first = c.args.first in
    let second = c.args.second in (
      λ t. held (records_of form) samples first second c.requires.order c.requires.within c.args.kind first (omega arith)
          (c.fits.ensures.0 t),
      λ holds. c.fits.ensures.1 (held_here (records_of form) samples first second c.requires.order c.requires.within
          c.args.kind c.requires.alone holds),
    )
