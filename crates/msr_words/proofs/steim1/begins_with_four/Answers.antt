use Rattle.std.proofs.Common.{rules, arith, w64, SFits}
use Rattle.std.proofs.lemmas.Int.{to_z-of_z}
use Rattle.msr_words.proofs.WordRoom.{four_begin}
use Rattle.msr_words.proofs.steim1.begins_with_four.Goals as goal

pub loop-at-init : goal.loop-at-init
loop-at-init c = tt

pub returns-then-not-fits_bits : goal.returns-then-not-fits_bits
returns-then-not-fits_bits c f b order within four =
    let size : SFits w64 c.difference.result = search rules in
    let is = simp to_z-of_z at c.fits_bits.ensures in
    let small = four_begin c.args.samples.now c.args.start b c.loop-at.at (omega arith)
    (omega arith) order within four in
    let fits = is.1 (rw c.difference.ensures small) in
    let not = c.if-not-fits_bits.true in
    cc

pub loop-at-preserved : goal.loop-at-preserved
loop-at-preserved c = tt
