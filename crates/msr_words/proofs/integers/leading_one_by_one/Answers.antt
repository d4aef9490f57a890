use Rattle.std.proofs.Common.{rules, arith, ◌≡◌, pos, sym, subst, w32, w64, SFits, length}
use Rattle.std.specs.Prelude.{slice_index_or}
use Rattle.std.proofs.lemmas.Int.{to_z-of_z}
use Rattle.msr_steim.specs.Word.{FitsBits}
use Rattle.msr_words.proofs.IntegerBits.{leading_there, none_of_all, one_of_all}
use Rattle.msr_words.proofs.integers.leading_one_by_one.Goals as goal

pub loop-at-init : goal.loop-at-init
loop-at-init c = none_of_all c.args.bits c.args.run.now

pub loop-at-preserved : goal.loop-at-preserved
loop-at-preserved c =
    let sample : SFits w32 (slice_index_or c.args.run.now c.loop-at.at (pos 0)) = search rules in
    let same : c.from.result ≡ slice_index_or c.args.run.now c.loop-at.at (pos 0) =
    simp to_z-of_z at c.from.ensures in
    let size : SFits w64 c.from.result = search rules in
    let is = simp to_z-of_z at c.fits_bits.ensures in
    one_of_all c.args.bits c.args.run.now c.loop-at.at (omega arith)
    (subst (FitsBits c.args.bits) same (is.0 c.if-not-fits_bits.false)) c.loop-at.invariant

pub returns-then-not-fits_bits : goal.returns-then-not-fits_bits
returns-then-not-fits_bits c =
    let sample : SFits w32 (slice_index_or c.args.run.now c.loop-at.at (pos 0)) = search rules in
    let same : c.from.result ≡ slice_index_or c.args.run.now c.loop-at.at (pos 0) =
    simp to_z-of_z at c.from.ensures in
    let size : SFits w64 c.from.result = search rules in
    let is = simp to_z-of_z at c.fits_bits.ensures in
    leading_there c.args.bits c.args.run.now c.loop-at.at c.loop-at.invariant
    (λ less fits. let t = is.1 (subst (FitsBits c.args.bits) (sym same) fits) in let not = c.if-not-fits_bits.true in cc)

pub returns : goal.returns
returns c =
    let end : c.loop-at.at ≡ length c.args.run.now = omega arith in
    rw (← end) (leading_there c.args.bits c.args.run.now c.loop-at.at c.loop-at.invariant
    (λ less. absurd (omega arith)))
