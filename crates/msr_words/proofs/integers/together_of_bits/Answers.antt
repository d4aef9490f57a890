use Rattle.std.proofs.Common.{rules, arith, ◌≡◌, pos, subst, w32, w64, SFits}
use Rattle.std.specs.Prelude.{slice_index_or}
use Rattle.std.proofs.lemmas.Int.{to_z-of_z}
use Rattle.std.proofs.lemmas.List.Elements.{All-take}
use Rattle.msr_steim.specs.Word.{FitsBits}
use Rattle.msr_words.proofs.IntegerBits.{all_of_all, none_together, one_together}
use Rattle.msr_words.proofs.integers.together_of_bits.Goals as goal

pub loop-at-init : goal.loop-at-init
loop-at-init c = none_together c.args.bits c.args.run.now

pub loop-at-preserved : goal.loop-at-preserved
loop-at-preserved c =
    let sample : SFits w32 (slice_index_or c.args.run.now c.loop-at.at (pos 0)) = search rules in
    let is = simp to_z-of_z at c.size_of-sizes.ensures in
    one_together c.args.bits c.args.run.now c.loop-at.at c.loop-at.sizes c.size_of-sizes.result (omega arith) is
    c.loop-at.invariant

pub returns : goal.returns
returns c =
    let same : c.from.result ≡ pos c.loop-at.sizes = c.from.ensures in
    let size : SFits w64 c.from.result = search rules in
    let is = simp to_z-of_z at c.fits_bits.ensures in
    let are = c.loop-at.invariant.are in (
      λ t. all_of_all c.args.bits c.args.run.now c.loop-at.at (omega arith)
          (are.0 (subst (FitsBits c.args.bits) same (is.0 t))),
      λ all. is.1 (rw same (are.1 (All-take (FitsBits c.args.bits) c.loop-at.at c.args.run.now all))),
    )
