-- The difference is there, or past the end.
use Rattle.std.proofs.Common.{rules, arith, lit<, ◌≡◌, ◌≤◌, ◌-◌, ◌^◌, drop, pos, slice_index_or, sym, subst, ◌∙◌, w64, SFits}
use Rattle.std.proofs.Math.Nat.{pow-le-pow_right}
use Rattle.std.proofs.lemmas.Int.{to_z-of_z}
use Rattle.std.proofs.lemmas.List.{length-drop}
use Rattle.msr_steim.specs.Word.{FitsBits}
use Rattle.msr_words.specs.Segment.{differences}
use Rattle.msr_words.specs.Window.{IsSize}
use Rattle.msr_words.proofs.FillSizes.{there}
use Rattle.msr_words.proofs.Plain.{length-differences}
use Rattle.msr_filling.proofs.steim1_filling.size_ahead.Goals as goal

pub returns-then-place-run : goal.returns-then-place-run
returns-then-place-run c width small =
    let l = length-drop c.args.at (differences c.args.before c.args.run.now) in
    let n = length-differences c.args.before c.args.run.now in
    let most : 2 ^ (width - 1) ≤ 2 ^ 31 = pow-le-pow_right {n = 2} (lit< tt) {i = width - 1} {j = 31} (omega arith) in
    (λ below. absurd (omega arith), λ fits. let h = fits.0 in absurd (omega arith))

pub returns : goal.returns
returns c width small =
    let l = length-drop c.args.at (differences c.args.before c.args.run.now) in
    let n = length-differences c.args.before c.args.run.now in
    let fits : SFits w64 c.difference_after.result = search rules in
    let size : IsSize c.difference_after.result c.magnitude.result = simp to_z-of_z at c.magnitude.ensures in
    let here : c.difference_after.result ≡ slice_index_or
    (drop c.args.at (differences c.args.before c.args.run.now)) c.args.ahead (pos 0) =
    c.difference_after.ensures ∙ sym (there c.args.before c.args.run.now c.args.at c.args.ahead (omega arith)) in (
      λ below. (omega arith, subst (FitsBits width) here ((size width).1 below)),
      λ is. (size width).0
          (subst (FitsBits width) (sym here) is.1),
    )
