use Rattle.std.proofs.Common.{rules, arith, ◌≡◌, ◌≤◌, ◌<◌, ◌+◌, ◌-◌, bit_or, subst, w32, w64, SFits, slice_index_or, pos, IsTrue, nat_lt}
use Rattle.std.proofs.lemmas.Bool.Decides.{nat_tests}
use Rattle.std.proofs.lemmas.Int.{to_z-of_z}
use Rattle.std.proofs.lemmas.Nat.{le_or_l, le_or_r}
use Rattle.msr_words.specs.Laws.{IsNarrow}
use Rattle.msr_words.specs.Segment.{difference_at}
use Rattle.msr_words.specs.Window.{IsSize}
use Rattle.msr_words.specs.Bounds.{AreNarrow}
use Rattle.msr_words.proofs.Stretches.{difference_between, first_narrow, narrow_of_size, none_narrow, one_narrow}
use Rattle.msr_words.proofs.widths.are_narrow.Goals as goal

pub loop-at-init : goal.loop-at-init
loop-at-init c small = none_narrow c.args.samples.now (c.args.start + 1)

pub loop-at-preserved : goal.loop-at-preserved
loop-at-preserved c small =
    let samples = c.args.samples.now in
    let at = c.loop-at.at in
    let before : SFits w32 (slice_index_or c.args.samples.now (c.loop-at.at - 1) (pos 0)) = search rules in
    let sample : SFits w32 (slice_index_or c.args.samples.now c.loop-at.at (pos 0)) = search rules in
    let is = simp to_z-of_z at c.size_after-sizes.ensures in
    let there : IsSize (difference_at c.args.samples.now c.loop-at.at) c.size_after-sizes.result =
    subst (λ d. IsSize d c.size_after-sizes.result) (difference_between samples at (omega arith)) is in
    let old : c.loop-at.sizes ≤ bit_or c.loop-at.sizes c.size_after-sizes.result =
    le_or_l c.loop-at.sizes c.size_after-sizes.result in
    let new : c.size_after-sizes.result ≤ bit_or c.loop-at.sizes c.size_after-sizes.result =
    le_or_r c.loop-at.sizes c.size_after-sizes.result in
    one_narrow samples (c.args.start + 1) at (omega arith) (omega arith)
    (narrow_of_size (difference_at samples at) c.size_after-sizes.result there (omega arith))
    (c.loop-at.invariant (omega arith))

pub returns-then-is_narrow : goal.returns-then-is_narrow
returns-then-is_narrow c t =
    let less : c.loop-at.sizes < 16384 = (let h : IsTrue (nat_lt c.loop-at.sizes 16384) = t in
    grind (arith, nat_tests)) in
    let end : c.loop-at.at ≡ c.args.end = omega arith in
    let size : SFits w64 c.difference.result = search rules in
    let is = simp to_z-of_z at c.is_narrow.ensures in
    let first : IsNarrow c.difference.result = is.0 c.if-is_narrow.true in
    first_narrow c.args.samples.now c.args.start c.args.end (omega arith) (omega arith)
    (subst IsNarrow c.difference.ensures first)
    (subst (AreNarrow c.args.samples.now (c.args.start + 1)) end (c.loop-at.invariant less))
