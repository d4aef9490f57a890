use Rattle.std.proofs.Common.{rules, arith, ◌≡◌, ◌∙◌, ap, w32, SFits, slice_index_or, pos, ◌+◌, ◌-◌, ◌-ℤ◌}
use Rattle.std.proofs.lemmas.Int.{to_z-of_z}
use Rattle.std.specs.Prelude.{cond}
use Rattle.msr_words.specs.Bounds.{is_very_wide, is_wide}
use Rattle.msr_words.specs.Segment.{difference_at}
use Rattle.msr_words.proofs.Stretches.{difference_between, no_halves, very_wide_more, wide_more}
use Rattle.msr_words.proofs.WordRoom.{very_wide_one_at_most, wide_one_at_most}
use Rattle.msr_words.proofs.widths.count_halves.Goals as goal

pub loop-at-init : goal.loop-at-init
loop-at-init c = record { few = omega arith; sum = no_halves c.args.samples.now (c.args.start + 1) }

pub loop-at-preserved : goal.loop-at-preserved
loop-at-preserved c =
    let samples = c.args.samples.now in
    let at = c.loop-at.at in
    let before : SFits w32 (slice_index_or c.args.samples.now (c.loop-at.at - 1) (pos 0)) = search rules in
    let sample : SFits w32 (slice_index_or c.args.samples.now c.loop-at.at (pos 0)) = search rules in
    let is = simp to_z-of_z at c.halves_of-halves.ensures in
    let here : c.halves_of-halves.result ≡ cond (is_wide (difference_at c.args.samples.now c.loop-at.at)) 1 0
    + cond (is_very_wide (difference_at c.args.samples.now c.loop-at.at)) 1 0 =
    is ∙ ap (λ d. cond (is_wide d) 1 0 + cond (is_very_wide d) 1 0) (difference_between samples at (omega arith)) in
    let most = wide_one_at_most (difference_at samples at) in
    let most' = very_wide_one_at_most (difference_at samples at) in
    let few = c.loop-at.invariant.few in
    let sum = c.loop-at.invariant.sum in
    let wide = wide_more samples (c.args.start + 1) at (omega arith) (omega arith) in
    let very_wide = very_wide_more samples (c.args.start + 1) at (omega arith) (omega arith) in
    record { few = omega arith; sum = omega arith }

pub overflow_add-halves : goal.overflow_add-halves
overflow_add-halves c =
    let few = c.loop-at.invariant.few in
    let before : SFits w32 (slice_index_or c.args.samples.now (c.loop-at.at - 1) (pos 0)) = search rules in
    let sample : SFits w32 (slice_index_or c.args.samples.now c.loop-at.at (pos 0)) = search rules in
    let is = simp to_z-of_z at c.halves_of-halves.ensures in
    let most = wide_one_at_most (slice_index_or c.args.samples.now c.loop-at.at (pos 0)
    -ℤ slice_index_or c.args.samples.now (c.loop-at.at - 1) (pos 0)) in
    let most' = very_wide_one_at_most (slice_index_or c.args.samples.now c.loop-at.at (pos 0)
    -ℤ slice_index_or c.args.samples.now (c.loop-at.at - 1) (pos 0)) in
    omega arith
