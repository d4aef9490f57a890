use Rattle.std.proofs.Common.{rules, arith, ◌≡◌, ◌∙◌, ap, w32, SFits, slice_index_or, pos, ◌+◌, ◌-◌, ◌-ℤ◌}
use Rattle.std.proofs.lemmas.Int.{to_z-of_z}
use Rattle.std.specs.Prelude.{cond}
use Rattle.msr_words.specs.Bounds.{is_wide}
use Rattle.msr_words.specs.Segment.{difference_at}
use Rattle.msr_words.proofs.Stretches.{difference_between, no_wide, wide_more}
use Rattle.msr_words.proofs.WordRoom.{wide_one_at_most}
use Rattle.msr_words.proofs.widths.count_wide.Goals as goal

pub loop-at-init : goal.loop-at-init
loop-at-init c = record { few = omega arith; sum = no_wide c.args.samples.now (c.args.start + 1) }

pub loop-at-preserved : goal.loop-at-preserved
loop-at-preserved c =
    let samples = c.args.samples.now in
    let at = c.loop-at.at in
    let before : SFits w32 (slice_index_or c.args.samples.now (c.loop-at.at - 1) (pos 0)) = search rules in
    let sample : SFits w32 (slice_index_or c.args.samples.now c.loop-at.at (pos 0)) = search rules in
    let is = simp to_z-of_z at c.one_if_wide-wide.ensures in
    let here : c.one_if_wide-wide.result ≡ cond (is_wide (difference_at c.args.samples.now c.loop-at.at)) 1 0 =
    is ∙ ap (λ d. cond (is_wide d) 1 0) (difference_between samples at (omega arith)) in
    let most = wide_one_at_most (difference_at samples at) in
    let few = c.loop-at.invariant.few in
    let sum = c.loop-at.invariant.sum in
    let more = wide_more samples (c.args.start + 1) at (omega arith) (omega arith) in
    record { few = omega arith; sum = omega arith }

pub overflow_add-wide : goal.overflow_add-wide
overflow_add-wide c =
    let few = c.loop-at.invariant.few in
    let before : SFits w32 (slice_index_or c.args.samples.now (c.loop-at.at - 1) (pos 0)) = search rules in
    let sample : SFits w32 (slice_index_or c.args.samples.now c.loop-at.at (pos 0)) = search rules in
    let is = simp to_z-of_z at c.one_if_wide-wide.ensures in
    let most = wide_one_at_most (slice_index_or c.args.samples.now c.loop-at.at (pos 0)
    -ℤ slice_index_or c.args.samples.now (c.loop-at.at - 1) (pos 0)) in
    omega arith
