use Rattle.std.proofs.Common.{rules, arith, ◌≡◌, ◌+◌, ◌-◌, ◌-ℤ◌, ◌%◌, pos, slice_index_or, sym, ap, subst, ◌∙◌, w32, SFits, to_z, of_z}
use Rattle.std.specs.Int.{int_wrap}
use Rattle.std.proofs.lemmas.Int.{to_z-of_z, wrapping_sub_is}
use Rattle.msr_words.specs.Segment.{difference_at}
use Rattle.msr_words.specs.Window.{IsSize}
use Rattle.msr_words.proofs.Pushes.{difference_at_later}
use Rattle.msr_words.proofs.Windows.{taken_more}
use Rattle.msr_words.proofs.window.Window.take.Goals as goal

pub loop-place-preserved : goal.loop-place-preserved
loop-place-preserved c =
    let before = slice_index_or c.args.samples.now (c.args.first + c.loop-place.place - 1) (pos 0) in
    let sample = slice_index_or c.args.samples.now (c.args.first + c.loop-place.place) (pos 0) in
    let fits : SFits w32 (slice_index_or c.args.samples.now (c.args.first + c.loop-place.place - 1) (pos 0)) =
    search rules in
    let fits' : SFits w32 (slice_index_or c.args.samples.now (c.args.first + c.loop-place.place) (pos 0)) =
    search rules in
    let is : difference_at c.args.samples.now (c.args.first + c.loop-place.place) ≡ sample -ℤ before =
    difference_at_later c.args.samples.now (c.args.first + c.loop-place.place) (omega (arith, c.requires.some)) in
    let size : IsSize (sample -ℤ before) c.size_after.result = simp to_z-of_z at c.size_after.ensures in
    taken_more c.args.samples.now c.args.first c.loop-place.place c.loop-place.self-inside.sizes
    c.loop-place.self-inside.kept
    c.size_after.result
    (to_z w32 ((of_z w32 sample + (4294967296 - of_z w32 before)) % 4294967296))
    (search rules) (search rules)
    (record {
      size_is = subst (λ d. IsSize d c.size_after.result) (sym is) size;
      cut = wrapping_sub_is w32 sample before fits' fits ∙ ap (int_wrap w32) (sym is);
    })
    c.loop-place.invariant
