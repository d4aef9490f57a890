-- One more sum.
use Rattle.std.proofs.Common.{rules, ◌≡◌, ◌<◌, ◌+◌, ◌%◌, ◌∷◌, [], ◌++◌, length, take, get_or, pos, ◌+ℤ◌, to_z, of_z, w32, SFits, arith, ap, ◌∙◌, sym}
use Rattle.std.specs.Int.{int_wrap}
use Rattle.std.specs.Prelude.{slice_set}
use Rattle.std.proofs.lemmas.Int.{wrapping_add_onto}
use Rattle.std.proofs.lemmas.List.{take_more_set, length-take}
use Rattle.msr_steim.specs.Word.{numbers_in}
use Rattle.msr_steim.proofs.Shifts.{number_at, length-numbers_in}
use Rattle.msr_steim.proofs.Summing.{one_more_sum, last_of_push}
use Rattle.msr_steim.proofs.sums.write_sums.Goals as goal

pub loop-index-preserved : goal.loop-index-preserved
loop-index-preserved c =
    let before = to_z w32 (of_z w32 c.args.before) in
    let out = c.loop-index.out in
    let i = c.loop-index.index in
    let ds = numbers_in c.args.word c.args.width c.args.count in
    let d = c.difference_at-last.result in
    let v = to_z w32 ((c.loop-index.last-bits + of_z w32 d) % 4294967296) in
    let room : i < length out = omega (arith, c.loop-index-test.true, c.loop-index.auto.out) in
    let few : i < c.args.count = omega (arith, c.loop-index-test.true, c.requires.few) in
    let d_is : get_or ds i (pos 0) ≡ d = number_at c.args.word c.args.width c.args.count i few
    ∙ sym c.difference_at-last.ensures in
    let fits : SFits w32 d = search rules in
    let last = to_z w32 c.loop-index.last-bits in
    let v_is : v ≡ int_wrap w32 (last +ℤ d) = wrapping_add_onto w32 c.loop-index.last-bits d (search rules) fits in
    let within : i < length ds = omega (arith, few, length-numbers_in c.args.word c.args.width c.args.count) in
    let stored : take (i + 1) (slice_set out i v) ≡ take i out ++ v ∷ [] = take_more_set out i v room in
    let size : length (take i out) ≡ i = length-take i out ∙ omega (arith, room) in
    record {
      sums = stored ∙ one_more_sum before last d v ds
          (take i out) i within c.loop-index.invariant.sums c.loop-index.invariant.last d_is v_is;
      last = last_of_push before v (take i out) i (i + 1) size (omega arith)
          ∙ ap (λ s. get_or (before ∷ s) (i + 1) (pos 0)) (sym stored);
    }
