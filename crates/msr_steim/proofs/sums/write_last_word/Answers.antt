-- By the part that was filled.
use Rattle.std.proofs.Common.{rules, ◌≡◌, ◌<◌, ◌≤◌, ◌+◌, ◌-◌, ◌/◌, length, take, drop, get_or, pos, to_z, of_z, w32, SFits, Some, arith, min, sym, ◌∙◌}
use Rattle.std.proofs.lemmas.Grind.{common_steps}
use Rattle.std.proofs.lemmas.Int.{to_z-of_z}
use Rattle.std.proofs.lemmas.List.{length-take, length-drop}
use Rattle.std.proofs.lemmas.Slice.{take-put_mid}
use borrow.Rule.Slice.PartMut.{put_mid}
use Rattle.msr_steim.specs.Area.{sums_after}
use Rattle.msr_steim.specs.Word.{layout_of, numbers_in}
use Rattle.msr_steim.proofs.OneList.{bits_of_fields}
use Rattle.msr_steim.proofs.Shifts.{length-numbers_in}
use Rattle.msr_steim.proofs.Summing.{far_written, group_written}
use Rattle.msr_steim.proofs.sums.write_last_word.Goals as goal

-- the last sample is the last one that was written
abbrev Last : goal.After-out-1 → Type 0
Last c = to_z w32 (of_z w32 c.write_sums-last.result) ≡ get_or (put_mid c.args.at.place
    (c.min-end.result - c.args.at.place) c.args.out.now c.write_sums-last.new.out) (c.min-end.result - 1) (pos 0)

last_is : (c : goal.After-out-1) → Last c
last_is c = grind (arith, common_steps)

pub returns-clause-some : goal.returns-clause-some
returns-clause-some c =
    let version = c.args.version in
    let code = c.args.code in
    let word = c.args.word in
    let out = c.args.out.now in
    let at = c.args.at in
    let count = c.in_ok-layout.layout.count in
    let width = c.in_ok-layout.layout.width in
    let end = c.min-end.result in
    let new = c.write_sums-last.new.out in
    let ds = numbers_in word width count in
    let layout : layout_of version code (word / 1073741824) ≡ Some c.in_ok-layout.layout =
    sym c.layout_for.ensures ∙ c.in_ok-layout.was in
    let some : 0 < count = omega (arith, c.if-layout-eq0.false) in
    let positive : 0 < width = bits_of_fields version code (word / 1073741824) c.in_ok-layout.layout layout some in
    let wide : length ds ≡ count = length-numbers_in word width count in
    let end_is : end ≡ min (length out) (at.place + count) = c.min-end.ensures in
    let within : end ≤ length out = omega (arith, end_is) in
    let after : at.place ≤ end = omega (arith, end_is, c.requires.room) in
    let m = length (take (end - at.place) (drop at.place out)) in
    let size : m ≡ end - at.place = length-take (end - at.place) (drop at.place out)
    ∙ omega (arith, length-drop at.place out, within) in
    let fits : SFits w32 at.last = search rules in
    let filled : new ≡ sums_after at.last (take m ds) =
    rw (to_z-of_z w32 at.last fits) at c.write_sums-last.ensures.samples in
    let far : at.place + m ≡ min (length out) (at.place + length ds) = omega (arith, size, after, end_is, wide) in
    let stored : end ≡ at.place + length new = omega (arith, size, after, c.write_sums-last.auto.out) in
    group_written version code word at out (put_mid at.place (end - at.place) out new)
    (record {
      place = end;
      last =
          to_z w32 (of_z w32 c.write_sums-last.result);
    }) count width layout positive within
    (take-put_mid at.place (end - at.place) out new end stored (omega (arith, c.requires.room))
    ∙ far_written out new ds at.last at.place m filled far)
    (last_is c)
