-- By the part that was filled.
use Rattle.std.proofs.Common.{rules, refl, pos, get_or, to_z, of_z, ◌≡◌, ◌+◌, ◌-◌, length, take, drop, w32, SFits, arith, ◌∙◌}
use Rattle.std.proofs.lemmas.Int.{to_z-of_z}
use Rattle.std.proofs.lemmas.List.{length-take, length-drop}
use Rattle.std.proofs.lemmas.Slice.{take-put_mid}
use borrow.Rule.Slice.PartMut.{put_mid}
use Rattle.std.proofs.lemmas.Grind.{common_steps}
use Rattle.msr_steim.specs.Area.{sums_after}
use Rattle.msr_steim.specs.Word.{numbers_in}
use Rattle.msr_steim.proofs.Shifts.{length-numbers_in}
use Rattle.msr_steim.proofs.Summing.{all_written}
use Rattle.msr_steim.proofs.sums.write_group.Goals as goal

-- the last sample is the last one that was written
abbrev Last : goal.After-out-1 → Type 0
Last c = to_z w32 (of_z w32 c.write_sums-last.result) ≡ get_or (put_mid c.args.at.place (c.args.at.place
    + c.args.count - c.args.at.place) c.args.out.now c.write_sums-last.new.out)
    (c.args.at.place + c.args.count - 1) (pos 0)

last_is : (c : goal.After-out-1) → Last c
last_is c = grind (arith, common_steps)

pub returns : goal.returns
returns c =
    let out = c.args.out.now in
    let place = c.args.at.place in
    let ds = numbers_in c.args.word c.args.width c.args.count in
    let new = c.write_sums-last.new.out in
    let fits : SFits w32 c.args.at.last = search rules in
    let size : length (take (place + c.args.count - place) (drop place out)) ≡ c.args.count =
    length-take (place + c.args.count - place) (drop place out)
    ∙ omega (arith, length-drop place out, c.if-end-out.false) in
    let filled : new ≡ sums_after c.args.at.last
    (take (length (take (place + c.args.count - place) (drop place out))) ds) =
    rw (to_z-of_z w32 c.args.at.last fits) at c.write_sums-last.ensures.samples in
    let wide : length ds ≡ c.args.count = length-numbers_in c.args.word c.args.width c.args.count in
    let end : place + c.args.count ≡ place + length new = omega (arith, size, c.write_sums-last.auto.out) in
    record {
      place = refl;
      room = c.if-end-out.false;
      samples = take-put_mid place (place + c.args.count - place) out new (place + c.args.count) end
          (omega (arith, c.requires.room)) ∙ all_written out new ds c.args.at.last place
          (length (take (place + c.args.count - place) (drop place out))) filled (omega (arith, size, wide))
          (omega (arith, wide, c.if-end-out.false));
      last = last_is c;
    }
