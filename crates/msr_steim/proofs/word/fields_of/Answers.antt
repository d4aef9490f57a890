-- One more field stands in the word.
use Rattle.std.proofs.Common.{SFits, w32, rules, ◌≡◌, ◌<◌, ◌+◌, ◌-◌, ◌*◌, ◌/◌, ◌%◌, ◌^◌, arith, ◌∙◌, ap, subst, sym}
use Rattle.std.proofs.lemmas.Int.{to_z-of_z}
use Rattle.std.proofs.lemmas.Nat.{pow_pos}
use Rattle.std.proofs.Math.Nat.{mod-lt}
use Rattle.msr_steim.specs.Word.{FitsBits, joined_fields, twos_complement}
use Rattle.msr_steim.proofs.Fields.{all_fit_push, next_field}
use Rattle.msr_steim.proofs.Shifts.{signed_fits, signed_same}
use Rattle.msr_steim.proofs.word.fields_of.Goals as goal

pub loop-below-preserved : goal.loop-below-preserved
loop-below-preserved c =
    let width = c.args.layout.width in
    let below = c.loop-below.below - 1 in
    let last : below + 1 ≡ c.loop-below.below = omega arith in
    let positive : 0 < width = c.requires.width (omega arith) in
    let part = c.args.word / 2 ^ (below * width) % 2 ^ width in
    let small : part < 2 ^ width = mod-lt (c.args.word / 2 ^ (below * width)) (pow_pos width) in
    let field : twos_complement width c.difference_at.result ≡ part =
    ap (twos_complement width) c.difference_at.ensures ∙ signed_same width part small in
    let fitting : FitsBits width c.difference_at.result =
    subst (FitsBits width) (sym c.difference_at.ensures) (signed_fits width part positive small) in
    let before : c.args.word % 2 ^ (c.args.layout.count * width)
    ≡ joined_fields width c.loop-below.group.items * 2 ^ ((below + 1) * width) + c.args.word % 2 ^
    ((below + 1) * width) = rw last c.loop-below.invariant.bits in
    let fits : SFits w32 c.difference_at.result = search rules in
    let items = rw (to_z-of_z w32 c.difference_at.result fits) at c.push.ensures.items in
    record {
      count = omega (arith, c.push.ensures.len);
      fit = rw items (all_fit_push
          (FitsBits width) c.loop-below.group.items c.difference_at.result c.loop-below.invariant.fit fitting);
      bits = rw items (next_field c.args.word below width
          (c.args.word % 2 ^ (c.args.layout.count * width)) c.loop-below.group.items c.difference_at.result
          before field);
    }
