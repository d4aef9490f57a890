-- Shifted up and down.
use Rattle.std.proofs.Common.{rules, ◌≡◌, ◌<◌, ◌≤◌, ◌+◌, ◌-◌, ◌*◌, ◌/◌, ◌%◌, ◌^◌, to_z, of_z, w32, SFits, arith, ap, ◌∙◌}
use Rattle.std.specs.Int.{int_shr}
use Rattle.std.proofs.Math.Nat.{mod-lt}
use Rattle.std.proofs.lemmas.Int.{to_z-of_z}
use Rattle.std.proofs.lemmas.Nat.{pow_pos}
use Rattle.msr_steim.specs.Word.{signed_of}
use Rattle.msr_steim.proofs.Shifts.{shifted_is, signed_fits}
use Rattle.msr_steim.proofs.Summing.{fits_w32}
use Rattle.msr_steim.proofs.word.difference_at.Goals as goal

pub returns : goal.returns
returns c =
    let width = c.args.width in
    let field = c.args.word / 2 ^ (c.args.below * width) % 2 ^ width in
    let z = c.cast_signed.result in
    let fits : SFits w32 z = search rules in
    let bits : to_z w32 (of_z w32 z) ≡ to_z w32 (c.args.word * 2 ^
    (32 - (c.args.below + 1) * width) % 4294967296) = to_z-of_z w32 z fits ∙ c.cast_signed.ensures in
    let down : int_shr (to_z w32 (of_z w32 z)) (32 - width) ≡ signed_of width field =
    ap (λ n. int_shr n (32 - width)) bits
    ∙ shifted_is c.args.word c.args.below width c.requires.positive c.requires.within in
    let small : field < 2 ^ width = mod-lt (c.args.word / 2 ^ (c.args.below * width)) (pow_pos width) in
    let few : width ≤ 32 = omega (arith, c.requires.within) in
    ap (λ n. to_z w32 (of_z w32 n)) down ∙ to_z-of_z w32 (signed_of width field)
    (fits_w32 width (signed_of width field) few (signed_fits width field c.requires.positive small))
