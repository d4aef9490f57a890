-- The field stands at the highest bit already.
use Rattle.std.proofs.Common.{rules, ◌≡◌, ◌<◌, ◌≤◌, ℕ, ◌+◌, ◌-◌, ◌*◌, ◌/◌, ◌%◌, ◌^◌, ℤ, to_z, of_z, w32, SFits, arith, ap, refl, sym, ◌∙◌}
use Rattle.std.specs.Int.{int_shr}
use Rattle.std.proofs.Math.Nat.{mod-eq_of_lt, mod-lt, pow-zero}
use Rattle.std.proofs.lemmas.Int.{to_z-of_z}
use Rattle.std.proofs.lemmas.Nat.{pow_pos}
use Rattle.msr_steim.specs.Word.{signed_of}
use Rattle.msr_steim.proofs.Shifts.{shifted_is, signed_fits}
use Rattle.msr_steim.proofs.Summing.{fits_w32}
use Rattle.msr_steim.proofs.sums.first_of_pair.Goals as goal

first_field : (word below width shift : ℕ) (z : ℤ) → word < 4294967296 → z ≡ to_z w32 word → SFits w32 z
    → 0 < width → (below + 1) * width ≡ 32 → shift ≡ 32 - width
    → to_z w32 (of_z w32 (int_shr (to_z w32 (of_z w32 z)) shift))
    ≡ signed_of width (word / 2 ^ (below * width) % 2 ^ width)
first_field word below width shift z small z_is fits positive whole shift_is =
    let field = word / 2 ^ (below * width) % 2 ^ width in
    let none : 32 - (below + 1) * width ≡ 0 = omega arith in
    let one : word * 1 ≡ word = omega arith in
    let same : word * 2 ^ (32 - (below + 1) * width) % 4294967296 ≡ word =
    ap (λ n. word * 2 ^ n % 4294967296) none ∙ ap (λ n. word * n % 4294967296) (pow-zero 2)
    ∙ ap (λ n. n % 4294967296) one ∙ mod-eq_of_lt small in
    let bits : to_z w32 (of_z w32 z) ≡ to_z w32 (word * 2 ^ (32 - (below + 1) * width) % 4294967296) =
    to_z-of_z w32 z fits ∙ z_is ∙ ap (to_z w32) (sym same) in
    let within : (below + 1) * width ≤ 32 = omega arith in
    let down : int_shr (to_z w32 (of_z w32 z)) shift ≡ signed_of width field =
    ap (int_shr (to_z w32 (of_z w32 z))) shift_is ∙ ap (λ n. int_shr n (32 - width)) bits
    ∙ shifted_is word below width positive within in
    let few : width ≤ 32 = grind arith in
    let bound : field < 2 ^ width = mod-lt (word / 2 ^ (below * width)) (pow_pos width) in
    ap (λ n. to_z w32 (of_z w32 n)) down ∙ to_z-of_z w32 (signed_of width field)
    (fits_w32 width (signed_of width field) few (signed_fits width field positive bound))

pub returns-clause-two : goal.returns-clause-two
returns-clause-two c is =
    let fits : SFits w32 c.cast_signed.result = search rules in
    first_field c.args.word 1 16 (16 * (3 - c.from.result)) c.cast_signed.result c.ranges.word.fits
    c.cast_signed.ensures fits (omega arith) refl (omega (arith, c.from.ensures, is))

pub returns-clause-one : goal.returns-clause-one
returns-clause-one c is =
    let fits : SFits w32 c.cast_signed.result = search rules in
    first_field c.args.word 0 32 (16 * (3 - c.from.result)) c.cast_signed.result c.ranges.word.fits
    c.cast_signed.ensures fits (omega arith) refl (omega (arith, c.from.ensures, is))
