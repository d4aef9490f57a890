-- One more field.
use Rattle.std.proofs.Common.{◌≡◌, ◌<◌, ◌≤◌, ◌+◌, ◌*◌, ◌%◌, ◌^◌, ◌++◌, ◌∷◌, [], length, take, get_or, pos, arith, subst, sym, ap, ◌∙◌, refl, w32, SFits, bit_or, of_z, to_z, rules, lit<}
use Rattle.std.proofs.Math.Nat.{pow-le-pow_right, mul-le-mul_right}
use Rattle.std.proofs.lemmas.Int.{to_z-of_z}
use Rattle.std.proofs.lemmas.List.{take_more, take_all, length-take-le}
use Rattle.msr_steim.specs.Word.{FitsBits, joined_fields, twos_complement}
use Rattle.msr_steim.proofs.Fields.{all_fit_push, joined_fields_push, joined_fields_lt, push_field, field_bound}
use Rattle.msr_steim.proofs.word.fields_from.Goals as goal

pub loop-number-preserved : goal.loop-number-preserved
loop-number-preserved c =
    let width = c.args.width in
    let xs = c.args.numbers.now in
    let i = c.loop-number.number-index in
    let z = get_or xs i (pos 0) in
    let within : i < length xs = c.loop-number-test.true in
    let whole : SFits w32 z = search rules in
    let passed : to_z w32 (of_z w32 z) ≡ z = to_z-of_z w32 z whole in
    let fits : FitsBits width z = subst (FitsBits width) passed (c.in_ok-field_of.ensures.fits.0 refl) in
    let field : c.from.result ≡ twos_complement width z = c.from.ensures ∙ c.in_ok-field_of.ensures.same
    ∙ ap (twos_complement width) passed in
    let more : take (i + 1) xs ≡ take i xs ++ z ∷ [] = take_more xs i (pos 0) within in
    let number : length (take i xs) ≡ i = length-take-le i xs (omega arith) in
    let few : joined_fields width (take i xs) < 2 ^ (length (take i xs) * width) =
    joined_fields_lt width (take i xs) c.requires.positive c.loop-number.invariant.fit in
    let bound : c.loop-number.fields < 2 ^ (i * width) = rw c.loop-number.invariant.same (rw number at few) in
    let one : c.from.result < 2 ^ width = rw field (field_bound z width c.requires.positive fits) in
    let room : (i + 1) * width ≤ length xs * width = mul-le-mul_right width (omega arith) in
    let pushed : bit_or ((c.loop-number.fields * 2 ^ width) % 2 ^ 64) c.from.result
    ≡ c.loop-number.fields * 2 ^ width + c.from.result =
    push_field width i c.loop-number.fields c.from.result bound (omega (arith, c.requires.within)) one in
    record {
      fit = rw more (all_fit_push (FitsBits width) (take i xs) z c.loop-number.invariant.fit fits);
      same = pushed ∙ ap (λ n. n * 2 ^ width + c.from.result) c.loop-number.invariant.same
          ∙ ap (λ n. joined_fields width (take i xs) * 2 ^ width + n) field
          ∙ sym (joined_fields_push width (take i xs) z) ∙ ap (joined_fields width) (sym more);
    }

pub overflow_cast-result : goal.overflow_cast-result
overflow_cast-result c =
    let width = c.args.width in
    let xs = c.args.numbers.now in
    let i = c.loop-number.number-index in
    let all : take i xs ≡ xs = take_all i xs c.loop-number-test.false in
    let few : joined_fields width xs < 2 ^ (length xs * width) =
    joined_fields_lt width xs c.requires.positive (rw all at c.loop-number.invariant.fit) in
    let two : 0 < 2 = lit< tt in
    let most : 2 ^ (length xs * width) ≤ 2 ^ 32 =
    pow-le-pow_right {n = 2} two {i = length xs * width} {j = 32} c.requires.within in
    let same : c.loop-number.fields ≡ joined_fields width xs = rw all at c.loop-number.invariant.same in
    let bound : c.loop-number.fields < 4294967296 = omega arith in
    search (rules, bound)
