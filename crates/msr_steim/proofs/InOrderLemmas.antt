-- The samples of an area in order are those that it carries.
use Rattle.std.proofs.Common.{◌≡◌, ◌<◌, ◌≤◌, ℕ, zero, suc, ◌+◌, ◌-◌, ◌*◌, ◌/◌, ◌%◌, ◌^◌, ℤ, pos, ◌+ℤ◌, List, [], ◌∷◌, ◌++◌, length, take, get_or, refl, sym, ap, ◌∙◌, subst, arith, w32, to_z, of_z, SFits, lit<}
use Rattle.std.specs.Int.{int_wrap}
use Rattle.std.proofs.Math.Nat.{pow-zero, mod-lt}
use Rattle.msr_base.specs.declared.order.Order.{Order}
use Rattle.msr_steim.specs.declared.borrowed.Fields.{Fields}
use Rattle.msr_base.specs.declared.storage.Version.{Version}
use Rattle.msr_steim.specs.Area.{IsUndefined, arranged_word, samples_of, sums_after, word_code, word_count}
use Rattle.msr_steim.specs.InOrder.{HasFields, differences_from, differences_of, numbers_of, word_differences}
use Rattle.msr_steim.specs.Word.{AreFields, numbers_in, signed_of}
use Rattle.msr_steim.proofs.Reading.{first_sums}
use Rattle.msr_steim.proofs.Shifts.{are_fields}

-- ---- the fields of one word

no_fields : (word width : ℕ) → AreFields word [] (record { count = 0; width = width })
no_fields word width =
    let none : 0 * width ≡ 0 = omega arith in
    let one : 2 ^ (0 * width) ≡ 1 = ap (λ n. 2 ^ n) none ∙ pow-zero 2 in
    let small : word % 1 < 1 = mod-lt word (lit< tt) in
    let zero_left : word % 1 ≡ 0 = omega arith in
    record { count = refl; fit = tt; bits = ap (λ n. word % n) one ∙ zero_left }

pub numbers_are_fields : (word width count : ℕ) → (0 < count → 0 < width)
    → AreFields word (numbers_in word width count) (record { count = count; width = width })
unfolding numbers_in
numbers_are_fields word width zero positive = no_fields word width
numbers_are_fields word width (suc count) positive = are_fields word width (suc count) (positive (omega arith))

-- the differences of a word are the numbers of its fields
pub fields_differences : (version : Version) (order : Order) (area : List ℕ) (number : ℕ) (fields : Fields)
    → HasFields version order area number fields
    → word_differences version order area number ≡ numbers_in fields.word fields.width fields.count
unfolding word_differences
fields_differences version order area number fields has =
    ap (λ layout. numbers_of layout (arranged_word version order
    (word_code order area number) area number)) has.layout_is
    ∙ ap (λ word. numbers_in word fields.width fields.count) (sym has.word_is)

undefined_differences : (version : Version) (order : Order) (area : List ℕ) (number : ℕ)
    → IsUndefined version order area number → word_differences version order area number ≡ []
unfolding word_differences
undefined_differences version order area number undefined =
    ap (λ layout. numbers_of layout (arranged_word version order (word_code order area number) area number)) undefined

pub no_numbers : (word width count : ℕ) → count ≡ 0 → numbers_in word width count ≡ []
unfolding numbers_in
no_numbers word width count none = ap (numbers_in word width) none

-- the first number, and those after it
pub first_of_numbers : (word width count : ℕ) → 0 < count → numbers_in word width count ≡ signed_of width
    (word / 2 ^ ((count - 1) * width) % 2 ^ width) ∷ numbers_in word width (count - 1)
unfolding numbers_in
first_of_numbers word width zero some = absurd (omega (arith, some))
first_of_numbers word width (suc count) some =
    let less : suc count - 1 ≡ count = omega arith in
    rw less refl

-- ---- word after word

pub one_word : (version : Version) (order : Order) (area : List ℕ) (number : ℕ) → number < word_count area
    → differences_from version order area number ≡ word_differences version order area number
    ++ differences_from version order area (number + 1)
one_word version order area number within =
    let words : word_count area - number ≡ suc (word_count area - (number + 1)) = omega (arith, within) in
    let next : number + 1 ≡ suc number = omega arith in
    ap (differences_of version order area number) words ∙ ap (λ n. word_differences version order area number
    ++ differences_of version order area n (word_count area - (number + 1))) (sym next)

-- a word without differences is passed over
pub passed_undefined : (version : Version) (order : Order) (area : List ℕ) (number : ℕ) → number < word_count area
    → IsUndefined version order area number
    → differences_from version order area number ≡ differences_from version order area (number + 1)
passed_undefined version order area number within undefined =
    one_word version order area number within ∙ ap (λ ds. ds ++ differences_from version order area (number + 1))
    (undefined_differences version order area number undefined)

pub passed_empty : (version : Version) (order : Order) (area : List ℕ) (number : ℕ) (fields : Fields)
    → number < word_count area → HasFields version order area number fields → fields.count ≡ 0
    → differences_from version order area number ≡ differences_from version order area (number + 1)
passed_empty version order area number fields within has none =
    one_word version order area number within ∙ ap (λ ds. ds ++ differences_from version order area (number + 1))
    (fields_differences version order area number fields has ∙ no_numbers fields.word fields.width fields.count none)

-- what the first difference is added to
pub begins_so : (first difference : ℤ) (ds : List ℤ) (constant_is : ℤ) → first ≡ constant_is → 1 ≤ length ds
    → get_or ds 0 (pos 0) ≡ difference → SFits w32 first → SFits w32 difference
    → samples_of constant_is ds ≡ sums_after (to_z w32
    ((of_z w32 first + (4294967296 - of_z w32 difference)) % 4294967296)) ds
begins_so first difference ds constant_is same some is_first fits fits_too =
    subst (λ f. samples_of f ds ≡ sums_after (to_z w32
    ((of_z w32 first + (4294967296 - of_z w32 difference)) % 4294967296)) ds) same
    (subst (λ d. samples_of first ds ≡ sums_after
    (to_z w32 ((of_z w32 first + (4294967296 - of_z w32 d)) % 4294967296)) ds) is_first
    (first_sums first ds ds refl some fits (subst (SFits w32) (sym is_first) fits_too)))

-- ---- one call of `next`

-- the first sum, and those after it
pub first_sum : (before : ℤ) (ds rest : List ℤ) (d : ℤ) (left : ℕ) → 0 < left → ds ≡ d ∷ rest
    → take left (sums_after before ds) ≡ int_wrap w32 (before +ℤ d) ∷ take (left - 1)
    (sums_after (int_wrap w32 (before +ℤ d)) rest)
first_sum before ds rest d zero some e = absurd (omega (arith, some))
first_sum before ds rest d (suc left) some e =
    let less : suc left - 1 ≡ left = omega arith in
    rw (e, less) refl
