-- Digits, and the number that they are the decimal of.
use Rattle.std.proofs.Common.{◌≡◌, ◌∙◌, ap, sym, refl, rules, arith, ℕ, zero, suc, ◌+◌, ◌-◌, ◌*◌, ◌<◌, ◌≤◌, ◌^◌, ◌&&◌, Bool, true, false, List, [], ◌∷◌, length, decimal, get_or}
use Rattle.std.specs.Char.{is_ascii_digit}
use Rattle.std.specs.Str.{all_ascii_digits}
use Rattle.std.proofs.lemmas.Str.Parse.{IsNumeralModel, numerals_by_fold}
use Rattle.std.proofs.lemmas.Fmt.{decimal-digits_value, decimal_digit, digits_decimal, digits_value-decimal, first_decimal}

abbrev pub number_after : ℕ → List ℕ → ℕ
number_after n [] = n
number_after n (digit ∷ digits) = number_after (10 * n + (digit - 48)) digits

own : IsNumeralModel (λ ds. all_ascii_digits ds ≡ true) (number_after 0)
own = numerals_by_fold _ (search rules) number_after (search rules)

grows : (n : ℕ) (ds : List ℕ) → n ≤ number_after n ds
grows n [] = omega arith
grows n (d ∷ ds) = omega (arith, grows (10 * n + (d - 48)) ds)

both_true : (a b : Bool) → (a && b) ≡ true → (a ≡ true) × (b ≡ true)
both_true true b h = (refl, h)
both_true false b h = absurd (cc)

-- the digits that were passed are digits, and give this number
pub record ReadsOn (n : ℕ) (rest digits : List ℕ) : Type 0 where
  pub total : number_after n rest ≡ number_after 0 digits
  pub all : all_ascii_digits rest ≡ all_ascii_digits digits
  pub small : n < 2 ^ 64

-- each digit of a decimal is one, and keeps the number below its own
pub fits_more : {rest more digits : List ℕ} (n d k : ℕ) → ReadsOn n rest digits → rest ≡ d ∷ more → k < 2 ^ 64
    → digits ≡ decimal k → (is_ascii_digit d ≡ true) × (10 * n + (d - 48) < 2 ^ 64)
fits_more {rest} {more} {digits} n d k so first small is =
    let all : (is_ascii_digit d && all_ascii_digits more) ≡ true =
    sym (ap all_ascii_digits first) ∙ so.all ∙ ap all_ascii_digits is ∙ digits_decimal own k small in
    let total : number_after (10 * n + (d - 48)) more ≡ k =
    sym (ap (number_after n) first) ∙ so.total ∙ ap (number_after 0) is ∙ digits_value-decimal own k small in
    ((both_true (is_ascii_digit d) (all_ascii_digits more) all).0, omega (arith, grows (10 * n + (d - 48)) more))

pub is_number : {digits : List ℕ} (n k : ℕ) → ReadsOn n [] digits → k < 2 ^ 64 → digits ≡ decimal k → n ≡ k
is_number n k so small is = so.total ∙ ap (number_after 0) is ∙ digits_value-decimal own k small

pub is_decimal : {digits : List ℕ} (n : ℕ) → ReadsOn n [] digits → 0 < length digits
    → (get_or digits 0 0 ≡ 48 → length digits ≡ 1) → digits ≡ decimal n
is_decimal {digits} n so some zeros =
    let value : n ≡ number_after 0 digits = so.total in
    sym (decimal-digits_value own digits (sym so.all) some zeros (omega (arith, value, so.small)))
    ∙ sym (ap decimal value)

-- no decimal of two digits and more begins with a zero
pub no_zero : {digits others : List ℕ} (first k : ℕ) → k < 2 ^ 64 → digits ≡ decimal k → digits ≡ first ∷ others
    → first ≡ 48 → others ≡ []
no_zero first zero small is begins none =
    let all = sym begins ∙ is ∙ decimal_digit 0 (omega arith) in cc
no_zero first (suc k) small is begins none =
    let more = first_decimal (suc k) (omega arith) small in
    let head : get_or (decimal (suc k)) 0 0 ≡ first = ap (λ (ds : List ℕ). get_or ds 0 0) (sym is ∙ begins) in
    absurd (omega (arith, more, head, none))
