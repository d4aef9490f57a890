-- Decimal numbers in a text, and what stands after a word.
use Rattle.std.proofs.Common.{◌≡◌, ◌≢◌, ◌∙◌, ap, sym, refl, arith, ℕ, ◌+◌, ◌-◌, ◌*◌, ◌&&◌, ◌==◌, ◌<◌, ◌≤◌, suc, ℤ, pos, negsuc, ◌^◌, Bool, true, false, List, [], ◌∷◌, ◌++◌, length, take, drop, get_or, decimal, Option, Some, None, MatchOption, IfSome, IsSomeAnd, Bor}
use Rattle.std.specs.Char.{is_ascii_digit}
use Rattle.std.specs.List.{prefix_len}
use Rattle.std.specs.Str.{all_ascii_digits}
use Rattle.std.proofs.lemmas.Str.Parse.{IsNumeralModel, numerals_by_fold, tells_all_ascii_digits}
use Rattle.std.proofs.lemmas.Fmt.{digits_decimal, decimal_nonempty}
use Rattle.std.proofs.lemmas.Bool.{and_parts, leb-true, ne_eqb}
use lib.Dec.{leb}
use Rattle.std.specs.Fmt.{signed_decimal}
use Rattle.std.specs.Int.RustNames.{FitsSigned}
use Rattle.std.specs.Int.{w32}
use lib.Signed.{mag}
use Rattle.std.proofs.lemmas.List.{append_cancel_left, drop_more}
use Rattle.std.proofs.lemmas.List.Sums.{prefix_len-drop_all, prefix_len-drop_no}
use Rattle.std.proofs.Math.Seq.{take-append_seam, drop-append_seam}
use Rattle.msr_report_reader.specs.Fields.{EndsNumber, signed_len, with_digits}

pub own : IsNumeralModel (λ ds. all_ascii_digits ds ≡ true) (with_digits 0)
own = numerals_by_fold (λ ds. all_ascii_digits ds ≡ true) tells_all_ascii_digits with_digits (record {
  empty = λ n. refl;
  more = λ n c cs digit.
      let turned : 10 * n ≡ n * 10 = omega arith in ap (λ (k : ℕ). with_digits (k + (c - 48)) cs) turned;
})

pub decimal_is_digits : (n : ℕ) → n < 2 ^ 64 → all_ascii_digits (decimal n) ≡ true
decimal_is_digits n small = digits_decimal own n small

-- what follows a word
pub after_found : (s p : List ℕ) (r : Option (Bor (List ℕ)))
    → MatchOption r ((rest : List ℕ) → s ≢ p ++ rest) (λ x. s ≡ p ++ x.now) → IfSome r (λ x. s ≡ p ++ x.now)
after_found s p None h = tt
after_found s p (Some x) h = h

pub after_only : (s p : List ℕ) (r : Option (Bor (List ℕ)))
    → MatchOption r ((rest : List ℕ) → s ≢ p ++ rest) (λ x. s ≡ p ++ x.now) → (rest : List ℕ) → s ≡ p ++ rest
    → IsSomeAnd r (λ x. x.now ≡ rest)
after_only s p None h rest is = h rest is
after_only s p (Some x) h rest is = append_cancel_left p x.now rest (sym h ∙ is)

pub both_true : (a b : Bool) → (a && b) ≡ true → (a ≡ true) × (b ≡ true)
both_true true b h = (refl, h)
both_true false b h = absurd (cc)

-- the first `count` bytes are digits
pub record CountsOn (count : ℕ) (text : List ℕ) : Type 0 where
  pub within : count ≤ length text
  pub sum : count + prefix_len is_ascii_digit (drop count text) ≡ prefix_len is_ascii_digit text

pub counts_none : (text : List ℕ) → CountsOn 0 text
counts_none text = record { within = omega arith; sum = omega arith }

pub counts_more : (count : ℕ) (text : List ℕ) → CountsOn count text → count < length text
    → is_ascii_digit (get_or text count 0) ≡ true → CountsOn (count + 1) text
counts_more count text so_far more digit =
    let here : prefix_len is_ascii_digit (drop count text) ≡ 1 + prefix_len is_ascii_digit (drop (count + 1) text) =
    rw (drop_more text count 0 more, digit) refl in
    record { within = omega arith; sum = omega (arith, here, so_far.sum) }

pub counts_all : (count : ℕ) (text : List ℕ) → CountsOn count text → length text ≤ count
    → count ≡ prefix_len is_ascii_digit text
counts_all count text so_far end =
    omega (arith, so_far.sum, prefix_len-drop_all is_ascii_digit text count end)

pub counts_stop : (count : ℕ) (text : List ℕ) → CountsOn count text → count < length text
    → is_ascii_digit (get_or text count 0) ≡ false → count ≡ prefix_len is_ascii_digit text
counts_stop count text so_far more other =
    omega (arith, so_far.sum, prefix_len-drop_no is_ascii_digit text count 0 more other)

pub record IsDigit (d : ℕ) : Type 0 where
  pub least : 48 ≤ d
  pub most : d ≤ 57

pub digit_range : (d : ℕ) → is_ascii_digit d ≡ true → IsDigit d
digit_range d is =
    let both = and_parts (leb 48 d) (leb d 57) is in
    record { least = leb-true 48 d both.0; most = leb-true d 57 both.1 }

pub digits_front : (a rest : List ℕ) → all_ascii_digits a ≡ true → EndsNumber rest
    → prefix_len is_ascii_digit (a ++ rest) ≡ length a
digits_front [] [] all ends = refl
digits_front [] (b ∷ bs) all ends = rw ends refl
digits_front (d ∷ a) rest all ends =
    let both = both_true (is_ascii_digit d) (all_ascii_digits a) all in
    rw (both.0, digits_front a rest both.1 ends) (omega arith)

pub parts : (text a rest front back : List ℕ) (count : ℕ) → count ≡ prefix_len is_ascii_digit text
    → front ≡ take count text → back ≡ drop count text
    → text ≡ a ++ rest → all_ascii_digits a ≡ true → EndsNumber rest → (front ≡ a) × (back ≡ rest)
parts text a rest front back count is_count is_front is_back is all ends =
    let many : count ≡ length a = is_count ∙ ap (prefix_len is_ascii_digit) is ∙ digits_front a rest all ends in
    (rw (is_front, is, many) (take-append_seam a rest), rw (is_back, is, many) (drop-append_seam a rest))

-- the same with a `-` before it
pub signed_minus : (text digits : List ℕ) (first count : ℕ) → text ≡ first ∷ digits → first ≡ 45
    → count ≡ prefix_len is_ascii_digit digits → 1 + count ≡ signed_len text
signed_minus text digits first count is minus counted = rw (is, minus, counted) refl

pub signed_other : (text digits : List ℕ) (first count : ℕ) → text ≡ first ∷ digits → first ≢ 45
    → count ≡ prefix_len is_ascii_digit text → count ≡ signed_len text
signed_other text digits first count is other counted =
    let test : (first == 45) ≡ false = ne_eqb first 45 other in
    let same : prefix_len is_ascii_digit (first ∷ digits) ≡ signed_len (first ∷ digits) = rw test refl in
    counted ∙ ap (prefix_len is_ascii_digit) is ∙ same ∙ ap signed_len (sym is)

not_minus : (d : ℕ) → is_ascii_digit d ≡ true → (d == 45) ≡ false
not_minus d h = let range = digit_range d h in ne_eqb d 45 (λ e. omega (arith, range.least))

signed_front_digits : (a rest : List ℕ) → 0 < length a → all_ascii_digits a ≡ true → EndsNumber rest
    → signed_len (a ++ rest) ≡ length a
signed_front_digits [] rest some all ends = absurd (omega arith)
signed_front_digits (d ∷ a) rest some all ends =
    let both = both_true (is_ascii_digit d) (all_ascii_digits a) all in
    rw (not_minus d both.0) (digits_front (d ∷ a) rest all ends)

pub short : (z : ℤ) → FitsSigned w32 z → mag z < 2 ^ 63
short (pos n) fits = omega (arith, fits)
short (negsuc n) fits = omega (arith, fits)

signed_front : (z : ℤ) (rest : List ℕ) → mag z < 2 ^ 63 → EndsNumber rest
    → signed_len (signed_decimal z ++ rest) ≡ length (signed_decimal z)
signed_front (pos n) rest small ends =
    let fits : n < 2 ^ 64 = omega arith in
    signed_front_digits (decimal n) rest (decimal_nonempty n fits) (decimal_is_digits n fits) ends
signed_front (negsuc n) rest small ends =
    let fits : suc n < 2 ^ 64 = omega arith in
    rw (digits_front (decimal (suc n)) rest (decimal_is_digits (suc n) fits) ends) (omega arith)

pub signed_parts : (text : List ℕ) (z : ℤ) (rest front back : List ℕ) (count : ℕ) → count ≡ signed_len text
    → front ≡ take count text → back ≡ drop count text
    → text ≡ signed_decimal z ++ rest → FitsSigned w32 z → EndsNumber rest → (front ≡ signed_decimal z) × (back ≡ rest)
signed_parts text z rest front back count is_count is_front is_back is fits ends =
    let many : count ≡ length (signed_decimal z) = is_count ∙ ap signed_len is
    ∙ signed_front z rest (short z fits) ends in (
      rw (is_front, is, many) (take-append_seam (signed_decimal z) rest),
      rw (is_back, is, many) (drop-append_seam (signed_decimal z) rest),
    )
