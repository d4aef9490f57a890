-- Numbers of a fixed count of digits, read digit by digit.
use Rattle.std.proofs.Common.{◌≡◌, ◌∙◌, ap, sym, refl, arith, ℕ, ◌+◌, ◌-◌, ◌*◌, ◌<◌, ◌≤◌, ◌^◌, Bool, true, false, ◌&&◌, ◌==◌, zero, List, [], ◌∷◌, ◌++◌, length, take, drop, decimal, replicate, suc, get_or, length-append}
use Rattle.std.specs.Char.{is_ascii_digit}
use Rattle.std.specs.Str.{all_ascii_digits}
use Rattle.std.proofs.lemmas.Str.Parse.{digits_value_short, digit_at}
use Rattle.std.proofs.lemmas.Fmt.{decimal-digits_value, digits_value-decimal, length-decimal-le}
use Rattle.std.proofs.lemmas.Bool.{and_from, eqb-false, eqb-true, le-leb}
use Rattle.std.proofs.Math.Bool.{and-true}
use lib.Dec.{leb}
use Rattle.std.proofs.lemmas.List.{length-take-le, take_all, take_more, length-replicate}
use Rattle.std.proofs.Math.Nat.{pow-le-pow_right}
use Rattle.std.proofs.Math.Seq.{take-append_seam, drop-append_seam}
use Rattle.msr_report.specs.Text.{padded_decimal}
use Rattle.msr_report_reader.specs.Fields.{with_digits}
use Rattle.msr_report_reader.proofs.Digits.{own, both_true, decimal_is_digits}

-- one more digit
pub value_more : (n : ℕ) (ds : List ℕ) (d : ℕ) → with_digits n (ds ++ d ∷ []) ≡ 10 * with_digits n ds + (d - 48)
value_more n [] d = refl
value_more n (c ∷ cs) d = value_more (10 * n + (c - 48)) cs d

three_tests : (a b c : Bool) → (a && (b && c)) ≡ ((a && b) && c)
three_tests true b c = refl
three_tests false b c = refl

pub digits_more : (ds : List ℕ) (d : ℕ) → all_ascii_digits (ds ++ d ∷ []) ≡ (all_ascii_digits ds && is_ascii_digit d)
digits_more [] d = and-true (is_ascii_digit d)
digits_more (c ∷ cs) d =
    ap (λ (more : Bool). is_ascii_digit c && more) (digits_more cs d)
    ∙ three_tests (is_ascii_digit c) (all_ascii_digits cs) (is_ascii_digit d)

-- the first `i` bytes are digits, and give the number `value`
pub record ReadsDigits (digits : List ℕ) (i : ℕ) (value : ℕ) : Type 0 where
  pub all : all_ascii_digits (take i digits) ≡ true
  pub is : value ≡ with_digits 0 (take i digits)
  pub small : value < 10 ^ 6

pub reads_more : (digits : List ℕ) (i value d : ℕ) → ReadsDigits digits i value → i < length digits
    → length digits ≤ 6 → d ≡ get_or digits i 0 → is_ascii_digit d ≡ true
    → ReadsDigits digits (i + 1) (value * 10 + (d - 48))
reads_more digits i value d so_far more short is digit =
    let front : take (i + 1) digits ≡ take i digits ++ d ∷ [] = rw is (take_more digits i 0 more) in
    let every : all_ascii_digits (take (i + 1) digits) ≡ true =
    rw (front, digits_more (take i digits) d, so_far.all, digit) refl in
    let sum : value * 10 + (d - 48) ≡ with_digits 0 (take (i + 1) digits) =
    rw (front, value_more 0 (take i digits) d) (omega (arith, so_far.is)) in
    let few : length (take (i + 1) digits) ≤ 6 = omega (arith, length-take-le (i + 1) digits (omega arith)) in
    let bound = digits_value_short own (take (i + 1) digits) 6 every few in
    record { all = every; is = sum; small = omega arith }

pub reads_none : (digits : List ℕ) → ReadsDigits digits 0 0
reads_none digits = record { all = refl; is = refl; small = omega arith }

pub reads_all : (digits : List ℕ) (i value : ℕ) → ReadsDigits digits i value → length digits ≤ i
    → (all_ascii_digits digits ≡ true) × (value ≡ with_digits 0 digits)
reads_all digits i value so_far end =
    let whole = take_all i digits end in
    (ap all_ascii_digits (sym whole) ∙ so_far.all, so_far.is ∙ ap (with_digits 0) whole)

pub all_are_digits : (digits : List ℕ) (i : ℕ) → all_ascii_digits digits ≡ true → i < length digits
    → is_ascii_digit (get_or digits i 0) ≡ true
all_are_digits digits i all within =
    let d : ℕ = get_or digits i 0 in
    let range = digit_at digits i (own.to digits all) within in
    and_from (leb 48 d) (leb d 57) (le-leb 48 d range.0) (le-leb d 57 range.1)

is_48 : (d : ℕ) → (d == 48) ≡ true → d ≡ 48
is_48 d h = eqb-true d 48 h

not_48 : (d : ℕ) → (d == 48) ≡ false → d ≡ 48 → ⊥
not_48 d h is = eqb-false d 48 h is

-- digits are the decimal of their number with leading zeros
pads_behind_zero : (d : ℕ) (ds : List ℕ) → d ≡ 48 → 0 < length ds → length ds ≤ 6 → all_ascii_digits ds ≡ true
    → padded_decimal (length ds) (with_digits 0 ds) ≡ ds
    → padded_decimal (length (d ∷ ds)) (with_digits 0 (d ∷ ds)) ≡ d ∷ ds
pads_behind_zero d ds is some few all before =
    let short : with_digits 0 ds < 10 ^ length ds = digits_value_short own ds (length ds) all (omega arith) in
    let small : with_digits 0 ds < 10 ^ 6 = digits_value_short own ds 6 all few in
    let fits : length (decimal (with_digits 0 ds)) ≤ length ds =
    length-decimal-le (length ds) (with_digits 0 ds) some short (omega arith) in
    let longer : suc (length ds) - length (decimal (with_digits 0 ds))
    ≡ suc (length ds - length (decimal (with_digits 0 ds))) = omega arith in
    rw (is, longer) (ap (λ (l : List ℕ). 48 ∷ l) before)

pads_whole : (ds : List ℕ) → decimal (with_digits 0 ds) ≡ ds → padded_decimal (length ds) (with_digits 0 ds) ≡ ds
pads_whole ds is =
    let none : length ds - length ds ≡ 0 = omega arith in rw (is, none) refl

pads_from : (b : Bool) (d : ℕ) (ds : List ℕ) → (d == 48) ≡ b → 0 < length ds → length (d ∷ ds) ≤ 6
    → all_ascii_digits (d ∷ ds) ≡ true
    → padded_decimal (length ds) (with_digits 0 ds) ≡ ds
    → padded_decimal (length (d ∷ ds)) (with_digits 0 (d ∷ ds)) ≡ d ∷ ds
pads_from true d ds test some few all before =
    pads_behind_zero d ds (is_48 d test) some (omega arith)
    (both_true (is_ascii_digit d) (all_ascii_digits ds) all).1 before
pads_from false d ds test some few all before =
    let small : with_digits 0 (d ∷ ds) < 10 ^ 6 = digits_value_short own (d ∷ ds) 6 all few in
    pads_whole (d ∷ ds) (decimal-digits_value own (d ∷ ds) all (omega arith) (λ is. absurd (not_48 d test is))
    (omega arith))

pub pads : (ds : List ℕ) → all_ascii_digits ds ≡ true → 0 < length ds → length ds ≤ 6
    → padded_decimal (length ds) (with_digits 0 ds) ≡ ds
pads [] all some few = absurd (omega arith)
pads (d ∷ []) all some few =
    let small : with_digits 0 (d ∷ []) < 10 ^ 6 = digits_value_short own (d ∷ []) 6 all few in
    pads_whole (d ∷ []) (decimal-digits_value own (d ∷ []) all some (λ _. refl) (omega arith))
pads (d ∷ e ∷ ds) all some few =
    pads_from (d == 48) d (e ∷ ds) refl (omega arith) few all
    (pads (e ∷ ds) (both_true (is_ascii_digit d) (all_ascii_digits (e ∷ ds)) all).1 (omega arith) (omega arith))

-- and the number in `width` digits reads as itself
zeros_are_digits : (k : ℕ) (ds : List ℕ) → all_ascii_digits ds ≡ true → all_ascii_digits (replicate k 48 ++ ds) ≡ true
zeros_are_digits zero ds all = all
zeros_are_digits (suc k) ds all = zeros_are_digits k ds all

zeros_give_none : (k : ℕ) (ds : List ℕ) → with_digits 0 (replicate k 48 ++ ds) ≡ with_digits 0 ds
zeros_give_none zero ds = refl
zeros_give_none (suc k) ds = zeros_give_none k ds

pub record IsPadded (width n : ℕ) : Type 0 where
  pub all : all_ascii_digits (padded_decimal width n) ≡ true
  pub is : with_digits 0 (padded_decimal width n) ≡ n
  pub long : length (padded_decimal width n) ≡ width

pub reads_padded : (width n : ℕ) → 1 ≤ width → n < 10 ^ width → n < 10 ^ 6 → IsPadded width n
reads_padded width n some fits small =
    let fits_64 : n < 2 ^ 64 = omega arith in
    let short : length (decimal n) ≤ width = length-decimal-le width n some fits fits_64 in
    record {
      all = zeros_are_digits (width - length (decimal n)) (decimal n) (decimal_is_digits n fits_64);
      is = zeros_give_none (width - length (decimal n)) (decimal n) ∙ digits_value-decimal own n fits_64;
      long = simp (length-append, length-replicate) (omega arith);
    }

pub padded_parts : (text rest front back word : List ℕ) (width : ℕ) → front ≡ take width text
    → back ≡ drop width text → text ≡ word ++ rest → length word ≡ width
    → (front ≡ word) × (back ≡ rest)
padded_parts text rest front back word width is_front is_back is long =
    (rw (is_front, is, sym long) (take-append_seam word rest), rw (is_back, is, sym long) (drop-append_seam word rest))

pub pow_small : (width : ℕ) → width ≤ 6 → 10 ^ width ≤ 10 ^ 6
pow_small width few = pow-le-pow_right {n = 10} (omega arith) {i = width} {j = 6} few
