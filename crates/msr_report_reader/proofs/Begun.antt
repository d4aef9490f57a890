-- What a text can begin with, when another begins with it.
use Rattle.std.proofs.Common.{◌≡◌, ◌∙◌, ap, refl, inl, inr, ◌⊎◌, arith, ℕ, ◌<◌, ◌^◌, ◌||◌, Bool, true, false, List, [], ◌∷◌, ◌++◌, length, decimal}
use Rattle.std.specs.Char.{is_ascii_digit}
use Rattle.std.specs.Str.{all_ascii_digits}
use Rattle.std.proofs.lemmas.Fmt.{decimal_nonempty}
use Rattle.msr_report_reader.proofs.LineFeeds.{same_cons}
use Rattle.msr_report_reader.proofs.Digits.{both_true, decimal_is_digits}

begins_after : (x y : ℕ) (xs ys : List ℕ) → x ≡ y
    → ((left : List ℕ) × (xs ≡ ys ++ left)) ⊎ ((left : List ℕ) × (ys ≡ xs ++ left))
    → ((left : List ℕ) × (x ∷ xs ≡ y ∷ (ys ++ left))) ⊎ ((left : List ℕ) × (y ∷ ys ≡ x ∷ (xs ++ left)))
begins_after x y xs ys same (inl found) =
    inl (found.0, ap (λ (l : List ℕ). x ∷ l) found.1 ∙ ap (λ (z : ℕ). z ∷ (ys ++ found.0)) same)
begins_after x y xs ys same (inr found) = inr (found.0, rw same (ap (λ (l : List ℕ). y ∷ l) found.1))

begins : (xs ys more rest : List ℕ) → xs ++ more ≡ ys ++ rest
    → ((left : List ℕ) × (xs ≡ ys ++ left)) ⊎ ((left : List ℕ) × (ys ≡ xs ++ left))
begins xs [] more rest is = inl (xs, refl)
begins [] (y ∷ ys) more rest is = inr (y ∷ ys, refl)
begins (x ∷ xs) (y ∷ ys) more rest is =
    let both = same_cons x y (xs ++ more) (ys ++ rest) is in
    begins_after x y xs ys both.0 (begins xs ys more rest both.1)

either : (xs ys : List ℕ) (a b : Bool) → ((left : List ℕ) → xs ≡ ys ++ left → a ≡ true)
    → ((left : List ℕ) → ys ≡ xs ++ left → b ≡ true)
    → ((left : List ℕ) × (xs ≡ ys ++ left)) ⊎ ((left : List ℕ) × (ys ≡ xs ++ left)) → (a || b) ≡ true
either xs ys a b first second (inl found) = let is : a ≡ true = first found.0 found.1 in rw is refl
either xs ys true b first second (inr found) = refl
either xs ys false b first second (inr found) = second found.0 found.1

pub either_begins : (xs ys more rest : List ℕ) (a b : Bool) → ((left : List ℕ) → xs ≡ ys ++ left → a ≡ true)
    → ((left : List ℕ) → ys ≡ xs ++ left → b ≡ true) → xs ++ more ≡ ys ++ rest → (a || b) ≡ true
either_begins xs ys more rest a b first second is = either xs ys a b first second (begins xs ys more rest is)

pub one_of : (a b : Bool) → a ≡ true → (a || b) ≡ true
one_of a b is = rw is refl

pub other_of : (a b : Bool) → b ≡ true → (a || b) ≡ true
other_of true b is = refl
other_of false b is = is

-- a number begins with a digit
digit_by : (byte : ℕ) (left digits rest : List ℕ) → 0 < length digits → all_ascii_digits digits ≡ true
    → byte ∷ left ≡ digits ++ rest → is_ascii_digit byte ≡ true
digit_by byte left [] rest some all is = absurd (omega arith)
digit_by byte left (d ∷ digits) rest some all is =
    let first = both_true (is_ascii_digit d) (all_ascii_digits digits) all in
    rw (same_cons byte d left (digits ++ rest) is).0 first.0

pub digit_begins : (byte : ℕ) (left : List ℕ) (n : ℕ) (rest : List ℕ) → n < 2 ^ 64 → byte ∷ left ≡ decimal n ++ rest
    → is_ascii_digit byte ≡ true
digit_begins byte left n rest small is =
    digit_by byte left (decimal n) rest (decimal_nonempty n small) (decimal_is_digits n small) is
