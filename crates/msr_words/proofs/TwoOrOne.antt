-- A group of two differences, or of one.
use Rattle.std.proofs.Common.{◌≡◌, ◌<◌, ◌≤◌, ◌+◌, ℕ, Bool, true, false, arith, bit_or, ltb, refl, subst, sym}
use Rattle.std.specs.Prelude.{nat_lt, IsTrue}
use Rattle.std.proofs.lemmas.Bool.Decides.{nat_tests}
use Rattle.std.proofs.lemmas.Nat.{or_lt}
use mir.Val.{bool_byte}

by_byte : (b : Bool) (P : ℕ → Type 0) → (b ≡ true → P 2) → (b ≡ false → P 1) → P (1 + bool_byte b)
by_byte true P two one = two refl
by_byte false P two one = one refl

-- two if the pair fits, else one
pub one_or_two : (pair bit : ℕ) (P : ℕ → Type 0) → bit ≡ bool_byte (ltb pair 32768) → (pair < 32768 → P 2)
    → (32768 ≤ pair → P 1) → P (1 + bit)
one_or_two pair bit P is two one = subst (λ n. P (1 + n)) (sym is) (by_byte (ltb pair 32768) P
    (λ t. let h : IsTrue (nat_lt pair 32768) = t in two (grind (arith, nat_tests)))
    (λ f. let h : nat_lt pair 32768 ≡ false = f in one (grind (arith, nat_tests))))

-- two sizes of 16 bits
pub pair_fits : (one two : ℕ) → one < 32768 → two < 128 → bit_or one two < 32768
pair_fits one two first second = or_lt 15 one two first (omega (arith, second))
