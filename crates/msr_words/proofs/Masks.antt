-- Bits of masks.
use Rattle.std.proofs.Common.{◌≡◌, ℕ, ◌+◌, ◌/◌, ◌%◌, ◌^◌, ltb, Bool, true, false, cond, map, List, length, get_or, refl, sym, ap, ◌∙◌, arith, bit_and}
use Rattle.std.specs.Prelude.{◌↔◌, nat_lt, IsTrue}
use Rattle.std.specs.Int.{bit_at}
use Rattle.std.proofs.lemmas.Bool.Decides.{nat_tests}
use Rattle.std.proofs.lemmas.List.{get_or-map}
use Rattle.std.proofs.lemmas.Nat.{shr-shr}
use Rattle.std.proofs.lemmas.Nat.Bits.{bit_at_and, bit_at-lt, bit_at-zero, bit_at_ones}
use Rattle.std.proofs.lemmas.Simd.{bit_mask_l}
use lib.Lanes.{mask_l}
use Rattle.msr_words.specs.Pairs.{AreBelow, ArePairs}

abbrev one_if : Bool → ℕ
one_if b = cond b 1 0

set_if : (b : Bool) → (one_if b ≡ 1) ↔ IsTrue b
set_if true = (λ _. refl, λ _. refl)
set_if false = (λ e. absurd (omega (arith, e)), λ f. let g : IsTrue false = f in absurd (cc))

-- the bits of a mask that was made of comparisons
pub compared : (sizes : List ℕ) (limit mask : ℕ) → length sizes ≡ 64
    → mask ≡ mask_l (map (λ x. ltb x limit) sizes) → AreBelow sizes limit mask
compared sizes limit mask long is = record {
  each = λ k less.
      let p : ℕ → Bool = λ x. ltb x limit in
      let e : bit_at mask k ≡ cond (ltb (get_or sizes k 0) limit) 1 0 =
      ap (λ n. bit_at n k) is ∙ bit_mask_l (map p sizes) k
      ∙ ap (λ b. cond b 1 0) (get_or-map p sizes k 0 false (omega (arith, less, long))) in
      let s = set_if (nat_lt (get_or sizes k 0) limit) in (
        λ one. let t : IsTrue (nat_lt (get_or sizes k 0) limit) = s.0 (sym e ∙ one) in grind (arith, nat_tests),
        λ small. let t : IsTrue (nat_lt (get_or sizes k 0) limit) = grind (arith, nat_tests) in e ∙ s.1 t,
      );
}

shifted : (n k j : ℕ) → bit_at (n / 2 ^ j) k ≡ bit_at n (k + j)
shifted n k j = ap (λ m. m % 2) (shr-shr n j k ∙ ap (λ m. n / 2 ^ m) (omega arith))

-- no three bits that follow one another are set
pub no_three : (small k : ℕ) → bit_and (bit_and small (small / 2)) (small / 4) ≡ 0 → bit_at small k ≡ 1
    → bit_at small (k + 1) ≡ 1 → bit_at small (k + 2) ≡ 1 → ⊥
no_three small k none a b c =
    let e = bit_at_and (bit_and small (small / 2)) (small / 4) k in
    let f = bit_at_and small (small / 2) k in
    let g = shifted small k 1 in
    let h = shifted small k 2 in
    let z : bit_at (bit_and (bit_and small (small / 2)) (small / 4)) k ≡ 0 = ap (λ n. bit_at n k) none ∙ bit_at-zero k in
    omega (arith, e, f, g, h, z, a, b, c)

-- two bits that follow one another are set
pub two_set : (of_16 k : ℕ) → (bit_at (bit_and of_16 (of_16 / 2)) k ≡ 1) ↔ (bit_at of_16 k ≡ 1) × (bit_at of_16 (k + 1) ≡ 1)
two_set of_16 k =
    let f = bit_at_and of_16 (of_16 / 2) k in
    let g = shifted of_16 k 1 in
    let m = bit_at-lt of_16 k in
    let n = bit_at-lt of_16 (k + 1) in
    (λ one. (omega (arith, one, f, g, m, n), omega (arith, one, f, g, m, n)), λ both. omega (arith, both.0, both.1, f, g))

module _ (sizes : List ℕ) (small of_16 of_32 : ℕ) (smalls : AreBelow sizes 128 small)
    (halves : AreBelow sizes 32768 of_16) (wholes : AreBelow sizes 2147483648 of_32) where
  -- what the masks say of words of two differences or one
  pub are_pairs : bit_and (bit_and small (small / 2)) (small / 4) ≡ 0 → of_32 ≡ 18446744073709551615
      → ArePairs sizes (record { both = bit_and of_16 (of_16 / 2); small = small })
  are_pairs none all = record {
    fit = λ k less. (wholes.each k less).0 (ap (λ n. bit_at n k) all ∙ bit_at_ones 64 k less);
    both = λ k less.
        let t = two_set of_16 k in
        let here = halves.each k (omega arith) in
        let next = halves.each (k + 1) (omega arith) in
        (λ one. let both = t.0 one in (here.0 both.0, next.0 both.1), λ both. t.1 (here.1 both.0, next.1 both.1));
    small = smalls;
    mixed = λ k less a b c. no_three small k none ((smalls.each k (omega arith)).1 a)
        ((smalls.each (k + 1) (omega arith)).1 b) ((smalls.each (k + 2) (omega arith)).1 c);
  }
