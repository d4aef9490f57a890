-- The next Steim-1 word, by the sizes of four differences.
use Rattle.std.proofs.Common.{◌↔◌, ℕ, ◌<◌, ◌≤◌, ℤ, Bool, IsTrue, List, arith, lit≤, inl, inr, bit_or, refl}
use Rattle.std.specs.Prelude.{nat_lt}
use Rattle.std.proofs.lemmas.Bool.Decides.{nat_tests}
use Rattle.std.proofs.lemmas.Nat.{le_or_l, le_or_r, or_lt}
use Rattle.msr_words.specs.FirstGroup.{IsSizeAt}
use Rattle.msr_words.specs.Steim1Reach.{BeginsWithThree, IsOfBitsAt, IsSteim1Word}

module _ (ds : List ℤ) (a b c d : ℕ) (s0 : IsSizeAt ds 0 a) (s1 : IsSizeAt ds 1 b) (s2 : IsSizeAt ds 2 c)
    (s3 : IsSizeAt ds 3 d) (spare : Bool) where
  -- whether a difference is of 8 bits, as a test
  tested : (at size : ℕ) → IsSizeAt ds at size → (IsTrue (nat_lt size 128) ↔ IsOfBitsAt ds at 8)
  tested at size is = (
    λ t. (is 8 (lit≤ tt)).0 (let h : IsTrue (nat_lt size 128) = t in grind (arith, nat_tests)),
    λ bits. let less : size < 128 = (is 8 (lit≤ tt)).1 bits in grind (arith, nat_tests),
  )

  three_small : bit_or (bit_or a b) c < 128 → BeginsWithThree ds
  three_small small =
      let l = le_or_l a b in
      let r = le_or_r a b in
      let l' = le_or_l (bit_or a b) c in
      let r' = le_or_r (bit_or a b) c in
      ((s0 8 (lit≤ tt)).0 (omega arith), (s1 8 (lit≤ tt)).0 (omega arith), (s2 8 (lit≤ tt)).0 (omega arith))

  small_three : BeginsWithThree ds → bit_or (bit_or a b) c < 128
  small_three three = or_lt 7 (bit_or a b) c (or_lt 7 a b ((s0 8 (lit≤ tt)).1 three.0)
      ((s1 8 (lit≤ tt)).1 three.1)) ((s2 8 (lit≤ tt)).1 three.2)

  pub single_next : 32768 ≤ bit_or a b → a < 2147483648 → IsSteim1Word ds spare 1 (nat_lt a 128)
  single_next large less = record {
    which = inr
        (inr (inr (inl (
          refl,
          (s0 32 (lit≤ tt)).0 (omega arith),
          (λ f g. let both = or_lt 15 a b ((s0 16 (lit≤ tt)).1 f) ((s1 16 (lit≤ tt)).1 g) in
              omega arith),
          tested 0 a s0,
        ))));
  }

  pub none_next : 2147483648 ≤ a → (after : Bool) → IsSteim1Word ds spare 0 after
  none_next more after = record {
    which = inr (inr
        (inr (inr (refl, (λ f. let h : a < 2147483648 = (s0 32 (lit≤ tt)).1 f in omega arith)))));
  }

  pub four_next : bit_or (bit_or a b) c < 128 → d < 128 → IsSteim1Word ds spare 4 spare
  four_next small fourth = record { which = inl (refl, three_small small, (s3 8 (lit≤ tt)).0 (omega arith), refl) }

  pub three_next : bit_or (bit_or a b) c < 128 → 128 ≤ d → IsTrue spare → IsSteim1Word ds spare 3 spare
  three_next small fourth t = record {
    which =
        inr (inl (refl, three_small small, (λ f. let h : d < 128 = (s3 8 (lit≤ tt)).1 f in omega arith), t, t));
  }

  pub two_next : bit_or a b < 32768 → (bit_or (bit_or a b) c < 128 → (128 ≤ d) × (IsTrue spare → ⊥))
      → IsSteim1Word ds spare 2 (nat_lt b 128)
  two_next small others =
      let l = le_or_l a b in
      let r = le_or_r a b in
      record {
        which = inr (inr (inl (
          refl,
          (s0 16 (lit≤ tt)).0 (omega arith),
          (s1 16 (lit≤ tt)).0 (omega arith),
          (λ three. let o = others (small_three three) in
              ((λ f. let h : d < 128 = (s3 8 (lit≤ tt)).1 f in let m = o.0 in omega arith), o.1)),
          tested 1 b s1,
        )));
      }
