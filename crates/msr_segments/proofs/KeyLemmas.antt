-- The test of two keys says whether they are equal.
use Rattle.std.proofs.Common.{◌≡◌, ℕ, List, refl, ap, sym, ◌∙◌, true}
use Rattle.std.specs.Bool.{Decides}
use Rattle.std.specs.Cmp.Lexicographic.{pointwise}
use Rattle.std.proofs.Math.Dec.{eqb}
use Rattle.std.proofs.lemmas.Bool.Decides.{Decides-eqb, Decides-int_eq}
use Rattle.std.proofs.lemmas.Slice.Eq.{slice_eq-Decides}
use Rattle.msr_rows.specs.declared.row.Key.{Key}
use Rattle.msr_rows.proofs.KeyLemmas.{key_test, key_same}

bytes_same : (xs : List ℕ) → pointwise eqb xs xs ≡ true
bytes_same xs = (slice_eq-Decides Decides-eqb xs xs (pointwise eqb xs xs) refl).1 refl

-- a key tests as equal to itself
key_test_same : (a : Key) → key_test a a ≡ true
key_test_same a =
    rw (
      bytes_same a.network,
      bytes_same a.station,
      bytes_same a.location,
      bytes_same a.channel,
      (Decides-eqb a.quality a.quality).1 refl,
      (Decides-int_eq a.rate.factor a.rate.factor).1 refl,
      (Decides-int_eq a.rate.multiplier a.rate.multiplier).1 refl,
      (Decides-eqb a.activity a.activity).1 refl,
      (Decides-eqb a.clock a.clock).1 refl,
      (Decides-eqb a.data_quality a.data_quality).1 refl,
      (Decides-int_eq a.correction a.correction).1 refl,
      (Decides-eqb a.timing a.timing).1 refl,
    ) refl

-- the test of two keys is true exactly when they are equal
pub key_decides : (a b : Key) → Decides (key_test a b) (a ≡ b)
key_decides a b = (key_same a b, λ e. ap (λ (k : Key). key_test a k) (sym e) ∙ key_test_same a)
