-- Keys that are equal as tested are equal.
use Rattle.std.proofs.Common.{◌≡◌, ℕ, List, refl, Bool, true, ◌&&◌, ℤ}
use Rattle.std.specs.Cmp.Lexicographic.{pointwise}
use Rattle.std.specs.Ordering.{int_eq}
use Rattle.std.proofs.Math.Dec.{eqb}
use Rattle.std.proofs.lemmas.Bool.{eqb-true, and_parts}
use Rattle.std.proofs.lemmas.Bool.Decides.{Decides-eqb, Decides-int_eq}
use Rattle.std.proofs.lemmas.Slice.Eq.{slice_eq-Decides}
use Rattle.msr_rows.specs.declared.row.Key.{Key}

same_bytes : (xs ys : List ℕ) → pointwise eqb xs ys ≡ true → xs ≡ ys
same_bytes xs ys e = (slice_eq-Decides Decides-eqb xs ys (pointwise eqb xs ys) refl).0 e

same_number : (a b : ℤ) → int_eq a b ≡ true → a ≡ b
same_number a b e = (Decides-int_eq a b).0 e

-- the test of two keys, field by field
abbrev pub key_test : Key → Key → Bool
key_test a b =
    pointwise eqb a.network b.network && (pointwise eqb a.station b.station
    && (pointwise eqb a.location b.location && (pointwise eqb a.channel b.channel
    && (eqb a.quality b.quality && ((int_eq a.rate.factor b.rate.factor
    && int_eq a.rate.multiplier b.rate.multiplier) && (eqb a.activity b.activity
    && (eqb a.clock b.clock && (eqb a.data_quality b.data_quality
    && (int_eq a.correction b.correction && eqb a.timing b.timing)))))))))

same_fields : (n m : List ℕ) (s t : List ℕ) (l k : List ℕ) (c d : List ℕ) (q r : ℕ) (f g : ℤ) (u v : ℤ) (a b : ℕ)
    (x y : ℕ) (e h : ℕ) (z w : ℤ) (i j : ℕ) → n ≡ m → s ≡ t → l ≡ k → c ≡ d → q ≡ r → f ≡ g → u ≡ v → a ≡ b → x ≡ y
    → e ≡ h → z ≡ w → i ≡ j → ◌≡◌ {A = Key} (record {
      network = n;
      station = s;
      location = l;
      channel = c;
      quality = q;
      rate = record { factor = f; multiplier = u };
      activity = a;
      clock = x;
      data_quality = e;
      correction = z;
      timing = i;
    }) (record {
      network = m;
      station = t;
      location = k;
      channel = d;
      quality = r;
      rate = record { factor = g; multiplier = v };
      activity = b;
      clock = y;
      data_quality = h;
      correction = w;
      timing = j;
    })
same_fields n m s t l k c d q r f g u v a b x y e h z w i j network station location channel quality factor
    multiplier activity clock data_quality correction timing =
    rw (
      network,
      station,
      location,
      channel,
      quality,
      factor,
      multiplier,
      activity,
      clock,
      data_quality,
      correction,
      timing,
    ) refl

pub key_same : (a b : Key) → key_test a b ≡ true → a ≡ b
key_same a b e =
    let p1 = and_parts _ _ e in
    let p2 = and_parts _ _ p1.1 in
    let p3 = and_parts _ _ p2.1 in
    let p4 = and_parts _ _ p3.1 in
    let p5 = and_parts _ _ p4.1 in
    let p6 = and_parts _ _ p5.1 in
    let rate = and_parts _ _ p6.0 in
    let p7 = and_parts _ _ p6.1 in
    let p8 = and_parts _ _ p7.1 in
    let p9 = and_parts _ _ p8.1 in
    let p10 = and_parts _ _ p9.1 in
    same_fields _ _ _ _ _ _ _ _ _ _ _ _ _ _ _ _ _ _ _ _ _ _ _ _ (same_bytes _ _ p1.0) (same_bytes _ _ p2.0)
    (same_bytes _ _ p3.0) (same_bytes _ _ p4.0) (eqb-true _ _ p5.0) (same_number _ _ rate.0)
    (same_number _ _ rate.1) (eqb-true _ _ p7.0) (eqb-true _ _ p8.0) (eqb-true _ _ p9.0)
    (same_number _ _ p10.0) (eqb-true _ _ p10.1)
