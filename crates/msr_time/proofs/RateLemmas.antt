-- Sums of products for the times of samples, over plain numbers.
use Rattle.std.specs.Prelude.{◌↔◌, IsTrue, nat_le}
use Rattle.std.proofs.Common.{◌≡◌, ℕ, ◌+◌, ◌*◌, ◌/◌, ◌^◌, ◌<◌, ◌≤◌, refl, arith, ap, ◌∙◌, false, rules, ℤ, pos, negsuc, ◌+ℤ◌, ◌-ℤ◌, ◌*ℤ◌, FitsSigned, w64, to_z, of_z, to_z-of_z, unsigned_abs}
use Rattle.std.proofs.Math.Nat.{mod-lt, div-add-mod', div-le_self}
use Rattle.jiff.specs.Words.{IsWithin}
use Rattle.std.proofs.lemmas.Int.{ints}
use Rattle.std.specs.Int.{w128}
use Rattle.std.proofs.lemmas.Nat.{mul-lt}
use Rattle.jiff_core.proofs.SignedLemmas.{signed_arith, product_within, one_part, back_small}
use Rattle.msr_time.specs.SampleRate.{SampleRate, period_of, IsRoundedNominal}
use Rattle.msr_time.specs.Instant.{IsInstant}
use lib.Signed.{lt_z}
use borrow.Author.Differences.{up, down}

-- a product of the difference p - m
pub scaled : (z : ℤ) (p m k : ℕ) → up z + m ≡ down z + p → up (z *ℤ pos k) + m * k ≡ down (z *ℤ pos k) + p * k
scaled z p m k e = omega (arith, signed_arith, ap (λ (x : ℕ). x * k) e)

pub gap_is : (t t0 : ℤ) (den span : ℕ) → ((t -ℤ t0) *ℤ pos den) -ℤ pos span
    ≡ (t *ℤ pos den) -ℤ ((t0 *ℤ pos den) +ℤ pos span)
gap_is t t0 den span =
    omega (
      arith,
      signed_arith,
      scaled (t -ℤ t0) (up t + down t0) (down t + up t0) den
          (omega (arith, signed_arith)),
      scaled t (up t) (down t) den (omega arith),
      scaled t0 (up t0) (down t0) den
          (omega arith),
    )

pub span_bound : (n p : ℕ) → n < 2 ^ 64 → p < 2 ^ 50 → n * p < 2 ^ 114
span_bound n p h k = mul-lt n p (2 ^ 64) (2 ^ 50) h k

pub gap_bound : (t t0 : ℤ) (den : ℕ) → FitsSigned w64 t → FitsSigned w64 t0 → den < 2 ^ 30
    → unsigned_abs ((t -ℤ t0) *ℤ pos den) ≤ 2 ^ 94
gap_bound t t0 den f g h = product_within (t -ℤ t0) (pos den) (2 ^ 64) (2 ^ 30)
    (omega (arith, signed_arith, one_part (t -ℤ t0))) (omega arith)

-- the product, before the span is taken away
pub product_from_bits : (t t0 : ℤ) (den : ℕ) → FitsSigned w64 t → FitsSigned w64 t0 → den < 2 ^ 30
    → FitsSigned w128 (to_z w128 (of_z w128 (to_z w128 (of_z w128 (to_z w64 (of_z w64 t))) -ℤ to_z w128
    (of_z w128 (to_z w64 (of_z w64 t0))))) *ℤ to_z w128 den)
product_from_bits t t0 den f g h =
    let diff : to_z w128 (of_z w128 (to_z w128 (of_z w128 (to_z w64 (of_z w64 t))) -ℤ to_z w128
    (of_z w128 (to_z w64 (of_z w64 t0))))) ≡ t -ℤ t0 = omega (arith, ints) in
    let number : to_z w128 den ≡ pos den = omega (arith, ints) in
    let bound = gap_bound t t0 den f g h in
    rw (diff, number) (omega (arith, signed_arith))

-- the half that is added rounds ties up
pub nominal_is : (rate : SampleRate) (t0 : ℤ) (n q : ℕ)
    → q * (2 * (period_of rate).1) ≤ 2 * (n * (period_of rate).0) + (period_of rate).1
    → 2 * (n * (period_of rate).0) + (period_of rate).1 < q * (2 * (period_of rate).1) + 2 * (period_of rate).1
    → IsRoundedNominal rate t0 n (t0 +ℤ pos q)
nominal_is rate t0 n q low high =
    let den = (period_of rate).1 in
    let base = scaled t0 (up t0) (down t0) den (omega arith) in
    let below = scaled (pos 2 *ℤ (t0 +ℤ pos q) -ℤ pos 1) (2 * (up t0 + q)) (2 * down t0 + 1) den
    (omega (arith, signed_arith)) in
    let above = scaled (pos 2 *ℤ (t0 +ℤ pos q) +ℤ pos 1) (2 * (up t0 + q) + 1) (2 * down t0) den
    (omega (arith, signed_arith)) in
    record {
      not_early = omega (arith, signed_arith);
      not_late = omega (arith, signed_arith);
    }

pub nominal_at : (rate : SampleRate) (t0 : ℤ) (n q : ℕ) (fraction : ℕ × ℕ) → fraction ≡ period_of rate
    → (q * (2 * fraction.1) ≤ 2 * (n * fraction.0) + fraction.1)
    × (2 * (n * fraction.0) + fraction.1 < q * (2 * fraction.1) + 2 * fraction.1)
    → IsRoundedNominal rate t0 n (t0 +ℤ pos q)
nominal_at rate t0 n q fraction e h = let k = rw e at h in nominal_is rate t0 n q k.0 k.1

-- a quotient lies below the numbers that it is a quotient of
pub quotient_bounds : (x k : ℕ) → 0 < k → (x / k * k ≤ x) × (x < x / k * k + k)
quotient_bounds x k h = let m = mod-lt x h in let e = div-add-mod' x k in omega arith

pub sum_from_bits : (t0 : ℤ) (q : ℕ) → FitsSigned w64 t0 → q < 2 ^ 120
    → to_z w128 (of_z w128 (to_z w128 (of_z w128 (to_z w64 (of_z w64 t0))) +ℤ to_z w128 q)) ≡ t0 +ℤ pos q
sum_from_bits t0 q f h = omega (arith, ints)

-- the rounded instant, as it is summed up
pub rounded_sum : (t0 : ℤ) (n num den : ℕ) → FitsSigned w64 t0 → n < 2 ^ 64 → num < 2 ^ 50 → den < 2 ^ 30
    → (let sum = to_z w128 (of_z w128 (to_z w64 (of_z w64 t0))) +ℤ to_z w128 ((2 * (n * num) + den) / (2 * den)) in
    let instant = t0 +ℤ pos ((2 * (n * num) + den) / (2 * den)) in
    FitsSigned w128 sum × (to_z w128 (of_z w128 sum) ≡ instant) × IsWithin (2 ^ 120) instant)
rounded_sum t0 n num den fits few small low =
    let span = span_bound n num few small in
    let least = div-le_self (2 * (n * num) + den) (2 * den) in (
      omega (arith, ints, fits),
      sum_from_bits t0 ((2 * (n * num) + den) / (2 * den)) fits (omega arith),
      omega (arith, signed_arith, fits),
    )

-- a test of a bound, as the code computes it
pub at_most_tested : (a b : ℕ) → IsTrue (nat_le a b) ↔ (a ≤ b)
at_most_tested a b = search rules

pub gap_from_bits : (t t0 : ℤ) (den span : ℕ) → FitsSigned w64 t → FitsSigned w64 t0 → den < 2 ^ 30
    → span < 2 ^ 114 → (let gap = to_z w128 (of_z w128
    (to_z w128 (of_z w128 (to_z w128 (of_z w128 (to_z w64 (of_z w64 t))) -ℤ to_z w128
    (of_z w128 (to_z w64 (of_z w64 t0))))) *ℤ to_z w128 den)) -ℤ to_z w128 span in
    (gap ≡ ((t -ℤ t0) *ℤ pos den) -ℤ pos span) × FitsSigned w128 gap
    × (to_z w128 (of_z w128 gap) ≡ (t *ℤ pos den) -ℤ ((t0 *ℤ pos den) +ℤ pos span)))
gap_from_bits t t0 den span f g h k =
    let diff : to_z w128 (of_z w128 (to_z w128 (of_z w128 (to_z w64 (of_z w64 t))) -ℤ to_z w128
    (of_z w128 (to_z w64 (of_z w64 t0))))) ≡ t -ℤ t0 = omega (arith, ints) in
    let number : to_z w128 den ≡ pos den = omega (arith, ints) in
    let small : to_z w128 span ≡ pos span = omega (arith, ints) in
    let bound = gap_bound t t0 den f g h in
    let product = back_small w128 ((t -ℤ t0) *ℤ pos den) (omega arith) in
    let fits : FitsSigned w128 (((t -ℤ t0) *ℤ pos den) -ℤ pos span) = omega (arith, signed_arith) in
    rw (diff, number, small, product) (refl, fits, to_z-of_z fits ∙ gap_is t t0 den span)

pub instant_from_tests : (r : ℤ) → lt_z r (negsuc 2_208_988_799_999_999) ≡ false
    → lt_z (pos 4_133_980_799_999_999) r ≡ false → IsInstant r × (to_z w64 (of_z w64 r) ≡ r)
instant_from_tests r low high =
    let within : IsInstant r = (omega (arith, signed_arith), omega (arith, signed_arith)) in
    (within, omega (arith, ints))
