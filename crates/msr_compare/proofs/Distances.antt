-- A distance as a quotient that is rounded up.
use Rattle.std.proofs.Common.{◌≡◌, ℕ, ◌+◌, ◌-◌, ◌*◌, ◌/◌, ◌^◌, ◌<◌, ◌≤◌, ◌⊎◌, inl, inr, min, sym, subst, arith, ℤ, pos, ◌+ℤ◌, ◌-ℤ◌, ◌*ℤ◌, FitsSigned, w64, to_z, of_z, unsigned_abs}
use Rattle.std.specs.Int.{w128}
use Rattle.std.proofs.Math.Nat.{mul-le-mul_right}
use Rattle.std.proofs.lemmas.Bool.{cases_lt}
use Rattle.std.proofs.lemmas.Int.{ints}
use Rattle.msr_time.specs.SampleRate.{SampleRate, period_of}
use Rattle.msr_time.proofs.RateLemmas.{gap_bound, quotient_bounds}
use Rattle.msr_compare.specs.Tallies.{TellsDistance}

pub product_fits : (t t0 : ℤ) (den : ℕ) → FitsSigned w64 t → FitsSigned w64 t0 → den < 2 ^ 30
    → FitsSigned w128 (to_z w128 (of_z w128 (to_z w128 (of_z w128 (to_z w64 (of_z w64 t))) -ℤ to_z w128
    (of_z w128 (to_z w64 (of_z w64 t0))))) *ℤ to_z w128 den)
product_fits t t0 den f g h =
    let diff : to_z w128 (of_z w128 (to_z w128 (of_z w128 (to_z w64 (of_z w64 t))) -ℤ to_z w128
    (of_z w128 (to_z w64 (of_z w64 t0))))) ≡ t -ℤ t0 = omega (arith, ints) in
    let number : to_z w128 den ≡ pos den = omega (arith, ints) in
    let bound = gap_bound t t0 den f g h in
    let fits : FitsSigned w128 ((t -ℤ t0) *ℤ pos den) = omega (arith, ints) in
    rw (diff, number) fits

-- no lower quotient reaches as far
not_less : (apart den q e : ℕ) → q * den ≤ apart + den - 1 → 1 ≤ den → apart ≤ e * den → (e < q) ⊎ (q ≤ e) → q ≤ e
not_less apart den q e below some reaches (inr le) = le
not_less apart den q e below some reaches (inl lt) =
    let more : (e + 1) * den ≤ q * den = mul-le-mul_right den (omega arith) in
    absurd (omega (arith, more))

pub quotient_up : (apart den : ℕ) → 1 ≤ den → (apart ≤ (apart + den - 1) / den * den)
    × ((e : ℕ) → apart ≤ e * den → (apart + den - 1) / den ≤ e)
quotient_up apart den some =
    let q = (apart + den - 1) / den in
    let b = quotient_bounds (apart + den - 1) den (omega arith) in
    (omega (arith, b), λ e reaches. not_less apart den q e b.0 some reaches (cases_lt e q))

pub none_apart : (apart den : ℕ) → 1 ≤ den → apart ≡ 0
    → 0 ≡ min ((apart + den - 1) / den) 18_446_744_073_709_551_615
none_apart apart den some none =
    let low = (quotient_up apart den some).1 0 (omega (arith, none)) in
    omega (arith, low)

distance_so : (rate : SampleRate) (t0 : ℤ) (n : ℕ) (t : ℤ) (apart told : ℕ) → 1 ≤ (period_of rate).1
    → apart ≡ unsigned_abs ((t *ℤ pos (period_of rate).1)
    -ℤ ((t0 *ℤ pos (period_of rate).1) +ℤ pos (n * (period_of rate).0)))
    → told ≡ min ((apart + (period_of rate).1 - 1) / (period_of rate).1) 18_446_744_073_709_551_615
    → TellsDistance rate t0 n t told
distance_so rate t0 n t apart told some apart_is told_is =
    let den = (period_of rate).1 in
    let q = (apart + den - 1) / den in
    let up = quotient_up apart den some in
    record {
      micros = q;
      is_distance = record {
        near = subst (λ (a : ℕ). a ≤ q * den) apart_is up.0;
        least = λ other near. up.1 other (subst (λ (a : ℕ). a ≤ other * den) (sym apart_is) near);
      };
      told_is = λ fits. omega (arith, told_is, fits);
    }

pub tells_distance : (rate : SampleRate) (t0 : ℤ) (n : ℕ) (t : ℤ) (fraction : ℕ × ℕ) (apart told : ℕ)
    → fraction ≡ period_of rate → 1 ≤ fraction.1
    → apart ≡ unsigned_abs ((t *ℤ pos fraction.1) -ℤ ((t0 *ℤ pos fraction.1) +ℤ pos (n * fraction.0)))
    → told ≡ min ((apart + fraction.1 - 1) / fraction.1) 18_446_744_073_709_551_615
    → TellsDistance rate t0 n t told
tells_distance rate t0 n t fraction apart told e some apart_is told_is =
    distance_so rate t0 n t apart told (rw e at some) (rw e at apart_is) (rw e at told_is)
