-- From which sample on no instant is before another one.
use Rattle.std.proofs.Common.{◌≡◌, ℕ, ◌+◌, ◌-◌, ◌*◌, ◌/◌, ◌<◌, ◌≤◌, inl, inr, arith, ap, ℤ, ◌≤ℤ◌}
use Rattle.std.specs.Prelude.{◌↔◌}
use Rattle.std.proofs.Math.Nat.{mul-le-mul_right}
use Rattle.std.proofs.lemmas.Bool.{cases_lt}
use Rattle.std.proofs.lemmas.Int.{by_lt_z}
use Rattle.jiff_core.proofs.SignedLemmas.{signed_arith}
use Rattle.msr_time.specs.SampleRate.{SampleRate, period_of, IsRoundedNominal}
use Rattle.msr_time.proofs.NominalLemmas.{rounded_parts}
use Rattle.msr_time.proofs.RateLemmas.{quotient_bounds}
use borrow.Author.Differences.{up, down}

-- a quotient that is rounded up
ceil_le : (x k n : ℕ) → 0 < k → ((x + (k - 1)) / k ≤ n) ↔ (x ≤ n * k)
ceil_le x k n some =
    let q = quotient_bounds (x + (k - 1)) k some in (
      λ le. let s = mul-le-mul_right k le in omega arith,
      λ le. elim (cases_lt n ((x + (k - 1)) / k)) [
        | inl lt ↦ let s : (n + 1) * k ≤ (x + (k - 1)) / k * k = mul-le-mul_right k (omega arith) in absurd (omega arith)
        | inr ge ↦ ge
      ],
    )

module _ (rate : SampleRate) (t0 from : ℤ) (n : ℕ) (r : ℤ) (is : IsRoundedNominal rate t0 n r) where
  abbrev den : ℕ
  den = (period_of rate).1

  -- no sample is before the first
  pub after_start : from ≤ℤ t0 → from ≤ℤ r
  after_start le =
      let parts = rounded_parts rate t0 n r is in
      let first : up r + down t0 < up t0 + down r → ⊥ =
      λ before. let step : (up r + down t0 + 1) * den ≤ (up t0 + down r) * den = mul-le-mul_right den (omega arith) in omega arith in
      omega (arith, signed_arith)

  -- the samples are counted in halves of the denominator's parts
  counted : (gap halves : ℕ) → up from + down t0 ≡ down from + up t0 + gap → 2 * gap ≡ halves + 1
      → (from ≤ℤ r) ↔ (halves * den ≤ 2 * (n * (period_of rate).0))
  counted gap halves e twice =
      let parts = rounded_parts rate t0 n r is in
      let apart = ap (λ (x : ℕ). x * den) e in
      let double = ap (λ (x : ℕ). x * den) twice in (
        λ le. let step : (up from + down r) * den ≤ (up r + down from) * den = mul-le-mul_right den (omega (arith, signed_arith)) in omega arith,
        λ many. by_lt_z r from
            (λ lt. let step : (up r + down from + 1) * den ≤ (up from + down r) * den = mul-le-mul_right den (omega (arith, signed_arith)) in absurd (omega arith))
            (λ le. le),
      )

  pub from_count : (gap halves : ℕ) → 0 < (period_of rate).0 → up from + down t0 ≡ down from + up t0 + gap → 2 * gap ≡ halves + 1
      → (from ≤ℤ r) ↔ ((halves * den + (2 * (period_of rate).0 - 1)) / (2 * (period_of rate).0) ≤ n)
  from_count gap halves some e twice =
      let count = counted gap halves e twice in
      let ceil = ceil_le (halves * den) (2 * (period_of rate).0) n (omega arith) in
      (λ le. let many = count.0 le in ceil.1 (omega arith), λ le. let many = ceil.0 le in count.1 (omega arith))
