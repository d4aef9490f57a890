-- A sample of a segment lies in the supported years if the first and the last do.
use Rattle.std.proofs.Common.{◌≡◌, refl, ℕ, ◌+◌, ◌*◌, ◌/◌, ◌<◌, ◌≤◌, arith, ℤ, pos, ◌+ℤ◌, Option, None, Some}
use Rattle.std.specs.Prelude.{SomeIff, IsSome}
use Rattle.std.proofs.Math.Nat.{mul-le-mul_right}
use Rattle.jiff_core.proofs.SignedLemmas.{signed_arith}
use Rattle.msr_time.specs.SampleRate.{SampleRate, period_of, IsRoundedNominal}
use Rattle.msr_time.specs.Instant.{IsInstant}
use Rattle.msr_time.proofs.NominalLemmas.{rounded_parts}
use Rattle.msr_time.proofs.RateLemmas.{nominal_is, quotient_bounds}
use borrow.Author.Differences.{up, down}

-- no rounded instant lies before the start
not_before_start : (rate : SampleRate) (t0 : ℤ) (n : ℕ) (r : ℤ) → IsRoundedNominal rate t0 n r
    → up r + down t0 < up t0 + down r → ⊥
not_before_start rate t0 n r h before =
    let den = (period_of rate).1 in
    let a = rounded_parts rate t0 n r h in
    let step : (up r + down t0 + 1) * den ≤ (up t0 + down r) * den = mul-le-mul_right den (omega arith) in
    omega arith

-- nor after that of a later sample
not_after : (rate : SampleRate) (t0 : ℤ) (n m : ℕ) (r q : ℤ) → n ≤ m → IsRoundedNominal rate t0 n r
    → IsRoundedNominal rate t0 m q → up q + down r < up r + down q → ⊥
not_after rate t0 n m r q later h k before =
    let den = (period_of rate).1 in
    let a = rounded_parts rate t0 n r h in
    let b = rounded_parts rate t0 m q k in
    let span : n * (period_of rate).0 ≤ m * (period_of rate).0 = mul-le-mul_right (period_of rate).0 later in
    let step : (up q + down r + 1) * den ≤ (up r + down q) * den = mul-le-mul_right den (omega arith) in
    omega arith

pub nominal_between : (rate : SampleRate) (t0 r last : ℤ) (n m : ℕ) → n ≤ m → IsRoundedNominal rate t0 n r
    → IsRoundedNominal rate t0 m last → IsInstant t0 → IsInstant last → IsInstant r
nominal_between rate t0 r last n m later h k first end =
    let a : up r + down t0 < up t0 + down r → ⊥ = not_before_start rate t0 n r h in
    let b : up last + down r < up r + down last → ⊥ = not_after rate t0 n m r last later h k in
    (omega (arith, signed_arith), omega (arith, signed_arith))

-- the first sample has the start
not_after_start : (rate : SampleRate) (t0 r : ℤ) → IsRoundedNominal rate t0 0 r → up t0 + down r < up r + down t0 → ⊥
not_after_start rate t0 r h before =
    let den = (period_of rate).1 in
    let a = rounded_parts rate t0 0 r h in
    let step : (up t0 + down r + 1) * den ≤ (up r + down t0) * den = mul-le-mul_right den (omega arith) in
    omega arith

pub nominal_first : (rate : SampleRate) (t0 r : ℤ) → IsRoundedNominal rate t0 0 r → r ≡ t0
nominal_first rate t0 r h =
    let a : up r + down t0 < up t0 + down r → ⊥ = not_before_start rate t0 0 r h in
    let b : up t0 + down r < up r + down t0 → ⊥ = not_after_start rate t0 r h in
    omega (arith, signed_arith)

pub some_where : (found : Option ℤ) (P : Type 0) (v : ℤ) → SomeIff found P v → P → IsSome found
some_where None P v h p = absurd (h p)
some_where (Some x) P v h p = refl

pub nominal_found : (rate : SampleRate) (t0 v : ℤ) (n : ℕ) (found : Option ℤ)
    → ((r : ℤ) × IsRoundedNominal rate t0 n r × SomeIff found (IsInstant r) r) → found ≡ Some v
    → IsRoundedNominal rate t0 n v
nominal_found rate t0 v n None h e = absurd cc
nominal_found rate t0 v n (Some x) h e = let is : x ≡ h.0 = h.2.1 in let same : v ≡ h.0 = cc in rw same h.1

-- a sample counted from a rounded instant has one too
nominal_on : (rate : SampleRate) (t0 r : ℤ) (n m : ℕ) → IsRoundedNominal rate t0 n r
    → (q : ℤ) × IsRoundedNominal rate r m q
nominal_on rate t0 r n m h =
    let num = (period_of rate).0 in
    let den = (period_of rate).1 in
    let a = rounded_parts rate t0 n r h in
    let some : 0 < den = omega arith in
    let twice : 0 < 2 * den = omega arith in
    let q = (2 * (m * num) + den) / (2 * den) in
    let bounds = quotient_bounds (2 * (m * num) + den) (2 * den) twice in
    (r +ℤ pos q, nominal_is rate r m q bounds.0 bounds.1)

-- counted so, it lies at most a microsecond after where it does counted from the start
not_far_after : (rate : SampleRate) (t0 r last q : ℤ) (n m k : ℕ) → n + m ≤ k → IsRoundedNominal rate t0 n r
    → IsRoundedNominal rate t0 k last → IsRoundedNominal rate r m q → up last + down q + 1 < up q + down last → ⊥
not_far_after rate t0 r last q n m k later first end counted far =
    let den = (period_of rate).1 in
    let a = rounded_parts rate t0 n r first in
    let b = rounded_parts rate t0 k last end in
    let c = rounded_parts rate r m q counted in
    let span : (n + m) * (period_of rate).0 ≤ k * (period_of rate).0 = mul-le-mul_right (period_of rate).0 later in
    let step : (up last + down q + 2) * den ≤ (up q + down last) * den = mul-le-mul_right den (omega arith) in
    omega arith

-- the samples of a row that begins at a rounded instant lie in the supported years, if the segment's last sample
-- is not in the last microsecond
pub nominal_within : (rate : SampleRate) (t0 r last : ℤ) (n m k : ℕ) → n + m ≤ k → IsRoundedNominal rate t0 n r
    → IsRoundedNominal rate t0 k last → IsInstant t0 → IsInstant (last +ℤ pos 1)
    → (q : ℤ) × IsRoundedNominal rate r m q × IsInstant r × IsInstant q
nominal_within rate t0 r last n m k later first end start before =
    let on = nominal_on rate t0 r n m first in
    let a : up r + down t0 < up t0 + down r → ⊥ = not_before_start rate t0 n r first in
    let b : up on.0 + down r < up r + down on.0 → ⊥ = not_before_start rate r m on.0 on.1 in
    let c : up last + down on.0 + 1 < up on.0 + down last
    → ⊥ = not_far_after rate t0 r last on.0 n m k later first end on.1 in
    let d : up last + down r < up r + down last → ⊥ = not_after rate t0 n k r last (omega arith) first end in (
      on.0,
      on.1,
      (omega (arith, signed_arith), omega (arith, signed_arith)),
      (omega (arith, signed_arith), omega (arith, signed_arith)),
    )
