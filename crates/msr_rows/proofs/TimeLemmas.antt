-- By how much a correction moves a start, and the one rounded instant of the last sample.
use Rattle.std.proofs.Common.{ℕ, arith, ℤ, pos, neg_ℤ, ◌*ℤ◌, FitsSigned, w32, cond, true, false, ◌-◌, Bool}
use Rattle.std.specs.Prelude.{◌≤ℤ◌, ◌↔◌, IsTrue}
use Rattle.msr_time.specs.Instant.{IsInstant}
use Rattle.msr_time.specs.SampleRate.{SampleRate, IsRoundedNominal}
use Rattle.msr_time.proofs.SignedFacts.{signed_arith}
use Rattle.msr_rows.specs.Correction.{correction_micros, is_pending}
use Rattle.msr_rows.specs.Records.{IsInTime}

-- a correction has 32 bits and units of 100 µs
abbrev pub IsMove : ℤ → Type 0
IsMove m = (neg_ℤ (pos 214_748_364_800) ≤ℤ m) × (m ≤ℤ pos 214_748_364_800)

pub moved_near : (activity : ℕ) (z : ℤ) → FitsSigned w32 z → IsMove (correction_micros activity z)
moved_near activity z f = elim (is_pending activity z) as (λ b. IsMove (cond b (pos 100 *ℤ z) (pos 0))) [
  | true ↦ omega (arith, signed_arith)
  | false ↦ omega (arith, signed_arith)
]

-- the time of a record, by the test for its last sample
pub in_time_from : (rate : SampleRate) (start : ℤ) (count : ℕ) (reached : Bool) → IsInstant start
    → ((r : ℤ) × IsRoundedNominal rate start (count - 1) r × (IsTrue reached ↔ IsInstant r))
    → ((r : ℤ) → IsRoundedNominal rate start (count - 1) r → (IsTrue reached ↔ IsInstant r))
    → IsTrue reached ↔ IsInTime rate start count
in_time_from rate start count reached first last only = (
  λ e. record { last = last.0; nominal = last.1; first_in = first; last_in = last.2.0 e },
  λ h. (only h.last h.nominal).1 h.last_in,
)
