-- A row that was read can be written.
use Rattle.std.proofs.Common.{◌≡◌, ℕ, ◌≤◌, true, false, ℤ, List, length, refl, arith, cond, bit_or, IsTrue}
use Rattle.std.proofs.lemmas.Nat.{and_or_self}
use Rattle.msr_header.specs.Reading.{is_quality}
use Rattle.msr_rows.specs.Correction.{is_pending, activity_of}
use Rattle.msr_rows.specs.Records.{IsRowOf}
use Rattle.msr_rows.specs.declared.row.Row.{Row}
use Rattle.msr_header.proofs.FoundLemmas.{header_sound}

-- if the bit is set nothing is pending
set_bit : (activity : ℕ) (correction : ℤ) → is_pending (bit_or activity 2) correction ≡ false
set_bit activity correction = rw (and_or_self 2 activity) refl

-- a normal form has no pending correction
normal : (activity : ℕ) (correction : ℤ) → is_pending (activity_of activity correction) correction ≡ false
normal activity correction = elim (is_pending activity correction) as
    (λ b. (is_pending activity correction ≡ b) → is_pending (cond b (bit_or activity 2) activity) correction ≡ false) [
      | true ↦ λ e. set_bit activity correction
      | false ↦ λ e. e
    ] refl

pub row_is_writable : (bytes : List ℕ) (row : Row) → IsRowOf bytes row
    → IsTrue (is_quality row.key.quality) × (is_pending row.key.activity row.key.correction ≡ false)
    × (1 ≤ length row.samples)
row_is_writable bytes row p =
    let sound = header_sound bytes p.header p.has_area.has_samples.read in (
      rw p.key_is sound.quality,
      rw p.key_is (normal p.header.activity p.header.correction),
      omega (arith, p.count, p.has_area.has_samples.some),
    )
