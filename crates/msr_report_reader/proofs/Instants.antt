-- The instant that a line tells, from its time and the microseconds after it.
use Rattle.std.proofs.Common.{◌≡◌, refl, arith, ℕ, ◌<◌, ◌≤◌, List, ◌++◌, append_assoc, ℤ, pos, ◌+ℤ◌, to_z, of_z, FitsSigned, w64}
use Rattle.std.proofs.lemmas.Int.{ints}
use Rattle.jiff_core.proofs.SignedLemmas.{signed_arith}
use Rattle.msr_time.specs.declared.btime.BTime.{BTime}
use Rattle.msr_time.specs.Instant.{IsTime, IsInstant, IsSplit, instant_of}
use Rattle.msr_time.proofs.TimeLemmas.{split_in_range}
use Rattle.msr_report.specs.Text.{split_text}
use Rattle.msr_report_reader.specs.Fields.{split_then}

pub split_same : (time : BTime) (micros : ℕ) (more : List ℕ)
    → split_text time micros ++ more ≡ split_then time micros more
split_same time micros more = simp append_assoc

-- what the sum of an instant and some microseconds is, as the code computes it
pub record IsSum (time : BTime) (micros : ℕ) (whole : ℤ) : Type 0 where
  pub fits : FitsSigned w64 (to_z w64 (of_z w64 whole) +ℤ to_z w64 micros)
  pub is : to_z w64 (of_z w64 (to_z w64 (of_z w64 whole) +ℤ to_z w64 micros)) ≡ instant_of time +ℤ pos micros
  pub split : IsSplit (instant_of time +ℤ pos micros) time micros
  pub range : IsInstant (instant_of time +ℤ pos micros)

pub sum_is : (time : BTime) (micros : ℕ) (whole : ℤ) → IsTime time → time.second ≤ 59 → micros < 100
    → whole ≡ instant_of time → IsSum time micros whole
sum_is time micros whole is_time second below same =
    let split : IsSplit (instant_of time +ℤ pos micros) time micros =
    record { is_time = is_time; no_leap_second = omega arith; below = below; sum = refl } in
    let range : IsInstant (instant_of time +ℤ pos micros) = split_in_range _ time micros split in
    let start : IsSplit (instant_of time +ℤ pos 0) time 0 =
    record { is_time = is_time; no_leap_second = omega arith; below = omega arith; sum = refl } in
    let low : IsInstant (instant_of time +ℤ pos 0) = split_in_range _ time 0 start in
    let back : to_z w64 (of_z w64 whole) ≡ instant_of time = rw same (omega (arith, signed_arith, ints, low)) in
    let small : to_z w64 micros ≡ pos micros = omega (arith, ints) in
    record {
      fits = rw (back, small) (omega (arith, signed_arith, range));
      is = rw (back, small) (omega (arith, signed_arith, ints, range));
      split = split;
      range = range;
    }
