use Rattle.std.proofs.Common.{arith, to_z, of_z, w64, pos, ◌≡◌, ◌≤◌, ◌+◌, ◌*◌, ◌+ℤ◌, ◌*ℤ◌, ℕ}
use Rattle.std.proofs.lemmas.Int.{ints}
use Rattle.msr_time.proofs.btime.BTime.micros_of_day.Goals as goal

-- the sum as the code computes it
sum_back : (hour minute second fract : ℕ) → hour ≤ 23 → minute ≤ 59 → second ≤ 60 → fract ≤ 9999
    → to_z w64 (of_z w64 (to_z w64 (of_z w64 (to_z w64 (of_z w64 (to_z w64 (of_z w64 (to_z w64
    (of_z w64 (to_z w64 hour *ℤ pos 3600)) +ℤ to_z w64 (of_z w64 (to_z w64 minute *ℤ pos 60)))) +ℤ to_z w64 second))
    *ℤ pos 1000000)) +ℤ to_z w64 (of_z w64 (to_z w64 fract *ℤ pos 100))))
    ≡ pos (3_600_000_000 * hour + 60_000_000 * minute + 1_000_000 * second + 100 * fract)
sum_back hour minute second fract h m s f = omega (arith, ints)

pub returns : goal.returns
returns c = sum_back _ _ _ _ c.requires.hour c.requires.minute c.requires.second c.requires.fract
