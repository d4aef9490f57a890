-- Each instant of the years 1900 to 2100 is that of a time.
use Rattle.std.proofs.Common.{◌≡◌, ℕ, zero, suc, ◌+◌, ◌-◌, ◌*◌, ◌/◌, ◌%◌, ◌<◌, ◌≤◌, inl, inr, arith, ap, ◌∙◌, ℤ, pos, ◌-ℤ◌}
use Rattle.std.proofs.lemmas.Bool.{cases_lt}
use Rattle.jiff_core.specs.Calendar.{days_in_year, day_count, days_of_years, days_of_months}
use Rattle.jiff_core.proofs.SignedLemmas.{signed_arith}
use Rattle.msr_time.specs.Instant.{IsInstant, IsSplit}
use Rattle.msr_time.specs.declared.btime.BTime.{BTime}
use Rattle.msr_time.proofs.CalendarLemmas.{day_number_parts, count_1900, count_2101}
use borrow.Author.Differences.{up, down}

-- a year ends where the next one begins
year_length : (y : ℕ) → day_count (pos (suc y)) 1 1 ≡ day_count (pos y) 1 1 + days_in_year (pos y)
unfolding day_count days_of_years days_of_months
year_length y =
    let e : suc y + 10000 ≡ suc (y + 10000) = omega arith in
    let z : pos (y + 10000) -ℤ pos 10000 ≡ pos y = omega (arith, signed_arith) in
    let next : days_of_years (suc y + 10000) ≡ days_of_years (y + 10000) + days_in_year
    (pos (y + 10000) -ℤ pos 10000) = ap days_of_years e in
    let same : days_in_year (pos (y + 10000) -ℤ pos 10000) ≡ days_in_year (pos y) = ap days_in_year z in
    omega (arith, next, same)

-- the year that has a day
record HasYear (n c : ℕ) : Type 0 where
  year : ℕ
  low : 1900 ≤ year
  high : year < 1900 + n
  begun : day_count (pos year) 1 1 ≤ c
  ended : c < day_count (pos year) 1 1 + days_in_year (pos year)

year_of : (n c : ℕ) → 4_346_386 ≤ c → c < day_count (pos (1900 + n)) 1 1 → HasYear n c
year_of zero c low high = let first = count_1900 in absurd (omega arith)
year_of (suc n) c low high = elim (cases_lt c (day_count (pos (1900 + n)) 1 1)) [
  | inl earlier ↦
      let h = year_of n c low earlier in
      let most = h.high in
      record { year = h.year; low = h.low; high = omega arith; begun = h.begun; ended = h.ended }
  | inr here ↦
      let e : 1900 + suc n ≡ suc (1900 + n) = omega arith in
      let next : day_count (pos (1900 + suc n)) 1 1
      ≡ day_count (pos (1900 + n)) 1 1 + days_in_year (pos (1900 + n)) =
      ap (λ (y : ℕ). day_count (pos y) 1 1) e ∙ year_length (1900 + n) in
      record { year = 1900 + n; low = omega arith; high = omega arith; begun = here; ended = omega arith }
]

pub record HasSplit (t : ℤ) : Type 0 where
  pub time : BTime
  pub micros : ℕ
  pub split : IsSplit t time micros

-- the time of a day
record HasClock (r : ℕ) : Type 0 where
  hour : ℕ
  minute : ℕ
  second : ℕ
  fract : ℕ
  micros : ℕ
  in_day : hour ≤ 23
  in_hour : minute ≤ 59
  in_minute : second < 60
  in_second : fract ≤ 9999
  below : micros < 100
  sum : 3_600_000_000 * hour + 60_000_000 * minute + 1_000_000 * second + 100 * fract + micros ≡ r

clock_of : (r : ℕ) → r < 86_400_000_000 → HasClock r
clock_of r h = record {
  hour = r / 3_600_000_000;
  minute = r / 60_000_000 % 60;
  second = r / 1_000_000 % 60;
  fract = r / 100 % 10_000;
  micros = r % 100;
  in_day = omega arith;
  in_hour = omega arith;
  in_minute = omega arith;
  in_second = omega arith;
  below = omega arith;
  sum = omega arith;
}

pub has_split : (t : ℤ) → IsInstant t → HasSplit t
has_split t h = from (up t + 2_208_988_800_000_000 - down t) (omega (arith, signed_arith)) (omega (arith, signed_arith))
  where
    on_day : (n k y d r : ℕ) → up t + 2_208_988_800_000_000 ≡ down t + n → n ≡ 86_400_000_000 * k + r → 1900 ≤ y
        → y ≤ 2100 → 1 ≤ d → d ≤ days_in_year (pos y) → day_count (pos y) 1 1 + d ≡ k + 4_346_387 → HasClock r
        → HasSplit t
    on_day n k y d r e parts low high first last place c =
        let number = day_number_parts y d first in
        let sum = c.sum in
        let fine = c.in_minute in
        record {
          time = record { year = y; day = d; hour = c.hour; minute = c.minute; second = c.second; fract = c.fract };
          micros = c.micros;
          split = record {
            is_time = record {
              year = (low, high);
              day = (first, last);
              hour = c.in_day;
              minute = c.in_hour;
              second = omega arith;
              fract = c.in_second;
            };
            no_leap_second = c.in_minute;
            below = c.below;
            sum = omega (arith, signed_arith);
          };
        }

    from : (n : ℕ) → up t + 2_208_988_800_000_000 ≡ down t + n → n < 86_400_000_000 * 73_414 → HasSplit t
    from n e few =
        let k = n / 86_400_000_000 in
        let r = n % 86_400_000_000 in
        let last = count_2101 in
        let y = year_of 201 (k + 4_346_386) (omega arith) (omega arith) in
        let begun = y.begun in
        let ended = y.ended in
        let high = y.high in
        on_day n k y.year (k + 4_346_387 - day_count (pos y.year) 1 1) r e (omega arith) y.low (omega arith)
        (omega arith) (omega arith) (omega arith) (clock_of r (omega arith))
