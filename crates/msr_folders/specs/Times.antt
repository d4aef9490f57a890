-- Which samples are on a day.
use Rattle.std.specs.Prelude.{ℕ, ◌<◌, ℤ, pos, ◌+ℤ◌, ◌≤ℤ◌, ◌<ℤ◌}
use Rattle.msr_time.specs.Instant.{IsTime, instant_of}
use Rattle.msr_time.specs.SampleRate.{IsRoundedNominal}
use Rattle.msr_time.specs.declared.btime.BTime.{BTime}
use Rattle.msr_report.specs.declared.json.ListedSegment.{ListedSegment}

-- the time with which a day of a year begins
abbrev pub midnight : (year day : ℕ) → BTime
midnight year day = record { year = year; day = day; hour = 0; minute = 0; second = 0; fract = 0 }

-- The instant is on that day: not before its midnight, and before the next.
pub record IsOnDay (year day : ℕ) (t : ℤ) : Type 0 where
  pub exists : IsTime (midnight year day)
  pub from : instant_of (midnight year day) ≤ℤ t
  pub before : t <ℤ (instant_of (midnight year day) +ℤ pos 86_400_000_000)

-- A sample of the segment is on that day: its nominal instant, counted from the segment's start and rounded.
pub record HasSampleOn (year day : ℕ) (segment : ListedSegment) : Type 0 where
  pub place : ℕ
  pub within : place < segment.count
  pub instant : ℤ
  pub nominal : IsRoundedNominal segment.key.rate segment.start place instant
  pub on : IsOnDay year day instant
