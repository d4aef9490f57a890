-- How far the times of records lie from the nominal instants of their first samples.
use Rattle.std.specs.Prelude.{◌≡◌, ℕ, ◌≤◌, List, [], ◌∷◌, ◌++◌, length, ℤ}
use Rattle.msr_time.specs.SampleRate.{SampleRate, IsNear}
use Rattle.msr_rows.specs.declared.row.Row.{Row}
use Rattle.msr_segments.specs.Segments.{AreSegments, ContinuesSegment}
use Rattle.msr_segments.specs.declared.joiner.Segment.{Segment}

-- How far t lies from the nominal instant of sample n counted from t0, before or after it, in microseconds, rounded up:
-- the least whole number of microseconds within which it lies.
pub record IsDistance (rate : SampleRate) (t0 : ℤ) (n : ℕ) (t : ℤ) (micros : ℕ) : Type 0 where
  pub near : IsNear rate t0 n t micros
  pub least : (other : ℕ) → IsNear rate t0 n t other → micros ≤ other

-- Each of the rows that joins the last segment of the rows before it lies at most that many microseconds from the
-- nominal instant of its first sample, counted from the segment's start. A row that begins a segment is the start.
abbrev pub LieWithin : (tolerance : ℕ) → List Row → ℕ → Type 0
LieWithin tolerance rows micros =
    (before after : List Row) (row : Row) (segments : List Segment) (last : Segment)
    → rows ≡ before ++ row ∷ after
    → AreSegments tolerance before (segments ++ last ∷ [])
    → ContinuesSegment tolerance last row
    → IsNear last.key.rate last.start (length last.samples) row.start micros

-- the greatest distance of a row's start from the nominal instant of its first sample, rounded up; 0 if no row joins
pub record IsGreatestMove (tolerance : ℕ) (rows : List Row) (micros : ℕ) : Type 0 where
  pub within : LieWithin tolerance rows micros
  pub least : (other : ℕ) → LieWithin tolerance rows other → micros ≤ other
