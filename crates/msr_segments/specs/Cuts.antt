-- Segments that are cut into rows: the first row of a segment has its start, each later one the rounded
-- nominal instant of its first sample, counted from the segment's start.
use Rattle.std.specs.Prelude.{◌≡◌, ℕ, ◌≤◌, List, [], ◌∷◌, ◌++◌, length, map}
use Rattle.std.specs.List.{flat_map}
use Rattle.msr_time.specs.SampleRate.{IsRoundedNominal}
use Rattle.msr_rows.specs.declared.row.Row.{Row}
use Rattle.msr_segments.specs.declared.joiner.Segment.{Segment}
use Rattle.msr_segments.specs.Segments.{Part, rows_of, segment_of, row_segment, with_row, AreSegments}

-- the row goes on where the segment ends: it has the same key, and begins at the rounded nominal instant of the
-- segment's next sample, counted from the segment's start
pub record GoesOnAtNominal (segment : Segment) (row : Row) : Type 0 where
  pub key : row.key ≡ segment.key
  pub time : IsRoundedNominal segment.key.rate segment.start (length segment.samples) row.start

-- each row of the part but the first goes on where the part before it ends
abbrev pub IsCutAtNominal : Part → Type 0
IsCutAtNominal part =
    (before after : List Row) (row : Row) → part.1 ≡ before ++ row ∷ after
    → GoesOnAtNominal (segment_of (part.0, before)) row

-- the rows are these segments, each cut into one or more rows
pub record AreCuts (segments : List Segment) (rows : List Row) : Type 0 where
  pub parts : List Part
  pub whole : rows ≡ flat_map rows_of parts
  pub each : segments ≡ map segment_of parts
  pub nominal : (before after : List Part) (part : Part) → parts ≡ before ++ part ∷ after → IsCutAtNominal part

-- the segments of some rows, cut into rows, are the segments of these
abbrev pub KeepsSegments : Type 0
KeepsSegments =
    (tolerance : ℕ) (rows cuts : List Row) (segments : List Segment) → 1 ≤ tolerance
    → AreSegments tolerance rows segments
    → AreCuts segments cuts
    → AreSegments tolerance cuts segments

-- a row more is a segment of its own
abbrev pub CutsBegin : Type 0
CutsBegin =
    (segments : List Segment) (rows : List Row) (row : Row) → AreCuts segments rows
    → AreCuts (segments ++ row_segment row ∷ []) (rows ++ row ∷ [])

-- or goes on where the last segment ends
abbrev pub CutsGoOn : Type 0
CutsGoOn =
    (segments : List Segment) (last : Segment) (rows : List Row) (row : Row) → AreCuts (segments ++ last ∷ []) rows
    → GoesOnAtNominal last row
    → AreCuts (segments ++ with_row last row ∷ []) (rows ++ row ∷ [])
