-- The segments of a list of rows: the one division into consecutive parts, none empty, in which each row but a
-- part's first continues what its part has before it, and no part's first row continues the whole part before.
use Rattle.std.specs.Prelude.{◌≡◌, ℕ, List, [], ◌∷◌, ◌++◌, length, map}
use Rattle.std.specs.List.{flat_map}
use Rattle.msr_rows.specs.declared.row.Row.{Row}
use Rattle.msr_segments.specs.declared.span.Span.{Span}
use Rattle.msr_segments.specs.declared.joiner.Segment.{Segment}
use Rattle.msr_segments.specs.Spans.{span_of, Continues, SpanIsInTime, EndsOutOfRange}

-- where the samples of a row or of a segment lie
abbrev pub row_span : Row → Span
row_span row = span_of row.key row.start (length row.samples)

abbrev pub segment_span : Segment → Span
segment_span segment = span_of segment.key segment.start (length segment.samples)

-- a row as a segment
abbrev pub row_segment : Row → Segment
row_segment row = record { key = row.key; start = row.start; samples = row.samples }

-- a segment with the samples of one row more
abbrev pub with_row : Segment → Row → Segment
with_row segment row = record {
  key = segment.key;
  start = segment.start;
  samples = segment.samples ++ row.samples;
}

-- the row continues the segment
abbrev pub ContinuesSegment : ℕ → Segment → Row → Type 0
ContinuesSegment tolerance segment row = Continues tolerance (segment_span segment) (row_span row)

-- a part of the rows, which is not empty: its first row and the others
abbrev pub Part : Type 0
Part = Row × List Row

abbrev pub rows_of : Part → List Row
rows_of part = part.0 ∷ part.1

-- the part as one segment: key and start of its first row, and all samples
unfoldable pub segment_of : Part → Segment
segment_of part = record {
  key = part.0.key;
  start = part.0.start;
  samples = flat_map (λ (row : Row). row.samples) (rows_of part);
}

abbrev pub part_span : Part → Span
part_span part = segment_span (segment_of part)

-- each row of the part but the first continues what the part has before it
abbrev pub IsJoined : ℕ → Part → Type 0
IsJoined tolerance part =
    (before after : List Row) (row : Row) → part.1 ≡ before ++ row ∷ after
    → ContinuesSegment tolerance (segment_of (part.0, before)) row

-- the rows fall into these parts, each joined, and no part's first row continues the whole part before it
pub record IsDivision (tolerance : ℕ) (rows : List Row) (parts : List Part) : Type 0 where
  pub whole : rows ≡ flat_map rows_of parts
  pub joined : (before after : List Part) (part : Part) → parts ≡ before ++ part ∷ after
      → IsJoined tolerance part
  pub apart : (before after : List Part) (part next : Part) → parts ≡ before ++ part ∷ next ∷ after
      → ContinuesSegment tolerance (segment_of part) next.0 → ⊥

-- these are the segments of the rows
pub record AreSegments (tolerance : ℕ) (rows : List Row) (segments : List Segment) : Type 0 where
  pub parts : List Part
  pub division : IsDivision tolerance rows parts
  pub each : segments ≡ map segment_of parts

-- the segment's first sample, and the rounded instant of its last, are of the supported years
abbrev pub SegmentIsInTime : Segment → Type 0
SegmentIsInTime segment = SpanIsInTime (segment_span segment)

-- the rounded instant of the last sample of the rows' last segment, counted from that segment's start, is not
-- of the supported years
pub record LastEndsOutOfRange (tolerance : ℕ) (rows : List Row) : Type 0 where
  pub segments : List Segment
  pub last : Segment
  pub are_segments : AreSegments tolerance rows (segments ++ last ∷ [])
  pub out_of_range : EndsOutOfRange (segment_span last)

-- a list of rows has a division
abbrev pub HasDivision : Type 0
HasDivision = (tolerance : ℕ) (rows : List Row) → (parts : List Part) × IsDivision tolerance rows parts

-- a list of rows has only one division
abbrev pub HasOneDivision : Type 0
HasOneDivision =
    (tolerance : ℕ) (rows : List Row) (parts others : List Part) → IsDivision tolerance rows parts
    → IsDivision tolerance rows others
    → parts ≡ others

-- a list of rows has one list of segments
abbrev pub HasOneListOfSegments : Type 0
HasOneListOfSegments =
    (tolerance : ℕ) (rows : List Row) (segments others : List Segment) → AreSegments tolerance rows segments
    → AreSegments tolerance rows others
    → segments ≡ others
