-- Where the samples of rows and segments lie in time, when a row continues a segment, and what a follower
-- answers for it. The standard leaves open which records belong together: the rule is this profile's, over the
-- fields that name a channel and its times (SEED Reference Manual 2.4, fixed section of data header, fields 2, 4
-- to 8, 10 to 14 and 16; blockette 1001).
use Rattle.std.specs.Prelude.{◌≡◌, ℕ, ◌+◌, ◌-◌, ◌≤◌, ◌^◌, ℤ, Option, Some}
use Rattle.msr_time.specs.Instant.{IsInstant}
use Rattle.msr_time.specs.SampleRate.{IsNear, IsRoundedNominal}
use Rattle.msr_rows.specs.declared.row.Key.{Key}
use Rattle.msr_rows.specs.Records.{IsInTime}
use Rattle.msr_segments.specs.declared.span.Span.{Span}
use Rattle.msr_segments.specs.declared.follow.Step.{Step}
use Rattle.msr_segments.specs.declared.follow.Step.TheVariants.{Begins, Joins}

-- this span has `count` samples of that key, the first of them at that instant
abbrev pub span_of : Key → ℤ → ℕ → Span
span_of key start count = record { key = key; start = start; count = count }

-- a row continues a segment: it has the same key, field by field, and begins at most the tolerance from the
-- nominal instant of the segment's next sample, counted from the segment's start and not rounded
pub record Continues (tolerance : ℕ) (segment row : Span) : Type 0 where
  pub key : row.key ≡ segment.key
  pub time : IsNear segment.key.rate segment.start segment.count row.start tolerance

-- the segment with the row's samples after its own
abbrev pub longer : Span → Span → Span
longer segment row = span_of segment.key segment.start (segment.count + row.count)

-- the first sample and the rounded instant of the last, counted from the first, are of the supported years
abbrev pub SpanIsInTime : Span → Type 0
SpanIsInTime span = IsInTime span.key.rate span.start span.count

-- the rounded instant of the last sample, counted from the first, is not of the supported years
pub record EndsOutOfRange (span : Span) : Type 0 where
  pub instant : ℤ
  pub nominal : IsRoundedNominal span.key.rate span.start (span.count - 1) instant
  pub out : IsInstant instant → ⊥

-- what a follower shows: its tolerance in microseconds, and where the segment lies that was begun last
pub record Following : Type 0 where
  pub tolerance : ℕ
  pub current : Option Span

-- that segment begins in the supported years, and its number of samples is bounded
abbrev pub IsInBounds : Option Span → Type 0
IsInBounds current =
    (segment : Span) → current ≡ Some segment → IsInstant segment.start × (segment.count ≤ 2 ^ 63)

-- the row continues the segment that was begun last, which with it ends out of range
pub record Overruns (following : Following) (row : Span) : Type 0 where
  pub segment : Span
  pub current : following.current ≡ Some segment
  pub continues : Continues following.tolerance segment row
  pub out_of_range : EndsOutOfRange (longer segment row)

-- the row begins a segment, since it does not continue the one that was begun last, or is the first row
pub record BeginsSegment (old : Following) (row : Span) (new : Following) : Type 0 where
  pub breaks : (segment : Span) → old.current ≡ Some segment → Continues old.tolerance segment row → ⊥
  pub after : new ≡ record { tolerance = old.tolerance; current = Some row }

-- the row joins the segment that was begun last
pub record JoinsSegment (old : Following) (row : Span) (new : Following) : Type 0 where
  pub segment : Span
  pub current : old.current ≡ Some segment
  pub continues : Continues old.tolerance segment row
  pub in_time : SpanIsInTime (longer segment row)
  pub after : new ≡ record { tolerance = old.tolerance; current = Some (longer segment row) }

-- what the answer for a row says
abbrev pub TakesStep : Following → Span → Step → Following → Type 0
TakesStep old row Begins new = BeginsSegment old row new
TakesStep old row Joins new = JoinsSegment old row new
