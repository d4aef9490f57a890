-- What a follower and a joiner show after some rows, and how a row more changes it.
use Rattle.std.specs.Prelude.{◌≡◌, ◌↔◌, ◌⊎◌, ℕ, List, [], ◌∷◌, ◌++◌, length, map, ℤ, Option, Some, None, option_map}
use Rattle.std.specs.List.{flat_map}
use Rattle.std.specs.Option.{option_to_list}
use Rattle.msr_rows.specs.declared.row.Row.{Row}
use Rattle.msr_rows.specs.Records.{RowIsInTime}
use Rattle.msr_segments.specs.declared.span.Span.{Span}
use Rattle.msr_segments.specs.declared.joiner.Segment.{Segment}
use Rattle.msr_segments.specs.declared.follow.Step.{Step}
use Rattle.msr_segments.specs.declared.follow.Step.TheVariants.{Begins, Joins}
use Rattle.msr_segments.specs.Spans.{Following, Overruns, TakesStep}
use Rattle.msr_segments.specs.Segments.{Part, row_span, segment_span, row_segment, with_row, part_span, ContinuesSegment, SegmentIsInTime, IsDivision, AreSegments, LastEndsOutOfRange}

-- the answers for the rows of a part
abbrev pub steps_of : Part → List Step
steps_of part = Begins ∷ map (λ _. Joins) part.1

-- After these rows, these were the answers: the first row of each part of their division begins a segment, and
-- every other row joins. The last part is the follower's.
pub record HasFollowed (following : Following) (rows : List Row) (answers : List Step) : Type 0 where
  pub ended : List Part
  pub last : Option Part
  pub division : IsDivision following.tolerance rows (ended ++ option_to_list last)
  pub told : answers ≡ flat_map steps_of (ended ++ option_to_list last)
  pub current : following.current ≡ option_map part_span last
  pub begun : last ≡ None → rows ≡ []

-- what a joiner shows: its tolerance in microseconds, and the segment that is not ended
pub record Joining : Type 0 where
  pub tolerance : ℕ
  pub current : Option Segment

-- a joiner without the samples, which is what a follower shows
abbrev pub following_of : Joining → Following
following_of joining = record {
  tolerance = joining.tolerance;
  current = option_map segment_span joining.current;
}

-- after these rows, these segments have ended, and the last one is the joiner's
pub record HasJoined (joining : Joining) (rows : List Row) (ended : List Segment) : Type 0 where
  pub segments : AreSegments joining.tolerance rows (ended ++ option_to_list joining.current)
  pub begun : joining.current ≡ None → rows ≡ []

-- the row joins the joiner's segment, which with it ends in the supported years
pub record JoinsRow (old : Joining) (row : Row) (ended : Option Segment) (new : Joining) : Type 0 where
  pub segment : Segment
  pub current : old.current ≡ Some segment
  pub continues : ContinuesSegment old.tolerance segment row
  pub in_time : SegmentIsInTime (with_row segment row)
  pub none : ended ≡ None
  pub after : new ≡ record { tolerance = old.tolerance; current = Some (with_row segment row) }

-- the row begins a segment, and ends the joiner's
pub record BeginsRow (old : Joining) (row : Row) (last : Option Segment) (new : Joining) : Type 0 where
  pub breaks : (segment : Segment) → old.current ≡ Some segment → ContinuesSegment old.tolerance segment row → ⊥
  pub ended : last ≡ old.current
  pub after : new ≡ record { tolerance = old.tolerance; current = Some (row_segment row) }

-- what taking a row does, and the segment that it ends
abbrev pub IsPush : Joining → Row → Option Segment → Joining → Type 0
IsPush old row ended new = JoinsRow old row ended new ⊎ BeginsRow old row ended new

-- what taking a row does, if a follower answers so for it
abbrev pub IsPushTold : Step → Joining → Row → Option Segment → Joining → Type 0
IsPushTold Begins old row ended new = BeginsRow old row ended new
IsPushTold Joins old row ended new = JoinsRow old row ended new

-- a push makes the segments of all rows grow
abbrev pub PushesGrowSegments : Type 0
PushesGrowSegments =
    (old new : Joining) (rows : List Row) (given : List Segment) (row : Row) (ended : Option Segment)
    → HasJoined old rows given
    → IsPush old row ended new
    → HasJoined new (rows ++ row ∷ []) (given ++ option_to_list ended)

-- A follower at a joiner's place says what the joiner does with the row.
abbrev pub StepsArePushes : Type 0
StepsArePushes =
    (old : Joining) (row : Row) (answer : Step) (next : Following)
    → TakesStep (following_of old) (row_span row) answer next
    → (new : Joining) × (ended : Option Segment) × IsPushTold answer old row ended new × IsPush old row ended new
    × (next ≡ following_of new)

-- After the same rows, with the same tolerance, a follower stands where a joiner does.
abbrev pub FollowersStandWithJoiners : Type 0
FollowersStandWithJoiners =
    (following : Following) (joining : Joining) (rows : List Row) (answers : List Step) (given : List Segment)
    → HasFollowed following rows answers
    → HasJoined joining rows given
    → following.tolerance ≡ joining.tolerance
    → following ≡ following_of joining

-- A row of the supported years overruns exactly when the last segment of all rows, with this one, ends out of
-- range.
abbrev pub OverrunsAreOutOfRange : Type 0
OverrunsAreOutOfRange =
    (joining : Joining) (rows : List Row) (given : List Segment) (row : Row) → HasJoined joining rows given
    → RowIsInTime row
    → Overruns (following_of joining) (row_span row)
    ↔ LastEndsOutOfRange joining.tolerance (rows ++ row ∷ [])

-- the samples at a span, as a segment
abbrev pub segment_at : List ℤ → Span → Segment
segment_at samples span = record { key = span.key; start = span.start; samples = samples }

-- the samples are as many as the span says
abbrev pub AreAsMany : Option Span → List ℤ → Type 0
AreAsMany current samples = (span : Span) → current ≡ Some span → span.count ≡ length samples

-- a joiner's follower and samples together
abbrev pub joining_of : Following → List ℤ → Joining
joining_of following samples = record {
  tolerance = following.tolerance;
  current = option_map (segment_at samples) following.current;
}
