-- How segments grow by what a follower or a joiner does with a row, and which rows are out of range.
use Rattle.std.proofs.Common.{◌≡◌, ℕ, ℤ, ◌-◌, inl, inr, List, [], ◌∷◌, ◌++◌, map, refl, sym, ap, subst, ◌∙◌, Option, Some, None}
use Rattle.std.specs.Prelude.{option_map}
use Rattle.std.specs.Option.{option_to_list}
use Rattle.std.proofs.lemmas.List.{map-append}
use Rattle.msr_time.specs.Instant.{IsInstant}
use Rattle.msr_time.proofs.NominalLemmas.{nominal_one}
use Rattle.msr_rows.specs.declared.row.Row.{Row}
use Rattle.msr_rows.specs.Records.{RowIsInTime}
use Rattle.msr_segments.specs.declared.span.Span.{Span}
use Rattle.msr_segments.specs.declared.joiner.Segment.{Segment}
use Rattle.msr_segments.specs.declared.follow.Step.TheVariants.{Begins, Joins}
use Rattle.msr_segments.specs.Spans.{Continues, SpanIsInTime, EndsOutOfRange, longer, Overruns}
use Rattle.msr_segments.specs.Segments.{Part, segment_of, part_span, row_span, segment_span, row_segment, with_row, IsDivision, AreSegments, LastEndsOutOfRange}
use Rattle.msr_segments.specs.Joining.{Joining, following_of, HasJoined, JoinsRow, BeginsRow, PushesGrowSegments, StepsArePushes, FollowersStandWithJoiners, OverrunsAreOutOfRange}
use Rattle.msr_segments.proofs.Divisions.{no_parts, no_empty, last_same, span_with_row}
use Rattle.msr_segments.proofs.DivisionLaws.{one_division, one_list}
use Rattle.msr_segments.proofs.Existence.{continues_or_not}
use Rattle.msr_segments.proofs.Histories.{joined_joins, joined_begins, segments_join, segments_break, segments_begin, no_segments}

pub pushes_grow : PushesGrowSegments
pushes_grow old new rows given row ended h (inl k) =
    rw (k.none, k.after) (joined_joins old rows given k.segment row h k.current k.continues)
pushes_grow old new rows given row ended h (inr k) =
    rw (k.ended, k.after) (joined_begins old.tolerance old.current rows given row h k.breaks)

-- the segment at a span that a joiner's follower shows
at_span : (current : Option Segment) (span : Span) → option_map segment_span current ≡ Some span
    → (s : Segment) × (current ≡ Some s) × (span ≡ segment_span s)
at_span None span e = absurd cc
at_span (Some s) span e = let same : span ≡ segment_span s = cc in (s, refl, same)

pub steps_push : StepsArePushes
steps_push old row Begins next k =
    let new : Joining = record { tolerance = old.tolerance; current = Some (row_segment row) } in
    let begins : BeginsRow old row old.current new = record {
      breaks = λ s e. k.breaks (segment_span s) (ap (option_map segment_span) e);
      ended = refl;
      after = refl;
    } in
    (new, old.current, begins, inr begins, k.after)
steps_push old row Joins next k =
    let at = at_span old.current k.segment k.current in
    let new : Joining = record { tolerance = old.tolerance; current = Some (with_row at.0 row) } in
    let span : longer k.segment (row_span row) ≡ segment_span (with_row at.0 row) =
    ap (λ (s : Span). longer s (row_span row)) at.2 ∙ sym (span_with_row at.0 row) in
    let joins : JoinsRow old row None new = record {
      segment = at.0;
      current = at.1;
      continues = subst (λ (s : Span). Continues old.tolerance s (row_span row)) at.2 k.continues;
      in_time = subst (λ (s : Span). SpanIsInTime s) span k.in_time;
      none = refl;
      after = refl;
    } in (
      new,
      None,
      joins,
      inl joins,
      k.after ∙ ap (λ (s : Span). record
          { tolerance = old.tolerance; current = Some s }) span,
    )

-- the last of parts whose segments end with a segment is that segment
last_part : (given : List Segment) (s : Segment) (parts : List Part) (p : Part)
    → given ++ s ∷ [] ≡ map segment_of (parts ++ p ∷ []) → s ≡ segment_of p
last_part given s parts p e = last_same given (map segment_of parts) s (segment_of p)
    (e ∙ map-append segment_of parts (p ∷ []))

-- a follower's last part and a joiner's segment, after the same rows
same_place : (tolerance : ℕ) (rows : List Row) (given : List Segment) (current : Option Segment)
    (parts : List Part) (last : Option Part) → AreSegments tolerance rows (given ++ option_to_list current)
    → (current ≡ None → rows ≡ []) → (last ≡ None → rows ≡ [])
    → given ++ option_to_list current ≡ map segment_of (parts ++ option_to_list last)
    → option_map part_span last ≡ option_map segment_span current
same_place tolerance rows given None parts None a begun started e = refl
same_place tolerance rows given (Some s) parts None a begun started e =
    absurd (no_segments tolerance given s (rw (started refl) at a))
same_place tolerance rows given (Some s) parts (Some p) a begun started e =
    ap (λ (x : Segment). Some (segment_span x)) (sym (last_part given s parts p e))
same_place tolerance rows given None parts (Some p) a begun started e =
    let none = rw (begun refl) at a in
    let empty : none.parts ≡ [] = no_parts none.parts none.division.whole in
    let gone : given ++ [] ≡ [] = none.each ∙ ap (map segment_of) empty in
    absurd (no_empty (map segment_of parts) [] (segment_of p) (sym gone ∙ e ∙ map-append segment_of parts (p ∷ [])))

pub stand_together : FollowersStandWithJoiners
stand_together following joining rows answers given f h e =
    let d = subst (λ (t : ℕ). IsDivision t rows (f.ended ++ option_to_list f.last)) e f.division in
    let parts = one_division joining.tolerance rows h.segments.parts
    (f.ended ++ option_to_list f.last) h.segments.division d in
    let each = h.segments.each ∙ ap (map segment_of) parts in
    let place = same_place joining.tolerance rows given joining.current f.ended f.last h.segments h.begun f.begun
    each in
    ap (λ (t : ℕ). record { tolerance = t; current = following.current }) e
    ∙ ap (λ (current : Option Span). record { tolerance = joining.tolerance; current = current }) (f.current ∙ place)

in_time_not_out : (span : Span) → SpanIsInTime span → EndsOutOfRange span → ⊥
in_time_not_out span time out =
    out.out (subst (λ (t : ℤ). IsInstant t) (nominal_one span.key.rate span.start
    (span.count - 1) time.last out.instant time.nominal out.nominal) time.last_in)

pub overruns_end : (joining : Joining) (rows : List Row) (given : List Segment) (row : Row)
    → HasJoined joining rows given → Overruns (following_of joining) (row_span row)
    → LastEndsOutOfRange joining.tolerance (rows ++ row ∷ [])
overruns_end joining rows given row h o =
    let at = at_span joining.current o.segment o.current in
    let a = subst (λ (current : Option Segment). AreSegments joining.tolerance rows
    (given ++ option_to_list current)) at.1 h.segments in
    let continues = subst (λ (s : Span). Continues joining.tolerance s (row_span row)) at.2 o.continues in
    let span : longer o.segment (row_span row) ≡ segment_span (with_row at.0 row) =
    ap (λ (s : Span). longer s (row_span row)) at.2 ∙ sym (span_with_row at.0 row) in
    record {
      segments = given;
      last = with_row at.0 row;
      are_segments = segments_join joining.tolerance rows given at.0 row a continues;
      out_of_range = subst (λ (s : Span). EndsOutOfRange s) span o.out_of_range;
    }

-- a row of the supported years that is the last segment does not end out of range
not_alone : (tolerance : ℕ) (rows : List Row) (segments : List Segment) (row : Row)
    → AreSegments tolerance rows (segments ++ row_segment row ∷ []) → RowIsInTime row
    → LastEndsOutOfRange tolerance rows → ⊥
not_alone tolerance rows segments row a time out =
    let same = last_same segments out.segments (row_segment row) out.last
    (one_list tolerance rows _ _ a out.are_segments) in
    in_time_not_out (row_span row) time (subst (λ (s : Segment). EndsOutOfRange (segment_span s))
    (sym same) out.out_of_range)

ends_overrun : (tolerance : ℕ) (current : Option Segment) (rows : List Row) (given : List Segment) (row : Row)
    → AreSegments tolerance rows (given ++ option_to_list current) → (current ≡ None → rows ≡ []) → RowIsInTime row
    → LastEndsOutOfRange tolerance (rows ++ row ∷ [])
    → Overruns (record { tolerance = tolerance; current = option_map segment_span current }) (row_span row)
ends_overrun tolerance None rows given row a begun time out =
    let none = begun refl in
    absurd (not_alone tolerance (row ∷ []) (given ++ []) row
    (segments_begin tolerance (given ++ []) row (rw none at a)) time (rw none at out))
ends_overrun tolerance (Some s) rows given row a begun time out =
    elim (continues_or_not tolerance (segment_span s) (row_span row)) [
      | inl k ↦
          let same = last_same given out.segments (with_row s row) out.last (one_list tolerance (rows ++ row ∷ []) _ _
          (segments_join tolerance rows given s row a k) out.are_segments) in
          record {
            segment = segment_span s;
            current = refl;
            continues = k;
            out_of_range = subst (λ (x : Span). EndsOutOfRange x)
                (ap segment_span (sym same) ∙ span_with_row s row) out.out_of_range;
          }
      | inr breaks ↦ absurd (not_alone tolerance (rows ++ row ∷ []) (given ++ s ∷ []) row
          (segments_break tolerance rows given s row a breaks) time out)
    ]

pub overruns_out : OverrunsAreOutOfRange
overruns_out joining rows given row h time = (
  overruns_end joining rows given row h,
  ends_overrun joining.tolerance joining.current rows given row h.segments h.begun time,
)
