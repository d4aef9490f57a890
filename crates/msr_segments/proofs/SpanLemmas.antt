-- Facts about spans, followers and joiners over plain variables.
use Rattle.std.proofs.Common.{◌≡◌, ℕ, ◌+◌, List, ◌++◌, length, length-append, refl, sym, ap, subst, ◌∙◌, ℤ, Option, Some, None}
use Rattle.std.specs.Prelude.{option_map}
use Rattle.msr_rows.specs.declared.row.Row.{Row}
use Rattle.msr_segments.specs.declared.span.Span.{Span}
use Rattle.msr_segments.specs.declared.joiner.Segment.{Segment}
use Rattle.msr_segments.specs.Spans.{Continues, SpanIsInTime, longer, Following, BeginsSegment, JoinsSegment}
use Rattle.msr_segments.specs.Segments.{row_span, segment_span}
use Rattle.msr_segments.specs.Joining.{segment_at, joining_of, following_of, AreAsMany, JoinsRow, BeginsRow}
use Rattle.msr_segments.proofs.Divisions.{span_with_row}

-- a row that continues a segment, and with which it stays in time, joins it
pub joins_longer : (old : Following) (segment row : Span) (longest : ℕ) → old.current ≡ Some segment
    → Continues old.tolerance segment row → longest ≡ segment.count + row.count → SpanIsInTime (longer segment row)
    → JoinsSegment old row (record {
      tolerance = old.tolerance;
      current = Some (record { key = segment.key; start = segment.start; count = longest });
    })
joins_longer old segment row longest current continues e in_time = record {
  segment = segment;
  current = current;
  continues = continues;
  in_time = in_time;
  after = rw e refl;
}

pub breaks_some : (tolerance : ℕ) (row : Span) (current : Option Span) (at : Span) → current ≡ Some at
    → (Continues tolerance at row → ⊥) → (segment : Span) → current ≡ Some segment → Continues tolerance segment row → ⊥
breaks_some tolerance row current at e h segment f k =
    let some : Some at ≡ Some segment = sym e ∙ f in
    let same : at ≡ segment = cc in
    h (subst (λ (s : Span). Continues tolerance s row) (sym same) k)

pub breaks_none : (tolerance : ℕ) (row : Span) (current : Option Span) → current ≡ None → (segment : Span)
    → current ≡ Some segment → Continues tolerance segment row → ⊥
breaks_none tolerance row current e segment f k =
    let none : ◌≡◌ {A = Option Span} None (Some segment) = sym e ∙ f in
    absurd cc

-- a row that does not continue the segment that was begun last begins one
pub begins_after : (old : Following) (row : Span) (tolerance : ℕ) → tolerance ≡ old.tolerance
    → ((segment : Span) → old.current ≡ Some segment → Continues old.tolerance segment row → ⊥)
    → BeginsSegment old row (record { tolerance = tolerance; current = Some row })
begins_after old row tolerance e breaks = record {
  breaks = breaks;
  after = rw e refl;
}

-- the span of a segment of these samples
span_at : (samples : List ℤ) (span : Span) → span.count ≡ length samples → segment_span (segment_at samples span) ≡ span
span_at samples span e = ap (λ (n : ℕ). record { key = span.key; start = span.start; count = n }) (sym e)

same_current : (samples : List ℤ) (current : Option Span) → AreAsMany current samples
    → option_map segment_span (option_map (segment_at samples) current) ≡ current
same_current samples None h = refl
same_current samples (Some span) h = ap (λ (s : Span). Some s) (span_at samples span (h span refl))

-- a joiner without its samples is its follower
pub following_same : (following : Following) (samples : List ℤ) → AreAsMany following.current samples
    → following_of (joining_of following samples) ≡ following
following_same following samples h =
    ap (λ (o : Option Span). record { tolerance = following.tolerance; current = o })
    (same_current samples following.current h)

-- the samples stay as many as the follower says
pub counted_joins : (old new : Following) (samples more : List ℤ) (row : Row) → AreAsMany old.current samples
    → JoinsSegment old (row_span row) new → more ≡ samples ++ row.samples → AreAsMany new.current more
counted_joins old new samples more row counted k e span is =
    let after = ap (λ (f : Following). f.current) k.after in
    let some : Some span ≡ Some (longer k.segment (row_span row)) = sym is ∙ after in
    let same : span ≡ longer k.segment (row_span row) = cc in
    ap (λ (s : Span). s.count) same ∙ ap (λ (n : ℕ). n + length row.samples) (counted k.segment k.current)
    ∙ sym (length-append samples row.samples) ∙ ap length (sym e)

-- what a joiner shows once its follower and its samples have moved on
pub moved_joins : (old new : Following) (samples more : List ℤ) (row : Row) → AreAsMany old.current samples
    → JoinsSegment old (row_span row) new → more ≡ samples ++ row.samples
    → JoinsRow (joining_of old samples) row None (joining_of new more)
moved_joins old new samples more row counted k e =
    let at : segment_span (segment_at samples k.segment) ≡ k.segment =
    span_at samples k.segment (counted k.segment k.current) in
    record {
      segment = segment_at samples k.segment;
      current = ap (option_map (segment_at samples)) k.current;
      continues = subst (λ (s : Span). Continues old.tolerance s (row_span row)) (sym at) k.continues;
      in_time = subst (λ (s : Span). SpanIsInTime s) (sym (span_with_row (segment_at samples k.segment) row
          ∙ ap (λ (s : Span). longer s (row_span row)) at)) k.in_time;
      none = refl;
      after = rw (k.after, e) refl;
    }

-- the span of the segment that a joiner shows
current_at : (samples : List ℤ) (current : Option Span) (s : Segment) → option_map (segment_at samples) current ≡ Some s
    → (span : Span) × (current ≡ Some span) × (s ≡ segment_at samples span)
current_at samples None s e = absurd cc
current_at samples (Some span) s e = let same : s ≡ segment_at samples span = cc in (span, refl, same)

pub moved_begins : (old new : Following) (samples : List ℤ) (row : Row) → AreAsMany old.current samples
    → BeginsSegment old (row_span row) new → BeginsRow (joining_of old samples) row
    (option_map (segment_at samples) old.current) (joining_of new row.samples)
moved_begins old new samples row counted k = record {
  breaks = λ s e continues.
      (let at = current_at samples old.current s e in
      let same = ap segment_span at.2 ∙ span_at samples at.0 (counted at.0 at.1) in
      k.breaks at.0 at.1 (subst (λ (x : Span). Continues old.tolerance x (row_span row)) same continues));
  ended = refl;
  after = rw k.after refl;
}
