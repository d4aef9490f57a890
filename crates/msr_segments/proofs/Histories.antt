-- How the histories of a follower and of a joiner take one row more.
use Rattle.std.proofs.Common.{◌≡◌, ℕ, inl, inr, List, [], ◌∷◌, ◌++◌, map, refl, sym, ap, subst, ◌∙◌, append_assoc, Option, Some, None}
use Rattle.std.specs.Prelude.{option_map}
use Rattle.std.specs.List.{flat_map}
use Rattle.std.specs.Option.{option_to_list}
use Rattle.std.proofs.lemmas.List.{append-nil, map-append}
use Rattle.std.proofs.lemmas.Grind.{flat_map-append}
use Rattle.msr_rows.specs.declared.row.Row.{Row}
use Rattle.msr_segments.specs.declared.span.Span.{Span}
use Rattle.msr_segments.specs.declared.joiner.Segment.{Segment}
use Rattle.msr_segments.specs.declared.follow.Step.{Step}
use Rattle.msr_segments.specs.declared.follow.Step.TheVariants.{Begins, Joins}
use Rattle.msr_segments.specs.Spans.{Continues, Following, TakesStep, longer}
use Rattle.msr_segments.specs.Segments.{Part, segment_of, row_span, segment_span, row_segment, with_row, part_span, ContinuesSegment, IsDivision, AreSegments}
use Rattle.msr_segments.specs.Joining.{steps_of, HasFollowed, Joining, HasJoined}
use Rattle.msr_segments.proofs.Divisions.{no_empty, cases_last, ContinuesPart, longer_part, division_breaks, division_joins, division_begins, division_none, no_parts, segment_of_longer, segment_of_alone, span_with_row}

pub followed_none : (tolerance : ℕ) → HasFollowed (record { tolerance = tolerance; current = None }) [] []
followed_none tolerance = record {
  ended = [];
  last = None;
  division = division_none tolerance;
  told = refl;
  current = refl;
  begun = λ e. refl;
}

span_alone : (row : Row) → row_span row ≡ part_span (row, [])
span_alone row = ap segment_span (sym (segment_of_alone row))

span_longer : (part : Part) (row : Row) → longer (part_span part) (row_span row) ≡ part_span (longer_part part row)
span_longer part row = sym (span_with_row (segment_of part) row) ∙ ap segment_span (sym (segment_of_longer part row))

-- the row is a part of its own, after these parts
begun_at : (tolerance : ℕ) (rows : List Row) (parts : List Part) (answers : List Step) (row : Row)
    → IsDivision tolerance (rows ++ row ∷ []) (parts ++ (row, []) ∷ []) → answers ≡ flat_map steps_of parts
    → HasFollowed (record { tolerance = tolerance; current = Some (row_span row) }) (rows ++ row ∷ [])
    (answers ++ Begins ∷ [])
begun_at tolerance rows parts answers row d t = record {
  ended = parts;
  last = Some (row, []);
  division = d;
  told = ap (λ (s : List Step). s ++ Begins ∷ []) t ∙ sym (flat_map-append steps_of parts ((row, []) ∷ []));
  current = ap (λ (s : Span). Some s) (span_alone row);
  begun = λ e. absurd cc;
}

followed_begins : (old : Following) (rows ended : List Row) (parts : List Part) (last : Option Part)
    (answers : List Step) (row : Row) → IsDivision old.tolerance rows (parts ++ option_to_list last)
    → answers ≡ flat_map steps_of (parts ++ option_to_list last) → old.current ≡ option_map part_span last
    → (last ≡ None → rows ≡ []) → ((segment : Span) → old.current ≡ Some segment
    → Continues old.tolerance segment (row_span row)
    → ⊥) → HasFollowed (record { tolerance = old.tolerance; current = Some (row_span row) }) (rows
    ++ row ∷ []) (answers ++ Begins ∷ [])
followed_begins old rows ended parts None answers row d t c b breaks =
    let none = b refl in
    let d' = rw (none, append-nil parts) at d in
    let t' = rw (append-nil parts) at t in
    begun_at old.tolerance rows parts answers row (rw none (division_begins old.tolerance parts row d')) t'
followed_begins old rows ended parts (Some p) answers row d t c b breaks =
    let apart : (before : List Part) (part : Part) → parts ++ p ∷ [] ≡ before ++ part ∷ []
    → ContinuesPart old.tolerance part row → ⊥ = λ before part e k.
    (elim (cases_last parts before [] p part e) [
      | inl w ↦ breaks (part_span p) c (subst (λ (q : Part). ContinuesPart old.tolerance q row) (sym w.2) k)
      | inr w ↦ no_empty w.0 [] p w.1
    ]) in
    begun_at old.tolerance rows (parts ++ p ∷ []) answers row
    (division_breaks old.tolerance rows (parts ++ p ∷ []) row d apart) t

steps_longer : (parts : List Part) (p : Part) (row : Row)
    → flat_map steps_of (parts ++ p ∷ []) ++ Joins ∷ [] ≡ flat_map steps_of (parts ++ longer_part p row ∷ [])
steps_longer parts p row =
    ap (λ (s : List Step). s ++ Joins ∷ []) (flat_map-append steps_of parts (p ∷ []))
    ∙ append_assoc (flat_map steps_of parts) (flat_map steps_of (p ∷ [])) (Joins ∷ [])
    ∙ ap (λ (s : List Step). flat_map steps_of parts ++ s)
    (ap (λ (s : List Step). s ++ Joins ∷ []) (append-nil (steps_of p))
    ∙ ap (λ (s : List Step). Begins ∷ s) (sym (map-append (λ (r : Row). Joins) p.1 (row ∷ [])))
    ∙ sym (append-nil (steps_of (longer_part p row)))) ∙ sym (flat_map-append steps_of parts (longer_part p row ∷ []))

followed_joins : (old : Following) (rows : List Row) (parts : List Part) (last : Option Part) (answers : List Step)
    (row : Row) (segment : Span) → IsDivision old.tolerance rows (parts ++ option_to_list last)
    → answers ≡ flat_map steps_of (parts ++ option_to_list last) → old.current ≡ option_map part_span last
    → old.current ≡ Some segment → Continues old.tolerance segment (row_span row)
    → HasFollowed (record { tolerance = old.tolerance; current = Some (longer segment (row_span row)) })
    (rows ++ row ∷ []) (answers ++ Joins ∷ [])
followed_joins old rows parts None answers row segment d t c e k =
    absurd (let none : ◌≡◌ {A = Option Span} None (Some segment) = sym c ∙ e in cc)
followed_joins old rows parts (Some p) answers row segment d t c e k =
    let some : Some segment ≡ Some (part_span p) = sym e ∙ c in
    let same : segment ≡ part_span p = cc in
    let k' = subst (λ (s : Span). Continues old.tolerance s (row_span row)) same k in
    record {
      ended = parts;
      last = Some (longer_part p row);
      division = division_joins old.tolerance rows parts p row d k';
      told = ap (λ (s : List Step). s ++ Joins ∷ []) t ∙ steps_longer parts p row;
      current = ap (λ (s : Span). Some s) (ap (λ (s : Span). longer s (row_span row)) same ∙ span_longer p row);
      begun = λ none. absurd cc;
    }

pub followed_step : (old new : Following) (rows : List Row) (answers : List Step) (row : Row) (answer : Step)
    → HasFollowed old rows answers → TakesStep old (row_span row) answer new
    → HasFollowed new (rows ++ row ∷ []) (answers ++ answer ∷ [])
followed_step old new rows answers row Begins h k =
    rw k.after (followed_begins old rows rows h.ended h.last answers row h.division h.told h.current h.begun k.breaks)
followed_step old new rows answers row Joins h k =
    rw k.after (followed_joins old rows h.ended h.last answers row k.segment h.division h.told h.current k.current
    k.continues)

map_cons : (f : Part → Segment) (y : Segment) (ys : List Segment) (p : Part) (before : List Part) → y ≡ f p
    → ys ≡ map f before → y ∷ ys ≡ map f (p ∷ before)
map_cons f y ys p before first others = ap (λ (x : Segment). x ∷ ys) first ∙ ap (λ (xs : List Segment). f p ∷ xs) others

-- the last of a mapped list
pub map_last : (f : Part → Segment) (ys : List Segment) (s : Segment) (parts : List Part)
    → ys ++ s ∷ [] ≡ map f parts → (before : List Part) × (p : Part) × (parts ≡ before ++ p ∷ [])
    × (ys ≡ map f before) × (s ≡ f p)
map_last f [] s [] e = absurd (no_empty [] [] s (sym e))
map_last f [] s (p ∷ []) e = let h : s ≡ f p = cc in ([], p, refl, refl, h)
map_last f [] s (p ∷ q ∷ ps) e = let t : ◌≡◌ {A = List Segment} [] (f q ∷ map f ps) = cc in absurd cc
map_last f (y ∷ ys) s [] e = absurd (no_empty [] (ys ++ s ∷ []) y (sym e))
map_last f (y ∷ ys) s (p ∷ ps) e =
    let h : y ≡ f p = cc in
    let t : ys ++ s ∷ [] ≡ map f ps = cc in
    let r = map_last f ys s ps t in
    (p ∷ r.0, r.1, ap (λ (x : List Part). p ∷ x) r.2, map_cons f y ys p r.0 h r.3, r.4)

pub segments_join : (tolerance : ℕ) (rows : List Row) (ended : List Segment) (s : Segment) (row : Row)
    → AreSegments tolerance rows (ended ++ s ∷ []) → ContinuesSegment tolerance s row
    → AreSegments tolerance (rows ++ row ∷ []) (ended ++ with_row s row ∷ [])
segments_join tolerance rows ended s row a h =
    let m = map_last segment_of ended s a.parts a.each in
    let d = subst (λ (ps : List Part). IsDivision tolerance rows ps) m.2 a.division in
    let h' = subst (λ (x : Segment). ContinuesSegment tolerance x row) m.4 h in
    record {
      parts = m.0 ++ longer_part m.1 row ∷ [];
      division = division_joins tolerance rows m.0 m.1 row d h';
      each = ap (λ (xs : List Segment). xs ++ with_row s row ∷ []) m.3
          ∙ ap (λ (x : Segment). map segment_of m.0 ++ x ∷ [])
          (ap (λ (x : Segment). with_row x row) m.4 ∙ sym (segment_of_longer m.1 row))
          ∙ sym (map-append segment_of m.0 (longer_part m.1 row ∷ []));
    }

-- a new segment after these
segments_with : (tolerance : ℕ) (rows : List Row) (segments : List Segment) (row : Row)
    (a : AreSegments tolerance rows segments) → IsDivision tolerance (rows ++ row ∷ []) (a.parts ++ (row, []) ∷ [])
    → AreSegments tolerance (rows ++ row ∷ []) (segments ++ row_segment row ∷ [])
segments_with tolerance rows segments row a d = record {
  parts = a.parts ++ (row, []) ∷ [];
  division = d;
  each = ap (λ (xs : List Segment). xs ++ row_segment row ∷ []) a.each
      ∙ ap (λ (x : Segment). map segment_of a.parts ++ x ∷ []) (sym (segment_of_alone row))
      ∙ sym (map-append segment_of a.parts ((row, []) ∷ []));
}

pub segments_break : (tolerance : ℕ) (rows : List Row) (ended : List Segment) (s : Segment) (row : Row)
    → AreSegments tolerance rows (ended ++ s ∷ []) → (ContinuesSegment tolerance s row → ⊥)
    → AreSegments tolerance (rows ++ row ∷ []) ((ended ++ s ∷ []) ++ row_segment row ∷ [])
segments_break tolerance rows ended s row a h =
    let m = map_last segment_of ended s a.parts a.each in
    let breaks : (before : List Part) (part : Part) → a.parts ≡ before ++ part ∷ []
    → ContinuesPart tolerance part row → ⊥ = λ before part e k.
    (elim (cases_last m.0 before [] m.1 part (sym m.2 ∙ e)) [
      | inl w ↦ h (subst (λ (x : Segment). ContinuesSegment tolerance x row) (sym (m.4 ∙ ap segment_of w.2)) k)
      | inr w ↦ no_empty w.0 [] m.1 w.1
    ]) in
    segments_with tolerance rows (ended ++ s ∷ []) row a (division_breaks tolerance rows a.parts row a.division breaks)

pub segments_begin : (tolerance : ℕ) (ended : List Segment) (row : Row) → AreSegments tolerance [] ended
    → AreSegments tolerance (row ∷ []) (ended ++ row_segment row ∷ [])
segments_begin tolerance ended row a = segments_with tolerance [] ended row a
    (division_begins tolerance a.parts row a.division)

pub joined_none : (tolerance : ℕ) → HasJoined (record { tolerance = tolerance; current = None }) [] []
joined_none tolerance = record {
  segments = record { parts = []; division = division_none tolerance; each = refl };
  begun = λ e. refl;
}

pub joined_joins : (old : Joining) (rows : List Row) (ended : List Segment) (s : Segment) (row : Row)
    → HasJoined old rows ended → old.current ≡ Some s → ContinuesSegment old.tolerance s row
    → HasJoined (record { tolerance = old.tolerance; current = Some (with_row s row) }) (rows ++ row ∷ []) (ended ++ [])
joined_joins old rows ended s row h e k = record {
  segments = rw (append-nil ended) (segments_join old.tolerance rows ended s row (rw e at h.segments) k);
  begun = λ none. absurd cc;
}

pub joined_begins : (tolerance : ℕ) (last : Option Segment) (rows : List Row) (ended : List Segment) (row : Row)
    → HasJoined (record { tolerance = tolerance; current = last }) rows ended
    → ((s : Segment) → last ≡ Some s → ContinuesSegment tolerance s row → ⊥)
    → HasJoined (record { tolerance = tolerance; current = Some (row_segment row) }) (rows ++ row ∷ [])
    (ended ++ option_to_list last)
joined_begins tolerance None rows ended row h breaks =
    let none = h.begun refl in
    record {
      segments = rw none (segments_begin tolerance (ended ++ []) row (rw none at h.segments));
      begun = λ e. absurd cc;
    }
joined_begins tolerance (Some s) rows ended row h breaks = record {
  segments = segments_break tolerance rows ended s row h.segments (breaks s refl);
  begun = λ e. absurd cc;
}

-- no rows have no segment
pub no_segments : (tolerance : ℕ) (ended : List Segment) (s : Segment) → AreSegments tolerance [] (ended ++ s ∷ []) → ⊥
no_segments tolerance ended s a = no_empty ended [] s
    (sym (a.each ∙ ap (map segment_of) (no_parts a.parts a.division.whole)))

pub ends_empty : (tolerance : ℕ) (rows : List Row) (ended : List Segment) (last : Option Segment) → rows ≡ []
    → AreSegments tolerance rows (ended ++ option_to_list last) → last ≡ None
ends_empty tolerance rows ended None e a = refl
ends_empty tolerance rows ended (Some s) e a = absurd (no_segments tolerance ended s (rw e at a))
