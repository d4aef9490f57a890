-- How the parts of the rows so far grow by a row more.
use Rattle.std.proofs.Common.{◌≡◌, ℕ, List, [], ◌∷◌, ◌++◌, refl, sym, ap, subst, ◌∙◌, inl, inr, Option, Some, None}
use Rattle.std.specs.Prelude.{option_map}
use Rattle.std.specs.Option.{option_to_list}
use Rattle.std.proofs.lemmas.List.{append-nil}
use Rattle.msr_rows.specs.declared.row.Row.{Row}
use Rattle.msr_segments.specs.declared.span.Span.{Span}
use Rattle.msr_segments.specs.declared.follow.Step.{Step}
use Rattle.msr_segments.specs.declared.follow.Step.TheVariants.{Begins, Joins}
use Rattle.msr_segments.specs.Spans.{Continues, Following, JoinsSegment, TakesStep}
use Rattle.msr_segments.specs.Segments.{Part, segment_of, part_span, row_span, segment_span, IsDivision}
use Rattle.msr_segments.proofs.Divisions.{no_empty, cases_last, longer_part, ContinuesPart, division_none, division_breaks, division_joins, division_begins, segment_of_longer, segment_of_alone, span_with_row}
use Rattle.msr_input.specs.Rows.{StepsTo, row_told}
use Rattle.msr_input.specs.declared.row_reader.NextRow.{NextRow}
use Rattle.msr_verdict.specs.Agreements.{HasParts}

-- the parts that have ended after a row, the one that the row is added to, and that one with it
abbrev pub parts_after : Step → List Part → Option Part → List Part
parts_after Begins parts last = parts ++ option_to_list last
parts_after Joins parts last = parts

abbrev pub last_before : Step → Option Part → Option Part
last_before Begins last = None
last_before Joins last = last

abbrev pub part_with : Option Part → Row → Part
part_with None row = (row, [])
part_with (Some part) row = longer_part part row

-- a follower without rows
pub parts_none : (following : Following) → following.current ≡ None → HasParts following [] [] None
parts_none following none =
    record { division = division_none following.tolerance; current = none; begun = λ e. refl }

breaks_last : (tolerance : ℕ) (parts : List Part) (last : Part) (row : Row)
    → (ContinuesPart tolerance last row → ⊥) → (before : List Part) (part : Part)
    → parts ++ last ∷ [] ≡ before ++ part ∷ [] → ContinuesPart tolerance part row → ⊥
breaks_last tolerance parts last row breaks before part e k = elim (cases_last parts before [] last part e) [
  | inl w ↦ breaks (subst (λ (p : Part). ContinuesPart tolerance p row) (sym w.2) k)
  | inr w ↦ no_empty w.0 [] last w.1
]

begun_division : (tolerance : ℕ) (rows : List Row) (parts : List Part) (last : Option Part) (row : Row)
    → IsDivision tolerance rows (parts ++ option_to_list last) → (last ≡ None → rows ≡ [])
    → ((segment : Span) → option_map part_span last ≡ Some segment → Continues tolerance segment (row_span row)
    → ⊥) → IsDivision tolerance (rows ++ row ∷ []) ((parts ++ option_to_list last) ++ (row, []) ∷ [])
begun_division tolerance rows parts None row d begun breaks =
    let none : rows ≡ [] = begun refl in
    let first : IsDivision tolerance [] (parts ++ []) =
    subst (λ (r : List Row). IsDivision tolerance r (parts ++ [])) none d in
    subst (λ (r : List Row). IsDivision tolerance (r ++ row ∷ []) ((parts ++ []) ++ (row, []) ∷ [])) (sym none)
    (division_begins tolerance (parts ++ []) row first)
begun_division tolerance rows parts (Some part) row d begun breaks =
    division_breaks tolerance rows (parts ++ part ∷ []) row d
    (breaks_last tolerance parts part row (breaks (part_span part) refl))

parts_join : (old new : Following) (rows : List Row) (parts : List Part) (last : Option Part) (row : Row)
    → HasParts old rows parts last → JoinsSegment old (row_span row) new
    → HasParts new (rows ++ row ∷ []) parts (Some (part_with last row))
parts_join old new rows parts None row has k =
    absurd (let wrong : ◌≡◌ {A = Option Span} None (Some k.segment) = sym has.current ∙ k.current in cc)
parts_join old new rows parts (Some part) row has k =
    let some : Some k.segment ≡ Some (part_span part) = sym k.current ∙ has.current in
    let same : k.segment ≡ part_span part = cc in
    let continues = subst (λ (s : Span). Continues old.tolerance s (row_span row)) same k.continues in
    let longer : ◌≡◌ {A = Span} (segment_span (segment_of (longer_part part row))) _ =
    ap segment_span (segment_of_longer part row) ∙ span_with_row (segment_of part) row in
    rw (k.after, same) (record {
      division = division_joins old.tolerance rows parts part row has.division continues;
      current = ap (λ (s : Span). Some s) (sym longer);
      begun = λ wrong. absurd cc;
    })

-- a row more
pub parts_grow : (old new : Following) (rows : List Row) (parts : List Part) (last : Option Part) (row : Row)
    (answer : Step) → HasParts old rows parts last → TakesStep old (row_span row) answer new
    → HasParts new (rows ++ row ∷ []) (parts_after answer parts last) (Some (part_with (last_before answer last) row))
parts_grow old new rows parts last row Begins has k =
    let breaks : (segment : Span) → option_map part_span last ≡ Some segment
    → Continues old.tolerance segment (row_span row) → ⊥ = λ segment e. k.breaks segment (has.current ∙ e) in
    rw k.after (record {
      division = begun_division old.tolerance rows parts last row has.division has.begun breaks;
      current = ap (λ (s : Span). Some s) (ap segment_span (sym (segment_of_alone row)));
      begun = λ wrong. absurd cc;
    })
parts_grow old new rows parts last row Joins has k = parts_join old new rows parts last row has k

-- a record more
abbrev pub parts_with : Option NextRow → List Part → Option Part → List Part
parts_with None parts last = parts
parts_with (Some next) parts last = parts_after next.step parts last

abbrev pub last_with : Option NextRow → Option Part → Option Part
last_with None last = last
last_with (Some next) last = Some (part_with (last_before next.step last) next.row)

pub parts_more : (old new : Following) (rows : List Row) (parts : List Part) (last : Option Part)
    (next : Option NextRow) → HasParts old rows parts last → StepsTo old next new
    → HasParts new (rows ++ option_to_list (row_told next)) (parts_with next parts last) (last_with next last)
parts_more old new rows parts last None has step = rw (step, append-nil rows) has
parts_more old new rows parts last (Some next) has step =
    parts_grow old new rows parts last next.row next.step has step
