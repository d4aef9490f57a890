-- Whether a row continues a segment can be told, so every list of rows has a division.
use Rattle.std.proofs.Common.{◌≡◌, ℕ, ◌*◌, ◌⊎◌, inl, inr, arith, Bool, true, false, List, [], ◌∷◌, ◌++◌, refl, sym, subst, ◌∙◌, append_assoc, ℤ, pos, ◌-ℤ◌, ◌*ℤ◌}
use Rattle.std.specs.Prelude.{unsigned_abs}
use Rattle.std.specs.Bool.{Decides}
use Rattle.std.proofs.lemmas.Bool.{cases_lt}
use Rattle.std.proofs.lemmas.List.{append-nil}
use Rattle.msr_time.specs.SampleRate.{SampleRate, IsNear, period_of, scaled_time}
use Rattle.msr_rows.specs.declared.row.Row.{Row}
use Rattle.msr_rows.proofs.KeyLemmas.{key_test}
use Rattle.msr_segments.specs.declared.span.Span.{Span}
use Rattle.msr_segments.specs.Spans.{Continues}
use Rattle.msr_segments.specs.Segments.{Part, part_span, row_span, IsDivision, HasDivision}
use Rattle.msr_segments.proofs.KeyLemmas.{key_decides}
use Rattle.msr_segments.proofs.Divisions.{no_empty, cases_last, last_of, longer_part, ContinuesPart, division_none, division_breaks, division_joins}

by_test : (b : Bool) (P : Type 0) → Decides b P → P ⊎ (P → ⊥)
by_test true P d = inl (d.0 refl)
by_test false P d = inr (λ p. let e : false ≡ true = d.1 p in absurd cc)

near_or_not : (rate : SampleRate) (start : ℤ) (count : ℕ) (time : ℤ) (tolerance : ℕ)
    → IsNear rate start count time tolerance ⊎ (IsNear rate start count time tolerance → ⊥)
near_or_not rate start count time tolerance =
    let gap : ℕ = unsigned_abs ((time *ℤ pos (period_of rate).1) -ℤ scaled_time rate start count) in
    let most : ℕ = tolerance * (period_of rate).1 in
    elim (cases_lt most gap) [ inl far ↦ inr (λ near. omega arith) | inr near ↦ inl near ]

pub continues_or_not : (tolerance : ℕ) (segment row : Span)
    → Continues tolerance segment row ⊎ (Continues tolerance segment row → ⊥)
continues_or_not tolerance segment row =
    elim (by_test (key_test row.key segment.key) (row.key ≡ segment.key) (key_decides row.key segment.key)) [
      | inl key ↦ elim (near_or_not segment.key.rate segment.start segment.count row.start tolerance) [
        | inl near ↦ inl (record { key = key; time = near })
        | inr far ↦ inr (λ k. far k.time)
      ]
      | inr other ↦ inr (λ k. other k.key)
    ]

-- a division takes one row more
one_more : (tolerance : ℕ) (rows : List Row) (parts : List Part) (row : Row) → IsDivision tolerance rows parts
    → (more : List Part) × IsDivision tolerance (rows ++ row ∷ []) more
one_more tolerance rows parts row d = elim (last_of parts) [
  | inl none ↦
      let breaks : (before : List Part) (part : Part) → parts ≡ before ++ part ∷ []
      → ContinuesPart tolerance part row → ⊥ = λ before part e k. no_empty before [] part (sym none ∙ e) in
      (parts ++ (row, []) ∷ [], division_breaks tolerance rows parts row d breaks)
  | inr w ↦ elim (continues_or_not tolerance (part_span w.1) (row_span row)) [
    | inl joins ↦ (
      w.0 ++ longer_part w.1 row ∷ [],
      division_joins tolerance rows w.0 w.1 row
          (subst (λ (ps : List Part). IsDivision tolerance rows ps) w.2 d) joins,
    )
    | inr not ↦
        let breaks : (before : List Part) (part : Part) → parts ≡ before ++ part ∷ []
        → ContinuesPart tolerance part row → ⊥ = λ before part e k.
        (elim (cases_last w.0 before [] w.1 part (sym w.2 ∙ e)) [
          | inl same ↦ not (subst (λ (p : Part). ContinuesPart tolerance p row) (sym same.2) k)
          | inr other ↦ no_empty other.0 [] w.1 other.1
        ]) in
        (parts ++ (row, []) ∷ [], division_breaks tolerance rows parts row d breaks)
  ]
]

has_more : (tolerance : ℕ) (rows more : List Row) (parts : List Part) → IsDivision tolerance rows parts
    → (all : List Part) × IsDivision tolerance (rows ++ more) all
has_more tolerance rows [] parts d = (parts, rw (append-nil rows) d)
has_more tolerance rows (row ∷ more) parts d =
    let next = one_more tolerance rows parts row d in
    let all = has_more tolerance (rows ++ row ∷ []) more next.0 next.1 in
    (all.0, subst (λ (r : List Row). IsDivision tolerance r all.0) (append_assoc rows (row ∷ []) more) all.1)

pub has_division : HasDivision
has_division tolerance rows = has_more tolerance [] rows [] (division_none tolerance)
