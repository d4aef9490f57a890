-- How a division of rows takes one row more.
use Rattle.std.proofs.Common.{◌≡◌, ℕ, ◌⊎◌, inl, inr, List, [], ◌∷◌, ◌++◌, refl, sym, ap, subst, ◌∙◌, append_assoc, ℤ, length-append}
use Rattle.std.specs.List.{flat_map}
use Rattle.std.proofs.lemmas.List.{append-nil}
use Rattle.std.proofs.lemmas.Grind.{flat_map-append}
use Rattle.msr_rows.specs.declared.row.Row.{Row}
use Rattle.msr_segments.specs.declared.joiner.Segment.{Segment}
use Rattle.msr_segments.specs.Spans.{longer}
use Rattle.msr_segments.specs.Segments.{Part, rows_of, segment_of, row_span, segment_span, row_segment, with_row, ContinuesSegment, IsJoined, IsDivision}

pub no_empty : {X : Type 0} (before after : List X) (y : X) → [] ≡ before ++ y ∷ after → ⊥
no_empty [] after y e = cc
no_empty (b ∷ before) after y e = cc

-- the last element of a list that is also split elsewhere is the split's element, or the last after it
pub cases_last : {X : Type 0} (xs before after : List X) (x y : X) → xs ++ x ∷ [] ≡ before ++ y ∷ after
    → ((after ≡ []) × (xs ≡ before) × (x ≡ y)) ⊎
    ((rest : List X) × (after ≡ rest ++ x ∷ []) × (xs ≡ before ++ y ∷ rest))
cases_last {X} [] [] after x y e = let a : after ≡ [] = cc in let h : x ≡ y = cc in inl (a, refl, h)
cases_last {X} [] (b ∷ before) after x y e = let t : ◌≡◌ {A = List X} [] (before ++ y ∷ after) = cc in
    absurd (no_empty before after y t)
cases_last {X} (z ∷ xs) [] after x y e = let t : after ≡ xs ++ x ∷ [] = cc in let h : z ≡ y = cc in
    inr (xs, t, ap (λ (w : X). w ∷ xs) h)
cases_last {X} (z ∷ xs) (b ∷ before) after x y e =
    let t : xs ++ x ∷ [] ≡ before ++ y ∷ after = cc in
    let h : z ≡ b = cc in
    elim (cases_last xs before after x y t) [
      | inl w ↦ inl (w.0, (let tail = w.1 in cc), w.2)
      | inr w ↦ inr (w.0, w.1, (let tail = w.2 in cc))
    ]

regroup : {X : Type 0} (b a : List X) (p n : X) → (b ++ p ∷ []) ++ n ∷ a ≡ b ++ p ∷ n ∷ a
regroup {X} b a p n = append_assoc b (p ∷ []) (n ∷ a)

-- the row continues the part
abbrev pub ContinuesPart : ℕ → Part → Row → Type 0
ContinuesPart tolerance part row = ContinuesSegment tolerance (segment_of part) row

-- a row that does not continue the last part begins a part of its own
pub division_breaks : (tolerance : ℕ) (rows : List Row) (parts : List Part) (row : Row)
    → IsDivision tolerance rows parts → ((before : List Part) (part : Part) → parts ≡ before ++ part ∷ []
    → ContinuesPart tolerance part row → ⊥) → IsDivision tolerance (rows ++ row ∷ []) (parts ++ (row, []) ∷ [])
division_breaks tolerance rows parts row d breaks =
    let alone : Part = (row, []) in
    let alone_joined : IsJoined tolerance alone = λ before after r e. absurd (no_empty before after r e) in
    record {
      whole = sym (flat_map-append rows_of parts (alone ∷ []) ∙ ap (λ (r : List Row). r ++ row ∷ []) (sym d.whole));
      joined = λ before after part e. elim (cases_last parts before after alone part e) [
        | inl w ↦ subst (λ (p : Part). IsJoined tolerance p) w.2 alone_joined
        | inr w ↦ d.joined before w.0 part w.2
      ];
      apart = λ before after part next e h. elim (cases_last parts (before ++ part ∷ []) after alone next
          (e ∙ sym (regroup before after part next))) [
            | inl w ↦ breaks before part w.1 (subst (λ (p : Part). ContinuesPart tolerance part p.0) (sym w.2) h)
            | inr w ↦ d.apart before w.0 part next (w.2 ∙ regroup before w.0 part next) h
          ];
    }

-- the part with one row more
abbrev pub longer_part : Part → Row → Part
longer_part part row = (part.0, part.1 ++ row ∷ [])

pub rows_longer : (parts : List Part) (part : Part) (row : Row)
    → flat_map rows_of (parts ++ part ∷ []) ++ row ∷ [] ≡ flat_map rows_of (parts ++ longer_part part row ∷ [])
rows_longer parts part row =
    let longer : Part = longer_part part row in
    ap (λ (r : List Row). r ++ row ∷ []) (flat_map-append rows_of parts (part ∷ []))
    ∙ append_assoc (flat_map rows_of parts) (flat_map rows_of (part ∷ [])) (row ∷ [])
    ∙ ap (λ (r : List Row). flat_map rows_of parts ++ r)
    (ap (λ (r : List Row). r ++ row ∷ []) (append-nil (rows_of part)) ∙ sym (append-nil (rows_of longer)))
    ∙ sym (flat_map-append rows_of parts (longer ∷ []))

-- a row that continues the last part joins it
pub division_joins : (tolerance : ℕ) (rows : List Row) (parts : List Part) (part : Part) (row : Row)
    → IsDivision tolerance rows (parts ++ part ∷ []) → ContinuesPart tolerance part row
    → IsDivision tolerance (rows ++ row ∷ []) (parts ++ longer_part part row ∷ [])
division_joins tolerance rows parts part row d joins =
    let longer : Part = longer_part part row in
    let longer_joined : IsJoined tolerance longer = λ before after r e. elim (cases_last part.1 before after row r e) [
      | inl w ↦ subst (λ (x : Row). ContinuesPart tolerance (part.0, before) x) w.2
          (subst (λ (b : List Row). ContinuesPart tolerance (part.0, b) row) w.1 joins)
      | inr w ↦ d.joined parts [] part refl before w.0 r w.2
    ] in
    record {
      whole = ap (λ (r : List Row). r ++ row ∷ []) d.whole ∙ rows_longer parts part row;
      joined = λ before after p e. elim (cases_last parts before after longer p e) [
        | inl w ↦ subst (λ (q : Part). IsJoined tolerance q) w.2 longer_joined
        | inr w ↦ d.joined before (w.0 ++ part ∷ []) p
            (ap (λ (ps : List Part). ps ++ part ∷ []) w.2 ∙ append_assoc before (p ∷ w.0) (part ∷ []))
      ];
      apart = λ before after p next e h. elim (cases_last parts (before ++ p ∷ []) after longer next
          (e ∙ sym (regroup before after p next))) [
            | inl w ↦ d.apart before [] p part (ap (λ (ps : List Part). ps ++ part ∷ []) w.1
                ∙ regroup before [] p part) (subst (λ (q : Part). ContinuesPart tolerance p q.0) (sym w.2) h)
            | inr w ↦ d.apart before (w.0 ++ part ∷ []) p next
                (ap (λ (ps : List Part). ps ++ part ∷ []) (w.2 ∙ regroup before w.0 p next)
                ∙ append_assoc before (p ∷ next ∷ w.0) (part ∷ [])) h
          ];
    }

-- a list is empty, or has a last element
pub last_of : {X : Type 0} (xs : List X) → (xs ≡ []) ⊎ ((before : List X) × (x : X) × (xs ≡ before ++ x ∷ []))
last_of {X} [] = inl refl
last_of {X} (x ∷ xs) = elim (last_of xs) [
  | inl e ↦ inr ([], x, ap (λ (ys : List X). x ∷ ys) e)
  | inr w ↦ inr (x ∷ w.0, w.1, ap (λ (ys : List X). x ∷ ys) w.2)
]

-- lists that are equal have the same last element
pub last_same : {X : Type 0} (xs ys : List X) (x y : X) → xs ++ x ∷ [] ≡ ys ++ y ∷ [] → x ≡ y
last_same {X} xs ys x y e = elim (cases_last xs ys [] x y e) [
  | inl w ↦ w.2
  | inr w ↦ absurd (no_empty w.0 [] x w.1)
]

-- no rows have no part
pub no_parts : (parts : List Part) → ◌≡◌ {A = List Row} [] (flat_map rows_of parts) → parts ≡ []
no_parts [] e = refl
no_parts (p ∷ ps) e = absurd (no_empty [] (p.1 ++ flat_map rows_of ps) p.0 e)

pub division_none : (tolerance : ℕ) → IsDivision tolerance [] []
division_none tolerance = record {
  whole = refl;
  joined = λ before after part e. absurd (no_empty before after part e);
  apart = λ before after part next e h. no_empty before (next ∷ after) part e;
}

-- the first row begins a part
pub division_begins : (tolerance : ℕ) (parts : List Part) (row : Row) → IsDivision tolerance [] parts
    → IsDivision tolerance (row ∷ []) (parts ++ (row, []) ∷ [])
division_begins tolerance parts row d =
    division_breaks tolerance [] parts row d (λ before part e k. no_empty before [] part
    (sym (no_parts parts d.whole) ∙ e))

pub segment_of_longer : (p : Part) (row : Row) → segment_of (longer_part p row) ≡ with_row (segment_of p) row
unfolding segment_of
segment_of_longer p row =
    let samples = λ (r : Row). r.samples in
    ap (λ (xs : List ℤ). record { key = p.0.key; start = p.0.start; samples = xs })
    (flat_map-append samples (rows_of p) (row ∷ [])
    ∙ ap (λ (xs : List ℤ). flat_map samples (rows_of p) ++ xs) (append-nil row.samples))

pub segment_of_alone : (row : Row) → segment_of (row, []) ≡ row_segment row
unfolding segment_of
segment_of_alone row = ap (λ (xs : List ℤ). record { key = row.key; start = row.start; samples = xs })
    (append-nil row.samples)

-- the span of a segment with one row more
pub span_with_row : (s : Segment) (row : Row) → segment_span (with_row s row) ≡ longer (segment_span s) (row_span row)
span_with_row s row = ap (λ (n : ℕ). record { key = s.key; start = s.start; count = n })
    (length-append s.samples row.samples)
