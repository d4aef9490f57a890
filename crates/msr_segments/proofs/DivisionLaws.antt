-- A list of rows has one division, and segments that are cut into rows are read back.
use Rattle.std.proofs.Common.{◌≡◌, ℕ, ◌≤◌, ◌⊎◌, inl, inr, List, [], ◌∷◌, ◌++◌, length, map, refl, ℤ, sym, ap, subst, ◌∙◌}
use Rattle.std.specs.List.{flat_map}
use Rattle.msr_time.specs.SampleRate.{IsNear}
use Rattle.msr_time.proofs.NominalLemmas.{nominal_near}
use Rattle.msr_rows.specs.declared.row.Row.{Row}
use Rattle.msr_segments.specs.declared.span.Span.{Span}
use Rattle.msr_segments.specs.declared.joiner.Segment.{Segment}
use Rattle.msr_segments.specs.Spans.{Continues}
use Rattle.msr_segments.specs.Segments.{Part, rows_of, segment_of, row_span, segment_span, row_segment, with_row, IsJoined, IsDivision, HasOneListOfSegments}
use Rattle.msr_segments.specs.Cuts.{AreCuts, GoesOnAtNominal, IsCutAtNominal, KeepsSegments}
use Rattle.msr_segments.proofs.Divisions.{no_empty, no_parts, ContinuesPart, cases_last, longer_part, rows_longer, segment_of_longer, segment_of_alone}
use Rattle.msr_segments.proofs.Histories.{map_last}
use Rattle.std.proofs.lemmas.List.{map-append}
use Rattle.std.proofs.lemmas.Grind.{flat_map-append}
use Rattle.std.proofs.Common.{append_assoc}

-- of two lists that begin alike, one begins with the other
overlap : {X : Type 0} (xs ys u v : List X) → xs ++ u ≡ ys ++ v
    → ((xs ≡ ys) × (u ≡ v)) ⊎ (((x : X) × (rest : List X) × (ys ≡ xs ++ x ∷ rest) × (u ≡ x ∷ (rest ++ v)))
    ⊎ ((x : X) × (rest : List X) × (xs ≡ ys ++ x ∷ rest) × (v ≡ x ∷ (rest ++ u))))
overlap {X} [] [] u v e = inl (refl, e)
overlap {X} [] (y ∷ ys) u v e = inr (inl (y, ys, refl, e))
overlap {X} (x ∷ xs) [] u v e = inr (inr (x, xs, refl, sym e))
overlap {X} (x ∷ xs) (y ∷ ys) u v e =
    let h : x ≡ y = cc in
    let t : xs ++ u ≡ ys ++ v = cc in
    elim (overlap xs ys u v t) [
      | inl w ↦ inl ((let same = w.0 in cc), w.1)
      | inr w ↦ elim w [
        | inl l ↦ inr (inl (l.0, l.1, (let same = l.2 in cc), l.3))
        | inr r ↦ inr (inr (r.0, r.1, (let same = r.2 in cc), r.3))
      ]
    ]

division_tail : (tolerance : ℕ) (rows : List Row) (p : Part) (ps : List Part) → IsDivision tolerance rows (p ∷ ps)
    → IsDivision tolerance (flat_map rows_of ps) ps
division_tail tolerance rows p ps d = record {
  whole = refl;
  joined = λ before after part e. d.joined (p ∷ before) after part (ap (λ (xs : List Part). p ∷ xs) e);
  apart = λ before after part next e. d.apart (p ∷ before) after part next (ap (λ (xs : List Part). p ∷ xs) e);
}

-- a part does not go on where another division of the same rows ends it
no_longer : (tolerance : ℕ) (rows others : List Row) (p q : Part) (ps qs : List Part) (row : Row)
    (rest later : List Row) → IsDivision tolerance rows (p ∷ ps) → IsDivision tolerance others (q ∷ qs)
    → p.0 ≡ q.0 → q.1 ≡ p.1 ++ row ∷ rest → flat_map rows_of ps ≡ row ∷ later → ⊥
no_longer tolerance rows others p q [] qs row rest later d k first e f = no_empty [] later row f
no_longer tolerance rows others p q (n ∷ ps) qs row rest later d k first e f =
    let same : n.0 ≡ row = cc in
    let goes = k.joined [] qs q refl p.1 rest row e in
    let goes' = subst (λ (r : Row). ContinuesPart tolerance (r, p.1) row) (sym first) goes in
    d.apart [] ps p n refl (subst (λ (r : Row). ContinuesPart tolerance p r) (sym same) goes')

-- two parts with the same first row and the same others
same_part : (p q : Part) → p.0 ≡ q.0 → p.1 ≡ q.1 → p ≡ q
same_part p q e f = ap (λ (r : Row). (r, p.1)) e ∙ ap (λ (rs : List Row). (q.0, rs)) f

pub one_division : (tolerance : ℕ) (rows : List Row) (ps qs : List Part) → IsDivision tolerance rows ps
    → IsDivision tolerance rows qs → ps ≡ qs
one_division tolerance rows [] qs d k = sym (no_parts qs (sym d.whole ∙ k.whole))
one_division tolerance rows (p ∷ ps) [] d k = no_parts (p ∷ ps) (sym k.whole ∙ d.whole)
one_division tolerance rows (p ∷ ps) (q ∷ qs) d k =
    let flat : p.0 ∷ (p.1 ++ flat_map rows_of ps) ≡ q.0 ∷ (q.1 ++ flat_map rows_of qs) = sym d.whole ∙ k.whole in
    let first : p.0 ≡ q.0 = cc in
    let others : p.1 ++ flat_map rows_of ps ≡ q.1 ++ flat_map rows_of qs = cc in
    elim (overlap p.1 q.1 (flat_map rows_of ps) (flat_map rows_of qs) others) [
      | inl w ↦
          let k' = subst (λ (r : List Row). IsDivision tolerance r qs) (sym w.1)
          (division_tail tolerance rows q qs k) in
          let tails = one_division tolerance (flat_map rows_of ps) ps qs (division_tail tolerance rows p ps d) k' in
          ap (λ (x : Part). x ∷ ps) (same_part p q first w.0) ∙ ap (λ (xs : List Part). q ∷ xs) tails
      | inr w ↦ elim w [
        | inl l ↦ absurd (no_longer tolerance rows rows p q ps qs l.0 l.1
            (l.1 ++ flat_map rows_of qs) d k first l.2 l.3)
        | inr r ↦ absurd (no_longer tolerance rows rows q p qs ps r.0 r.1 (r.1 ++ flat_map rows_of ps) k d
            (sym first) r.2 r.3)
      ]
    ]

pub one_list : HasOneListOfSegments
one_list tolerance rows segments others a b =
    a.each ∙ ap (map segment_of) (one_division tolerance rows a.parts b.parts a.division b.division) ∙ sym b.each

-- neighbours of a mapped list are those of the list
map_split : (f : Part → Segment) (xs before after : List Part) (p n : Part) → map f xs ≡ map f (before ++ p ∷ n ∷ after)
    → (b a : List Part) × (p' n' : Part) × (xs ≡ b ++ p' ∷ n' ∷ a) × (f p' ≡ f p) × (f n' ≡ f n)
map_split f [] [] after p n e = absurd (no_empty [] (map f (n ∷ after)) (f p) e)
map_split f [] (b ∷ before) after p n e = absurd (no_empty [] (map f (before ++ p ∷ n ∷ after)) (f b) e)
map_split f (x ∷ []) [] after p n e = let t : ◌≡◌ {A = List Segment} [] (f n ∷ map f after) = cc in
    absurd (no_empty [] (map f after) (f n) t)
map_split f (x ∷ y ∷ xs) [] after p n e = let h : f x ≡ f p = cc in let k : f y ≡ f n = cc in ([], xs, x, y, refl, h, k)
map_split f (x ∷ xs) (b ∷ before) after p n e =
    let t : map f xs ≡ map f (before ++ p ∷ n ∷ after) = cc in
    let m = map_split f xs before after p n t in
    (x ∷ m.0, m.1, m.2, m.3, ap (λ (ps : List Part). x ∷ ps) m.4, m.5, m.6)

-- whether a row continues a segment is a matter of its key and start alone
continues_same : (tolerance : ℕ) (segment x y : Span) → x.key ≡ y.key → x.start ≡ y.start
    → Continues tolerance segment x → Continues tolerance segment y
continues_same tolerance segment x y e f h = record {
  key = sym e ∙ h.key;
  time = subst (λ (t : ℤ). IsNear segment.key.rate segment.start segment.count t tolerance) f h.time;
}

first_key : (p q : Part) → segment_of p ≡ segment_of q → p.0.key ≡ q.0.key
unfolding segment_of
first_key p q e = ap (λ (s : Segment). s.key) e

first_start : (p q : Part) → segment_of p ≡ segment_of q → p.0.start ≡ q.0.start
unfolding segment_of
first_start p q e = ap (λ (s : Segment). s.start) e

-- rows at rounded nominal instants are joined
cut_is_joined : (tolerance : ℕ) (part : Part) → 1 ≤ tolerance → IsCutAtNominal part → IsJoined tolerance part
cut_is_joined tolerance part h cut before after row e =
    let segment = segment_of (part.0, before) in
    let at = cut before after row e in
    record {
      key = at.key;
      time = nominal_near segment.key.rate segment.start (length segment.samples) row.start tolerance h at.time;
    }

cuts_apart : (tolerance : ℕ) (rows : List Row) (read cuts before after : List Part) (part next : Part)
    → IsDivision tolerance rows read → map segment_of read ≡ map segment_of cuts
    → cuts ≡ before ++ part ∷ next ∷ after → ContinuesPart tolerance part next.0 → ⊥
cuts_apart tolerance rows read cuts before after part next d same e h =
    let m = map_split segment_of read before after part next (same ∙ ap (map segment_of) e) in
    let at = continues_same tolerance (segment_span (segment_of part)) (row_span next.0) (row_span m.3.0)
    (sym (first_key m.3 next m.6)) (sym (first_start m.3 next m.6)) h in
    d.apart m.0 m.1 m.2 m.3 m.4 (subst (λ (s : Segment). Continues tolerance (segment_span s) (row_span m.3.0))
    (sym m.5) at)

pub cuts_keep : KeepsSegments
cuts_keep tolerance rows cuts segments h a k = record {
  parts = k.parts;
  division = record {
    whole = k.whole;
    joined = λ before after part e. cut_is_joined tolerance part h (k.nominal before after part e);
    apart = λ before after part next e. cuts_apart tolerance rows a.parts k.parts before after part next a.division
        (sym a.each ∙ k.each) e;
  };
  each = k.each;
}

pub cuts_none : AreCuts [] []
cuts_none = record {
  parts = [];
  whole = refl;
  each = refl;
  nominal = λ before after part e. absurd (no_empty before after part e);
}

pub cuts_begin : (segments : List Segment) (rows : List Row) (row : Row) → AreCuts segments rows
    → AreCuts (segments ++ row_segment row ∷ []) (rows ++ row ∷ [])
cuts_begin segments rows row k =
    let alone : Part = (row, []) in
    let alone_cut : IsCutAtNominal alone = λ before after r e. absurd (no_empty before after r e) in
    record {
      parts = k.parts ++ alone ∷ [];
      whole = ap (λ (r : List Row). r ++ row ∷ []) k.whole ∙ sym (flat_map-append rows_of k.parts (alone ∷ []));
      each = ap (λ (xs : List Segment). xs ++ row_segment row ∷ []) k.each
          ∙ ap (λ (x : Segment). map segment_of k.parts ++ x ∷ []) (sym (segment_of_alone row))
          ∙ sym (map-append segment_of k.parts (alone ∷ []));
      nominal = λ before after part e. elim (cases_last k.parts before after alone part e) [
        | inl w ↦ subst (λ (p : Part). IsCutAtNominal p) w.2 alone_cut
        | inr w ↦ k.nominal before w.0 part w.2
      ];
    }

-- the last part, cut once more
cut_longer : (part : Part) (row : Row) → IsCutAtNominal part → GoesOnAtNominal (segment_of part) row
    → IsCutAtNominal (longer_part part row)
cut_longer part row cut at before after r e = elim (cases_last part.1 before after row r e) [
  | inl w ↦ subst (λ (x : Row). GoesOnAtNominal (segment_of (part.0, before)) x) w.2
      (subst (λ (b : List Row). GoesOnAtNominal (segment_of (part.0, b)) row) w.1 at)
  | inr w ↦ cut before w.0 r w.2
]

pub cuts_go_on : (segments : List Segment) (last : Segment) (rows : List Row) (row : Row)
    → AreCuts (segments ++ last ∷ []) rows → GoesOnAtNominal last row
    → AreCuts (segments ++ with_row last row ∷ []) (rows ++ row ∷ [])
cuts_go_on segments last rows row k at =
    let m = map_last segment_of segments last k.parts k.each in
    let longer : Part = longer_part m.1 row in
    let cut = k.nominal m.0 [] m.1 m.2 in
    let longer_cut = cut_longer m.1 row cut (subst (λ (s : Segment). GoesOnAtNominal s row) m.4 at) in
    record {
      parts = m.0 ++ longer ∷ [];
      whole = ap (λ (r : List Row). r ++ row ∷ []) (k.whole ∙ ap (flat_map rows_of) m.2) ∙ rows_longer m.0 m.1 row;
      each = ap (λ (xs : List Segment). xs ++ with_row last row ∷ []) m.3
          ∙ ap (λ (x : Segment). map segment_of m.0 ++ x ∷ [])
          (ap (λ (x : Segment). with_row x row) m.4 ∙ sym (segment_of_longer m.1 row))
          ∙ sym (map-append segment_of m.0 (longer ∷ []));
      nominal = λ before after part e. elim (cases_last m.0 before after longer part e) [
        | inl w ↦ subst (λ (p : Part). IsCutAtNominal p) w.2 longer_cut
        | inr w ↦ k.nominal before (w.0 ++ m.1 ∷ []) part
            (m.2 ∙ ap (λ (ps : List Part). ps ++ m.1 ∷ []) w.2 ∙ append_assoc before (part ∷ w.0) (m.1 ∷ []))
      ];
    }
