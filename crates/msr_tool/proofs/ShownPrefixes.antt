-- The last segment of a prefix of some rows is a prefix of a segment of all of them.
use Rattle.std.proofs.Common.{◌≡◌, ◌⊎◌, inl, inr, ℕ, ◌≤◌, List, [], ◌∷◌, ◌++◌, ◌∙◌, length, map, arith, refl, sym, ap, subst, append_assoc, length-append}
use Rattle.std.specs.List.{flat_map}
use Rattle.std.proofs.lemmas.Grind.{flat_map-append}
use Rattle.std.proofs.lemmas.List.{append-nil, map-append}
use Rattle.msr_rows.specs.declared.row.Row.{Row}
use Rattle.msr_segments.specs.declared.joiner.Segment.{Segment}
use Rattle.msr_segments.specs.Segments.{Part, rows_of, segment_of, IsJoined, IsDivision, AreSegments}
use Rattle.msr_segments.proofs.Divisions.{no_empty, cases_last, last_same}
use Rattle.msr_segments.proofs.DivisionLaws.{one_list}

-- a list that is split in two ways is cut first in one of them
split_first : {X : Type 0} (xs u f v : List X) → xs ++ u ≡ f ++ v
    → ((a : List X) × (xs ≡ f ++ a)) ⊎ ((y : X) × (g : List X) × (f ≡ xs ++ y ∷ g) × (u ≡ y ∷ (g ++ v)))
split_first {X} xs u [] v e = inl (xs, refl)
split_first {X} [] u (y ∷ f) v e = inr (y, f, refl, e)
split_first {X} (x ∷ xs) u (y ∷ f) v e =
    let h : x ≡ y = cc in
    let t : xs ++ u ≡ f ++ v = cc in
    elim (split_first xs u f v t) [
      | inl w ↦ inl (w.0, (let rest = w.1 in cc))
      | inr w ↦ inr (w.0, w.1, (let rest = w.2 in cc), w.3)
    ]

-- The rows are cut within this part.
pub record IsCutIn (parts : List Part) (prefix : List Row) : Type 0 where
  pub before : List Part
  pub after : List Part
  pub part : Part
  pub kept : List Row
  pub left : List Row
  pub whole : parts ≡ before ++ part ∷ after
  pub rows : part.1 ≡ kept ++ left
  pub prefix_is : prefix ≡ flat_map rows_of before ++ part.0 ∷ kept

cut_parts : (parts : List Part) (first : Row) (prefix rest : List Row)
    → flat_map rows_of parts ≡ first ∷ (prefix ++ rest) → IsCutIn parts (first ∷ prefix)
cut_parts [] first prefix rest e = absurd (no_empty [] (prefix ++ rest) first e)
cut_parts (p ∷ ps) first prefix rest e =
    let h : p.0 ≡ first = cc in
    let t : p.1 ++ flat_map rows_of ps ≡ prefix ++ rest = cc in
    elim (split_first p.1 (flat_map rows_of ps) prefix rest t) [
      | inl w ↦ record {
        before = [];
        after = ps;
        part = p;
        kept = prefix;
        left = w.0;
        whole = refl;
        rows = w.1;
        prefix_is = ap (λ (r : Row). r ∷ prefix) (sym h);
      }
      | inr w ↦
          let c = cut_parts ps w.0 w.1 rest w.3 in
          record {
            before = p ∷ c.before;
            after = c.after;
            part = c.part;
            kept = c.kept;
            left = c.left;
            whole = ap (λ (xs : List Part). p ∷ xs) c.whole;
            rows = c.rows;
            prefix_is = rw (
              ← h,
              w.2,
              c.prefix_is,
              append_assoc (rows_of p) (flat_map rows_of c.before) (c.part.0 ∷ c.kept),
            ) refl;
          }
    ]

-- the last part of the rows that are left
abbrev kept_part : (parts : List Part) (prefix : List Row) → IsCutIn parts prefix → Part
kept_part parts prefix c = (c.part.0, c.kept)

-- the prefix's parts are those before the cut, and what is left of the part that is cut
cut_division : (tolerance : ℕ) (rows : List Row) (parts : List Part) (prefix : List Row) (c : IsCutIn parts prefix)
    → IsDivision tolerance rows parts → IsDivision tolerance prefix (c.before ++ kept_part parts prefix c ∷ [])
cut_division tolerance rows parts prefix c d =
    let last : Part = kept_part parts prefix c in
    let last_joined : IsJoined tolerance last =
    λ before after row e. d.joined c.before c.after c.part c.whole before (after ++ c.left) row
    (c.rows ∙ ap (λ (r : List Row). r ++ c.left) e ∙ append_assoc before (row ∷ after) c.left) in
    record {
      whole = rw (c.prefix_is, flat_map-append rows_of c.before (last ∷ []), append-nil (rows_of last)) refl;
      joined = λ before after p e. elim (cases_last c.before before after last p e) [
        | inl w ↦ subst (λ (q : Part). IsJoined tolerance q) w.2 last_joined
        | inr w ↦ d.joined before (w.0 ++ c.part ∷ c.after) p
            (rw (c.whole, w.2, append_assoc before (p ∷ w.0) (c.part ∷ c.after)) refl)
      ];
      apart = λ before after p next e h. elim (cases_last c.before (before ++ p ∷ []) after last next
          (e ∙ sym (append_assoc before (p ∷ []) (next ∷ after)))) [
            | inl w ↦ d.apart before c.after p c.part
                (rw (c.whole, w.1, append_assoc before (p ∷ []) (c.part ∷ c.after)) refl) (rw (← w.2) at h)
            | inr w ↦ d.apart before (w.0 ++ c.part ∷ c.after) p next
                (rw (
                  c.whole,
                  w.2,
                  append_assoc before (p ∷ []) (next ∷ w.0),
                  append_assoc before (p ∷ next ∷ w.0) (c.part ∷ c.after),
                ) refl) h
          ];
    }

-- The segment is a prefix of the other.
pub record IsPrefixOf (prefix whole : Segment) : Type 0 where
  pub key : prefix.key ≡ whole.key
  pub start : prefix.start ≡ whole.start
  pub fewer : length prefix.samples ≤ length whole.samples

kept_prefix : (part : Part) (kept left : List Row) → part.1 ≡ kept ++ left
    → IsPrefixOf (segment_of (part.0, kept)) (segment_of part)
unfolding segment_of
kept_prefix part kept left e =
    let samples = λ (r : Row). r.samples in
    let all = ap (λ (rs : List Row). flat_map samples (part.0 ∷ rs)) e
    ∙ flat_map-append samples (part.0 ∷ kept) left in
    let size = length-append (flat_map samples (part.0 ∷ kept)) (flat_map samples left) in
    record { key = refl; start = refl; fewer = omega (arith, ap length all, size) }

-- the last segment of the start begins one of the segments of all rows
pub record BeginsOne (last : Segment) (parts : List Part) : Type 0 where
  pub before : List Part
  pub after : List Part
  pub part : Part
  pub whole : parts ≡ before ++ part ∷ after
  pub is_prefix : IsPrefixOf last (segment_of part)

pub last_of_prefix : (tolerance : ℕ) (rows : List Row) (parts : List Part) (first : Row) (prefix rest : List Row)
    (segments : List Segment) (last : Segment) → IsDivision tolerance rows parts → rows ≡ first ∷ (prefix ++ rest)
    → AreSegments tolerance (first ∷ prefix) (segments ++ last ∷ []) → BeginsOne last parts
last_of_prefix tolerance rows parts first prefix rest segments last d e a =
    let c = cut_parts parts first prefix rest (sym d.whole ∙ e) in
    let part : Part = kept_part parts (first ∷ prefix) c in
    let cut : AreSegments tolerance (first ∷ prefix) (map segment_of c.before ++ segment_of part ∷ []) = record {
      parts = c.before ++ part ∷ [];
      division = cut_division tolerance rows parts (first ∷ prefix) c d;
      each = sym (map-append segment_of c.before (part ∷ []));
    } in
    let same : last ≡ segment_of part = last_same segments (map segment_of c.before) last (segment_of part)
    (one_list tolerance (first ∷ prefix) _ _ a cut) in
    record {
      before = c.before;
      after = c.after;
      part = c.part;
      whole = c.whole;
      is_prefix = rw same (kept_prefix c.part c.kept c.left c.rows);
    }
