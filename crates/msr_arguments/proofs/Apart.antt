-- Folders that do not overlap, found one after another.
use Rattle.std.proofs.Common.{◌≡◌, ◌⊎◌, inl, inr, ℕ, ◌+◌, ◌<◌, ◌∙◌, sym, arith, List, [], ◌∷◌, map, length, take, refl, slice_index_or, subst}
use Rattle.std.proofs.lemmas.List.{get_or-map, get_or-take, get_or_default, get_or_read_under, length-map, length-take}
use Rattle.std.specs.List.{Any}
use Rattle.msr_options.specs.Tasks.{AreApart, Overlap}

-- no two of the first n overlap
pub record ApartBefore {X : Type 0} (text : X → List ℕ) (xs : List X) (n : ℕ) : Type 0 where
  pub pairs : (i j : ℕ) (d : X) → i < j → j < n
      → ¬ (Overlap (text (slice_index_or xs i d)) (text (slice_index_or xs j d)))

pub apart_none : {X : Type 0} (text : X → List ℕ) (xs : List X) → ApartBefore text xs 0
apart_none text xs = record { pairs = λ i j d less within. absurd (omega (arith, within)) }

same_or_before : (j n : ℕ) → j < n + 1 → (j ≡ n) ⊎ (j < n)
same_or_before j n h = grind (arith, h)

pub apart_more : {X : Type 0} (text : X → List ℕ) (xs : List X) (n : ℕ) (x : X) → n < length xs
    → x ≡ slice_index_or xs n x →
    ApartBefore text xs n → ¬ (Any (λ other. Overlap (text other) (text x)) (take n xs)) → ApartBefore text xs (n + 1)
apart_more text xs n x within is before none = record {
  pairs = λ i j d less most overlap. elim (same_or_before j n most) [
    | inl same ↦
        let other = slice_index_or xs i d in
        let at : x ≡ slice_index_or xs j d = rw same (get_or_read_under xs n (length xs) x d is within refl) in
        let inside : i < length (take n xs) = omega (arith, length-take n xs, less, same, within) in
        let stands : slice_index_or (take n xs) i other ≡ other =
        get_or-take n xs i other (omega (arith, less, same))
        ∙ get_or_default xs i other d (omega (arith, less, same, within)) in
        none (i, other, inside, stands, subst (λ y. Overlap (text other) (text y)) (sym at) overlap)
    | inr earlier ↦ before.pairs i j d less earlier overlap
  ];
}

pub apart_all : {X : Type 0} (text : X → List ℕ) (xs : List X) → ApartBefore text xs (length xs)
    → AreApart (map text xs)
apart_all text [] before = λ i j d less within. absurd (omega (arith, within))
apart_all text (x ∷ xs) before = λ i j d less within overlap.
    let all = x ∷ xs in
    let inside : j < length all = omega (arith, within, length-map all text) in
    let first = get_or-map text all i x d (omega (arith, less, inside)) in
    let second = get_or-map text all j x d inside in
    let P : List ℕ → Type 0 = λ a. Overlap a (slice_index_or (map text all) j d) in
    let Q : List ℕ → Type 0 = λ b. Overlap (text (slice_index_or all i x)) b in
    before.pairs i j x less inside (subst Q second (subst P first overlap))
