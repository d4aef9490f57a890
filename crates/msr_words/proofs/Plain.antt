-- Whether a run of differences can be divided, by a walk over it.
use Rattle.std.proofs.Common.{◌≡◌, ◌↔◌, ◌<◌, ◌≤◌, ◌+◌, ◌-◌, min, ℕ, zero, suc, ℤ, pos, Bool, true, false, IsTrue, List, [], ◌∷◌, ◌++◌, length, map, take, drop, get_or, refl, sym, ap, ◌∙◌, subst, arith, ◌⊎◌, inl, inr, eqb, Option}
use Rattle.std.specs.Prelude.{reverse}
use Rattle.std.specs.List.{All}
use Rattle.std.proofs.lemmas.Bool.{cases_lt, eqb-true, eq-eqb}
use Rattle.std.proofs.lemmas.List.{length-map, length-drop, length-reverse, length-take, get_or-drop, take_more, take_at, take_all, take-append-drop, reverse-append}
use Rattle.std.proofs.lemmas.List.Elements.{All-push, All-nil, All-take, All-contains, Contains-push}
use Rattle.msr_base.specs.declared.storage.Version.TheVariants.{One, Two}
use Rattle.msr_words.specs.Division.{CanDivide}
use Rattle.msr_words.specs.Counts.{EndsIn}
use Rattle.msr_words.specs.Lemmas.Ends.{ends_is_division}
use Rattle.msr_words.specs.Segment.{points, differences, difference_from}
use Rattle.msr_words.proofs.Runs.{points_from_at, length-points_before}
use Rattle.msr_words.specs.Lemmas.KindLaws.{last_of, front_divides}
use Rattle.msr_words.specs.declared.counts.LeastCounts.{LeastCounts}
use Rattle.msr_words.specs.AreCounts.{AreCounts}
use Rattle.msr_words.specs.Groups.{IsCapacity, IsLongestGroup}
use Rattle.msr_words.proofs.Steim2Groups.{IsOfBits, IsSteim2Group, capacity_at, division_from, division_to, group_from, group_to, steim2_bits, steim2_parts}
use Rattle.msr_words.proofs.Parts.{HasDivision, division_rest, one_group, first_fits, none_left, no_groups}

pub reverse_push : (d : ℤ) (ds : List ℤ) → reverse (ds ++ d ∷ []) ≡ d ∷ reverse ds
reverse_push d ds = reverse-append ds (d ∷ [])

-- ---- the differences of a run

pub second : (run : List (ℤ × ℤ)) (k : ℕ) (d : ℤ × ℤ) → get_or (map (λ p. p.1) run) k d.1 ≡ (get_or run k d).1
second [] k d = refl
second (p ∷ run) zero d = refl
second (p ∷ run) (suc k) d = second run k d

pub difference_of : (before : Option ℤ) (run : List ℤ) (i : ℕ) → i < length run
    → get_or (differences before run) i (pos 0) ≡ difference_from before run i
difference_of before run i h =
    let d : ℤ × ℤ = (pos 0, pos 0) in
    second (points before run) i d ∙ ap (λ (p : ℤ × ℤ). p.1) (points_from_at before run i d h)

pub length-differences : (before : Option ℤ) (run : List ℤ) → length (differences before run) ≡ length run
length-differences before run = length-map (points before run) (λ (p : ℤ × ℤ). p.1) ∙ length-points_before before run

pub difference_behind : (before : Option ℤ) (run : List ℤ) (at next : ℕ) → at ≤ next → next < length run
    → get_or (drop at (differences before run)) (next - at) (pos 0) ≡ difference_from before run next
difference_behind before run at next le h =
    get_or-drop at (differences before run) (next - at) (pos 0)
    ∙ ap (λ n. get_or (differences before run) n (pos 0)) (omega arith) ∙ difference_of before run next h

-- ---- Steim-1: by the least counts

pub newest_more : (before : Option ℤ) (run : List ℤ) (i : ℕ) → i < length run
    → reverse (take (i + 1) (differences before run))
    ≡ difference_from before run i ∷ reverse (take i (differences before run))
newest_more before run i h =
    let there : i < length (differences before run) = (let l = length-differences before run in omega arith) in
    ap reverse (take_more (differences before run) i (pos 0) there)
    ∙ reverse_push (get_or (differences before run) i (pos 0)) (take i (differences before run)) ∙
    ap (λ d. d ∷ reverse (take i (differences before run))) (difference_of before run i h)

pub counted_fits : (words : ℕ) (ds : List ℤ) (result : Bool) → 0 < length ds
    → (IsTrue result ↔ EndsIn One true words (reverse ds)) → (IsTrue result ↔ CanDivide One words ds)
counted_fits words ds result some exact = elim (last_of ds) [
  | inl e ↦ let l : length ds ≡ 0 = ap length e in absurd (omega arith)
  | inr e ↦
      let division = ends_is_division One words e.1 e.0 in
      let turned : IsTrue result ↔ EndsIn One true words (reverse (e.0 ++ e.1 ∷ [])) =
      subst (λ l. IsTrue result ↔ EndsIn One true words (reverse l)) e.2 exact in
      subst (λ l. IsTrue result ↔ CanDivide One words l) (sym e.2)
      (λ t. division.0 (turned.0 t), λ can. turned.1 (division.1 can))
]

-- one difference more
pub counts_more : (words : ℕ) (before : Option ℤ) (run : List ℤ) (i : ℕ) (old new : LeastCounts) → i < length run →
    ((past : List ℤ) → AreCounts words past old → AreCounts words (difference_from before run i ∷ past) new) →
    AreCounts words (reverse (take i (differences before run))) old
    → AreCounts words (reverse (take (i + 1) (differences before run))) new
counts_more words before run i old new h with counted =
    subst (λ p. AreCounts words p new) (sym (newest_more before run i h))
    (with (reverse (take i (differences before run))) counted)

-- whether all up to this difference can be divided
pub counted_front : (words : ℕ) (before : Option ℤ) (run : List ℤ) (i : ℕ) (new : LeastCounts) (result : Bool)
    → i < length run →
    AreCounts words (reverse (take (i + 1) (differences before run))) new →
    ((past : List ℤ) → 0 < length past → AreCounts words past new → (IsTrue result ↔ EndsIn One true words past)) →
    (IsTrue result ↔ CanDivide One words (take (i + 1) (differences before run)))
counted_front words before run i new result h counted within =
    let l = length-differences before run in
    let m = length-take (i + 1) (differences before run) in
    let r = length-reverse (take (i + 1) (differences before run)) in
    counted_fits words (take (i + 1) (differences before run)) result (omega arith)
    (within (reverse (take (i + 1) (differences before run))) (omega arith) counted)

not_whole : (words n : ℕ) (ds : List ℤ) (result : Bool) → (IsTrue result ↔ CanDivide One words (take n ds))
    → result ≡ false → CanDivide One words ds → ⊥
not_whole words n ds true exact e can = cc
not_whole words n ds false exact e can =
    let t = exact.1 (front_divides One words (take n ds) (drop n ds)
    (subst (CanDivide One words) (sym (take-append-drop n ds)) can)) in cc

pub front_not : (words n : ℕ) (ds : List ℤ) (result : Bool) → (IsTrue result ↔ CanDivide One words (take n ds))
    → result ≡ false → (IsTrue false ↔ CanDivide One words ds)
front_not words n ds result exact e = (λ t. cc, λ can. absurd (not_whole words n ds result exact e can))

pub front_all : (words n : ℕ) (before : Option ℤ) (run : List ℤ) → length run ≤ n
    → CanDivide One words (take n (differences before run)) → CanDivide One words (differences before run)
front_all words n before run all can =
    let l = length-differences before run in
    subst (CanDivide One words) (take_all n (differences before run) (omega arith)) can

-- ---- Steim-2: by the longest group from the start on

-- the first `count` of the differences, of which as many as `most` have room in one word
pub record IsOpenGroup (ds : List ℤ) (count most : ℕ) : Type 0 where
  pub within : count ≤ length ds
  pub room : count ≤ most
  pub limit : most ≤ 7
  pub bits : (n : ℕ) → 1 ≤ n → n ≤ 7 → (All (IsOfBits (steim2_bits n)) (take count ds) ↔ n ≤ most)

pub open_none : (ds : List ℤ) → IsOpenGroup ds 0 7
open_none ds = record {
  within = omega arith;
  room = omega arith;
  limit = omega arith;
  bits = λ n l h. (λ all. h, λ le. All-nil (IsOfBits (steim2_bits n)));
}

module _ (ds : List ℤ) (count most : ℕ) (is : IsOpenGroup ds count most) where
  size : length (take count ds) ≡ count
  size = let l = length-take count ds in let w = is.within in omega arith

  open_group : 0 < count → IsSteim2Group (take count ds)
  open_group some =
      let s = size in
      let r = is.room in
      let m = is.limit in
      record {
        some = omega arith;
        most = omega arith;
        bits = subst (λ n. All (IsOfBits (steim2_bits n)) (take count ds)) (sym s)
            ((is.bits count (omega arith) (omega arith)).1 r);
      }

  pub longest_at_end : length ds ≤ count → IsLongestGroup ds count
  longest_at_end end = record {
    within = is.within;
    group = λ some. group_from (take count ds) (open_group some);
    no_more = λ less. absurd (omega arith);
  }

  module _ (d : ℤ) (here : get_or ds count (pos 0) ≡ d) (less : count < length ds) (capacity : ℕ)
      (cap : IsCapacity d capacity) where
    more : take (count + 1) ds ≡ take count ds ++ d ∷ []
    more = take_more ds count (pos 0) less ∙ ap (λ z. take count ds ++ z ∷ []) here

    bits_more : (n : ℕ) → 1 ≤ n → n ≤ 7 → (All (IsOfBits (steim2_bits n)) (take count ds ++ d ∷ [])
        ↔ n ≤ min capacity most)
    bits_more n l h =
        let old = is.bits n l h in
        let new = capacity_at d capacity n cap l h in
        let group = take count ds in (
          λ all. let a = old.0 (subst (All (IsOfBits (steim2_bits n))) (take_at group (d ∷ []) (length group) refl)
              (All-take (IsOfBits (steim2_bits n)) (length group) (group ++ d ∷ []) all)) in
              let b = new.0 (All-contains (IsOfBits (steim2_bits n)) (group ++ d ∷ []) d all
              (Contains-push group d)) in omega arith,
          λ le. All-push (IsOfBits (steim2_bits n)) group d (old.1 (omega arith)) (new.1 (omega arith)),
        )

    pub open_more : count < min capacity most → IsOpenGroup ds (count + 1) (min capacity most)
    open_more room = let m = is.limit in record {
      within = omega arith;
      room = omega arith;
      limit = omega arith;
      bits = λ n l h. rw more (bits_more n l h);
    }

    pub longest_here : min capacity most ≤ count → IsLongestGroup ds count
    longest_here full = record {
      within = is.within;
      group = λ some. group_from (take count ds) (open_group some);
      no_more = λ _ is_group.
          let group = group_to (take (count + 1) ds) is_group in
          let long : length (take (count + 1) ds) ≡ count + 1 = (let l = length-take (count + 1) ds in omega arith) in
          let few = group.most in
          let bits : All (IsOfBits (steim2_bits (count + 1))) (take (count + 1) ds) =
          subst (λ n. All (IsOfBits (steim2_bits n)) (take (count + 1) ds)) long group.bits in
          let b = (bits_more (count + 1) (omega arith) (omega arith)).0
          (subst (All (IsOfBits (steim2_bits (count + 1)))) more bits) in
          omega arith;
    }

-- the words that are left, and the differences that are left
pub record IsLeft (words left : ℕ) (ds rest : List ℤ) : Type 0 where
  pub to : CanDivide Two words ds → CanDivide Two left rest
  pub from : CanDivide Two left rest → CanDivide Two words ds

pub next_of : (ds : List ℤ) (count : ℕ) (y : ℤ) (ys : List ℤ) → drop count ds ≡ y ∷ ys
    → take count ds ++ y ∷ [] ≡ take (suc count) ds
next_of [] zero y ys e = absurd (let l : 0 ≡ suc (length ys) = ap length e in omega arith)
next_of [] (suc count) y ys e = absurd (let l : 0 ≡ suc (length ys) = ap length e in omega arith)
next_of (x ∷ xs) zero y ys e = let same : x ≡ y = cc in ap (λ z. z ∷ []) (sym same)
next_of (x ∷ xs) (suc count) y ys e = ap (λ r. x ∷ r) (next_of xs count y ys e)

module _ (words left : ℕ) (ds rest : List ℤ) (count : ℕ) (longest : IsLongestGroup rest count)
    (is : IsLeft words (suc left) ds rest) (some : 0 < count) where
  cut : take count rest ++ drop count rest ≡ rest
  cut = take-append-drop count rest

  apart : (y : ℤ) (ys : List ℤ) → drop count rest ≡ y ∷ ys → IsSteim2Group (take count rest ++ y ∷ []) → ⊥
  apart y ys e group =
      let l : length (drop count rest) ≡ suc (length ys) = ap length e in
      let m = length-drop count rest in
      longest.no_more (omega arith) (let one : suc count ≡ count + 1 = omega arith in
      group_from (take (count + 1) rest) (subst (λ n. IsSteim2Group (take n rest)) one
      (subst IsSteim2Group (next_of rest count y ys e) group)))

  pub one_left : IsLeft words left ds (drop count rest)
  one_left = record {
    to = λ c.
        division_from left (drop count rest)
        (division_rest IsSteim2Group steim2_parts left (take count rest) (drop count rest)
        (group_to (take count rest) (longest.group some)) apart
        (subst (HasDivision IsSteim2Group (suc left)) (sym cut) (division_to (suc left) rest (is.to c))));
    from = λ c.
        is.from (division_from (suc left) rest (subst (HasDivision IsSteim2Group (suc left)) cut
        (one_group IsSteim2Group left (take count rest) (drop count rest)
        (group_to (take count rest) (longest.group some)) (division_to left (drop count rest) c))));
  }

-- no word is left, or the next difference stands in no word
pub none_fits : (left : ℕ) (rest : List ℤ) → (left ≡ 0) ⊎ IsLongestGroup rest 0 → 0 < length rest
    → CanDivide Two left rest → ⊥
none_fits left [] why some can = absurd (omega arith)
none_fits left (d ∷ ds) why some can = elim why [
  | inl none ↦ none_left IsSteim2Group steim2_parts d ds
      (subst (λ n. HasDivision IsSteim2Group n (d ∷ ds)) none (division_to left (d ∷ ds) can))
  | inr longest ↦ longest.no_more (omega arith)
      (group_from (d ∷ []) (first_fits IsSteim2Group steim2_parts left d ds (division_to left (d ∷ ds) can)))
]

pub all_fits : (left : ℕ) (rest : List ℤ) → length rest ≡ 0 → CanDivide Two left rest
all_fits left [] none = division_from left [] (no_groups IsSteim2Group left)
all_fits left (d ∷ ds) none = absurd (omega arith)

-- where the walk stops, all fits exactly when nothing is left
pub stops : (words left at size : ℕ) (ds : List ℤ) → length ds ≡ size → at ≤ size
    → IsLeft words left ds (drop at ds) → (left ≡ 0) ⊎ IsLongestGroup (drop at ds) 0 →
    (IsTrue (eqb at size) → CanDivide Two words ds) × (CanDivide Two words ds → IsTrue (eqb at size))
stops words left at size ds long within is why =
    let l = length-drop at ds in (
      λ t. let e = eqb-true at size t in is.from (all_fits left (drop at ds) (omega arith)),
      λ can. eq-eqb at size (elim (cases_lt at size) [
        | inl less ↦ absurd (none_fits left (drop at ds) why (omega arith) (is.to can))
        | inr more ↦ omega arith
      ]),
    )
