-- The first Steim-1 group of some differences, by the least number of groups after it.
use Rattle.std.proofs.Common.{◌≡◌, ◌↔◌, ◌<◌, ◌≤◌, ℕ, zero, suc, ◌+◌, ◌-◌, ℤ, pos, Bool, true, false, eqb, List, [], ◌∷◌, ◌++◌, length, take, drop, get_or, refl, sym, ap, ◌∙◌, subst, arith, inl, inr, append_assoc, length-append, set, ◌≢◌, get_or-set_other, get_or-set_same, length-set, drop-cons}
use Rattle.std.specs.List.{AllByRecursion}
use Rattle.std.proofs.lemmas.Bool.{cases_lt, eq-eqb, ne_eqb}
use Rattle.std.proofs.lemmas.List.{append-nil, nil_from_length, take-append-drop, drop_all, drop-drop, length-drop, length-take-le}
use Rattle.msr_base.specs.declared.storage.Version.TheVariants.{One}
use Rattle.msr_steim.specs.Area.{joined_groups}
use Rattle.msr_steim.specs.Word.{AreGroups, FitsBits, IsGroup, IsGroupAt}
use Rattle.msr_words.specs.Division.{CanDivide}
use Rattle.msr_words.specs.Canonical.{IsCanonicalDivision}
use Rattle.msr_words.specs.FirstGroup.{AreGiven, AreSizes, IsBest, IsCanonicalFirst, IsFirstGroup, IsFewestGroups}
use Rattle.msr_words.specs.Lemmas.LeastCounts.{a_group_has_few}
use Rattle.msr_words.specs.Lemmas.SteimLaws.{head_group, none_divides, one_has_few, size_law, tail_groups}
use Rattle.msr_words.proofs.WrittenDivision.{at_place_is, divides_can, group_fits, starts_with, with_first, DividesFrom}

-- ---- the best size

pub inside : (b : Bool) (g : List ℤ) → IsGroup One g → (length g ≡ 3 → ⊥) → IsGroupAt One b g
inside true g is three = is
inside false g is three = (is, three)

-- three differences are a group at the end alone
pub at_end : (b : Bool) (g : List ℤ) → IsGroupAt One b g → length g ≡ 3 → b ≡ true
at_end true g is three = refl
at_end false g is three = absurd (is.1 three)

none_left : (ds : List ℤ) → CanDivide One 0 ds → length ds ≡ 0
none_left ds can = let few = size_law One 0 ds can in omega arith

all_left : (ds : List ℤ) (number : ℕ) → IsFewestGroups ds number → length ds ≡ 0 → number ≡ 0
all_left ds number is none =
    let few = is.fewest 0 (subst (CanDivide One 0) (sym (nil_from_length ds none)) (none_divides One 0)) in omega arith

module _ (d : ℤ) (ds : List ℤ) (all one two three pair triple four size after : ℕ) (fits : FitsBits 32 d)
    (best : IsBest all one two three pair triple four size after)
    (all_is : IsFewestGroups ds all) (one_is : 1 ≤ length ds → IsFewestGroups (drop 1 ds) one)
    (two_is : 2 ≤ length ds → IsFewestGroups (drop 2 ds) two)
    (three_is : 3 ≤ length ds → IsFewestGroups (drop 3 ds) three)
    (two_group : pair < 32768 ↔ (2 ≤ length (d ∷ ds)) × IsGroup One (take 2 (d ∷ ds)))
    (three_group : triple < 128 ↔ (3 ≤ length (d ∷ ds)) × IsGroup One (take 3 (d ∷ ds)))
    (four_group : four < 128 ↔ (4 ≤ length (d ∷ ds)) × IsGroup One (take 4 (d ∷ ds))) where
  some : 0 < size
  some = elim best.which [
    | inl a ↦ omega (arith, a.0)
    | inr a ↦ elim a [
      | inl b ↦ omega (arith, b.0)
      | inr b ↦ elim b
          [ inl e ↦ omega (arith, e.0) | inr e ↦ omega (arith, e.0) ]
    ]
  ]

  no_better : (other n : ℕ) → other ≤ length (d ∷ ds)
      → IsGroupAt One (eqb other (length (d ∷ ds))) (take other (d ∷ ds)) → CanDivide One n (drop other (d ∷ ds))
      → (after ≤ n) × (n ≤ after → other ≤ size)
  no_better zero n within group can = let few =
      (a_group_has_few One true [] (at_place_is One (eqb 0 (length (d ∷ ds))) [] group)).0 in absurd (omega arith)
  no_better (suc zero) n within group can =
      let a = all_is.fewest n can in
      let b = best.single in
      let s = some in
      (omega arith, λ le. omega arith)
  no_better (suc (suc zero)) n within group can =
      let a = (one_is (omega arith)).fewest n can in
      let b = best.of_two (two_group.1 (within, at_place_is One (eqb 2 (length (d ∷ ds))) (take 2 (d ∷ ds)) group)) in
      (omega (arith, b.0), λ le. b.1 (omega (arith, b.0)))
  no_better (suc (suc (suc zero))) n within group can =
      let size_is : length (take 3 (d ∷ ds)) ≡ 3 = length-take-le 3 (d ∷ ds) within in
      let end = at_end (eqb 3 (length (d ∷ ds))) (take 3 (d ∷ ds)) group size_is in
      let b = best.of_three (three_group.1 (
        within,
        at_place_is One (eqb 3 (length (d ∷ ds)))
            (take 3 (d ∷ ds)) group,
      )) (all_left (drop 2 ds) two (two_is (omega arith)) (no_more end)) in
      (omega (arith, b.0), λ le. b.1)
    where
      no_more : eqb 3 (length (d ∷ ds)) ≡ true → length (drop 2 ds) ≡ 0
      no_more end = elim (cases_lt 3 (length (d ∷ ds))) [
        | inl more ↦ let no : eqb 3 (length (d ∷ ds)) ≡ false = ne_eqb 3 (length (d ∷ ds)) (λ e. omega arith) in cc
        | inr all' ↦ let l = length-drop 2 ds in omega arith
      ]
  no_better (suc (suc (suc (suc zero)))) n within group can =
      let a = (three_is (omega arith)).fewest n can in
      let b = best.of_four (four_group.1 (within, at_place_is One (eqb 4 (length (d ∷ ds))) (take 4 (d ∷ ds)) group)) in
      (omega (arith, b.0), λ le. b.1 (omega (arith, b.0)))
  no_better (suc (suc (suc (suc (suc other))))) n within group can =
      let size_is : length (take (suc (suc (suc (suc (suc other))))) (d ∷ ds))
      ≡ suc (suc (suc (suc (suc other)))) = length-take-le (suc (suc (suc (suc (suc other))))) (d ∷ ds) within in
      let few = one_has_few (take (suc (suc (suc (suc (suc other))))) (d ∷ ds))
      (at_place_is One (eqb (suc (suc (suc (suc (suc other))))) (length (d ∷ ds)))
      (take (suc (suc (suc (suc (suc other))))) (d ∷ ds)) group) in
      absurd (omega arith)

  with_this : (k a : ℕ) → size ≡ k → after ≡ a → k ≤ length (d ∷ ds)
      → IsGroupAt One (eqb k (length (d ∷ ds))) (take k (d ∷ ds)) → IsFewestGroups (drop k (d ∷ ds)) a
      → IsFirstGroup (d ∷ ds) size after
  with_this k a size_is after_is within group left = record {
    within = omega arith;
    group = subst (λ n. IsGroupAt One (eqb n (length (d ∷ ds))) (take n (d ∷ ds))) (sym size_is) group;
    left = subst (λ n. IsFewestGroups (drop n (d ∷ ds)) after) (sym size_is)
        (subst (IsFewestGroups (drop k (d ∷ ds))) (sym after_is) left);
    best = no_better;
  }

  pub first_of : IsFirstGroup (d ∷ ds) size after
  first_of = elim best.which [
    | inl a ↦ with_this 1 all a.0 a.1 (omega arith)
        (inside (eqb 1 (length (d ∷ ds))) (d ∷ []) (fits, tt) (λ e. omega arith)) all_is
    | inr a ↦ elim a [
      | inl b ↦
          let g = two_group.0 b.1 in
          let long : length (take 2 (d ∷ ds)) ≡ 2 = length-take-le 2 (d ∷ ds) g.0 in
          with_this 2 one b.0 b.2 g.0 (inside (eqb 2 (length (d ∷ ds))) (take 2 (d ∷ ds)) g.1 (λ e. omega arith))
          (one_is (omega (arith, g.0)))
      | inr b ↦ elim b [
        | inl e ↦
            let g = three_group.0 e.1 in
            let left : IsFewestGroups (drop 2 ds) two = two_is (omega (arith, g.0)) in
            let none : IsFewestGroups (drop 2 ds) 0 = subst (IsFewestGroups (drop 2 ds)) e.2 left in
            let l = length-drop 2 ds in
            let no_more : length (drop 2 ds) ≡ 0 = none_left (drop 2 ds) none.can in
            let last : eqb 3 (length (d ∷ ds)) ≡ true = eq-eqb 3 (length (d ∷ ds)) (omega (arith, g.0)) in
            with_this 3 0 e.0 e.3 g.0 (subst (λ b. IsGroupAt One b (take 3 (d ∷ ds))) (sym last) g.1) none
        | inr e ↦
            let g = four_group.0 e.1 in
            let long : length (take 4 (d ∷ ds)) ≡ 4 = length-take-le 4 (d ∷ ds) g.0 in
            with_this 4 three e.0 e.2 g.0 (inside (eqb 4 (length (d ∷ ds))) (take 4 (d ∷ ds)) g.1
            (λ e'. omega arith)) (three_is (omega (arith, g.0)))
      ]
    ]
  ]

-- ---- one group more

pub fewer : (n : ℕ) (ds : List ℤ) → CanDivide One (suc n - 1) ds → CanDivide One n ds
fewer n ds can = let same : suc n - 1 ≡ n = omega arith in subst (λ m. CanDivide One m ds) same can

module _ (ds : List ℤ) (size after : ℕ) (first : IsFirstGroup ds size after) where
  pub first_some : 0 < size
  first_some =
      let few = (a_group_has_few One true (take size ds)
      (at_place_is One (eqb size (length ds)) (take size ds) first.group)).0 in
      let l = length-take-le size ds first.within in omega arith

  pub first_few : size ≤ 4
  first_few =
      let few = one_has_few (take size ds) (at_place_is One (eqb size (length ds)) (take size ds) first.group) in
      let l = length-take-le size ds first.within in omega arith

  pub first_is_group : IsGroup One (take size ds)
  first_is_group = at_place_is One (eqb size (length ds)) (take size ds) first.group

  divides : DividesFrom One (after + 1) size ds
  divides =
      let same : after ≡ after + 1 - 1 = omega arith in
      record {
        within = first.within;
        some = omega arith;
        group = first.group;
        can = subst (λ n. CanDivide One n (drop size ds)) same first.left.can;
      }

  fewest : (n : ℕ) (gs : List (List ℤ)) → AreGroups One gs → joined_groups gs ≡ ds → length gs ≤ n → after + 1 ≤ n
  fewest n [] are join few =
      let e : 0 ≡ length ds = ap length join in
      let s = first_some in
      let w = first.within in absurd (omega arith)
  fewest n (g ∷ gs) are join few =
      let d = starts_with One g gs ds are join in
      let b = first.best (length g) (length gs) d.within d.group (fewer (length gs) (drop (length g) ds) d.can) in
      omega (arith, b.0)

  pub least_of : IsFewestGroups ds (after + 1)
  least_of = record {
    can = divides_can One (after + 1) size ds divides;
    fewest = λ n can. fewest n can.groups can.are_groups can.join can.few;
  }

  -- the rest is divided as it is
  pub canonical_more : (gs : List (List ℤ)) → IsCanonicalDivision One gs (drop size ds)
      → IsCanonicalDivision One (take size ds ∷ gs) ds
  canonical_more gs rest =
      let few : length gs ≤ after =
      (let a = rest.fewest first.left.can.groups first.left.can.are_groups first.left.can.join in
      let b = first.left.can.few in omega arith) in
      let joined : joined_groups (take size ds ∷ gs) ≡ ds = ap (λ x. take size ds ++ x) rest.join
      ∙ take-append-drop size ds in
      let long : length (take size ds) ≡ size = length-take-le size ds first.within in
      record {
        are_groups = with_first One size ds gs first.within first.group rest.are_groups rest.join;
        join = joined;
        fewest = λ others are join. let l = fewest (length others) others are join (omega arith) in omega arith;
        longest = (
          λ other others are join short. let d = starts_with One other others ds are (join ∙ joined) in
              let b = first.best (length other) (length others) d.within d.group
              (fewer (length others) (drop (length other) ds) d.can) in
              let c = b.1 (omega arith) in omega arith,
          rest.longest,
        );
      }

-- ---- the whole division

-- these groups are those of the differences before this place, whatever the others are
pub record AreGroupsBefore (ds : List ℤ) (at : ℕ) (groups : List (List ℤ)) : Type 0 where
  pub low : at ≤ length ds
  pub extend : (gs : List (List ℤ)) → IsCanonicalDivision One gs (drop at ds)
      → IsCanonicalDivision One (groups ++ gs) ds

module _ (ds : List ℤ) (sizes : List ℕ) (are : AreSizes ds 0 sizes) where
  nothing_left : (at : ℕ) → length ds ≤ at → IsCanonicalDivision One [] (drop at ds)
  nothing_left at end = record {
    are_groups = tt;
    join = sym (drop_all at ds end);
    fewest = λ others are join. omega arith;
    longest = tt;
  }

  build : (fuel at : ℕ) → length ds ≤ at + fuel → at ≤ length ds
      → (gs : List (List ℤ)) × IsCanonicalDivision One gs (drop at ds)
  build zero at enough within = ([], nothing_left at (omega arith))
  build (suc fuel) at enough within = elim (cases_lt at (length ds)) [
    | inr end ↦ ([], nothing_left at end)
    | inl more ↦
        let is = are.each at (omega arith) more in
        let some = first_some (drop at ds) (get_or sizes at 0) is.0 is.1 in
        let left = length-drop at ds in
        let w = is.1.within in
        let rest = build fuel (at + get_or sizes at 0) (omega arith) (omega arith) in (
          take (get_or sizes at 0) (drop at ds) ∷ rest.0,
          canonical_more (drop at ds) (get_or sizes at 0) is.0 is.1 rest.0
              (subst (IsCanonicalDivision One rest.0) (sym (drop-drop (get_or sizes at 0) at ds)) rest.1),
        )
  ]

  pub first_at : (at size : ℕ) → size ≡ get_or sizes at 0 → at < length ds → IsCanonicalFirst (drop at ds) size
  first_at at size size_is less = subst (IsCanonicalFirst (drop at ds)) (sym size_is) (are.each at (omega arith) less)

  pub one_before : (at size : ℕ) (group : List ℤ) (groups : List (List ℤ)) → size ≡ get_or sizes at 0
      → at < length ds → group ≡ take size (drop at ds) → AreGroupsBefore ds at groups
      → AreGroupsBefore ds (at + size) (groups ++ group ∷ [])
  one_before at size group groups size_is less group_is before =
      let is : IsCanonicalFirst (drop at ds) size = first_at at size size_is less in
      let left = length-drop at ds in
      record {
        low = omega (arith, is.1.within);
        extend = λ gs chosen.
            let rest : IsCanonicalDivision One gs (drop size (drop at ds)) =
            subst (IsCanonicalDivision One gs) (sym (drop-drop size at ds)) chosen in
            let more : IsCanonicalDivision One (group ∷ gs) (drop at ds) =
            subst (λ g. IsCanonicalDivision One (g ∷ gs) (drop at ds)) (sym group_is)
            (canonical_more (drop at ds) size is.0 is.1 gs rest) in
            subst (λ hs. IsCanonicalDivision One hs ds) (sym (append_assoc groups (group ∷ []) gs))
            (before.extend (group ∷ gs) more);
      }

  pub all_before : (at : ℕ) (groups : List (List ℤ)) → length ds ≤ at → AreGroupsBefore ds at groups
      → IsCanonicalDivision One groups ds
  all_before at groups end before = subst (λ gs. IsCanonicalDivision One gs ds) (append-nil groups)
      (before.extend [] (nothing_left at end))

  pub too_many : (words at : ℕ) (groups : List (List ℤ)) → at < length ds → words ≤ length groups
      → AreGroupsBefore ds at groups → CanDivide One words ds → ⊥
  too_many words at groups less full before can =
      let rest = build (length ds) at (omega arith) (omega arith) in
      let whole = before.extend rest.0 rest.1 in
      let few = whole.fewest can.groups can.are_groups can.join in
      let few' = can.few in
      let number = length-append groups rest.0 in
      let left = length-drop at ds in
      let enough = size_law One (length rest.0) (drop at ds)
      (record { groups = rest.0; are_groups = rest.1.are_groups; join = rest.1.join; few = omega arith }) in
      omega arith

-- ---- one size more

pub all_at : {X : Type 0} (P : X → Type 0) (xs : List X) (i : ℕ) (d : X) → i < length xs → AllByRecursion P xs
    → P (get_or xs i d)
all_at P [] i d less all = absurd (omega arith)
all_at P (x ∷ xs) zero d less all = all.0
all_at P (x ∷ xs) (suc i) d less all = all_at P xs i d (omega arith) all.1

-- a difference that is given stands before those after its place
pub given_at : (gives : ℕ → ℤ → Type 0) (count : ℕ) (ds : List ℤ) → AreGiven gives count ds → (at end : ℕ) (d : ℤ)
    → at + 1 ≡ end → end ≤ count → gives at d → d ∷ drop end ds ≡ drop at ds
given_at gives count ds given at end d one less here =
    let long = given.long in
    let there : at < length ds = omega arith in
    let next : suc at ≡ end = omega arith in
    ap (λ z. z ∷ drop end ds) (given.each at d (omega arith) here)
    ∙ sym (drop-cons ds at (pos 0) there ∙ ap (λ n. get_or ds at (pos 0) ∷ drop n ds) next)

pub sizes_more : (ds : List ℤ) (at end size : ℕ) (sizes : List ℕ) → at + 1 ≡ end → AreSizes ds end sizes
    → at < length ds → IsCanonicalFirst (drop at ds) size → AreSizes ds at (set sizes at size)
sizes_more ds at end size sizes one are less is = record { long = length-set sizes at size ∙ are.long; each = each }
  where
    each : (k : ℕ) → at ≤ k → k < length ds → IsCanonicalFirst (drop k ds) (get_or (set sizes at size) k 0)
    each k low below = elim (cases_lt at k) [
      | inl later ↦
          let ne : k ≢ at = omega arith in
          subst (IsCanonicalFirst (drop k ds)) (sym (rw get_or-set_other refl)) (are.each k (omega arith) below)
      | inr same' ↦
          let same : at ≡ k = omega arith in
          let long = are.long in
          let lt : at < length sizes = omega arith in
          let here : get_or (set sizes at size) at 0 ≡ size = rw get_or-set_same refl in
          subst (λ n. IsCanonicalFirst (drop n ds) (get_or (set sizes at size) n 0)) same
          (subst (IsCanonicalFirst (drop at ds)) (sym here) is)
    ]

-- ---- each difference of a division is one of 32 bits

-- what holds of each of two lists, side by side
pub all_joined : {X : Type 0} (P : X → Type 0) (xs ys : List X) → AllByRecursion P xs → AllByRecursion P ys
    → AllByRecursion P (xs ++ ys)
all_joined P [] ys front back = back
all_joined P (x ∷ xs) ys front back = (front.0, all_joined P xs ys front.1 back)

groups_fit : (gs : List (List ℤ)) → AreGroups One gs → AllByRecursion (FitsBits 32) (joined_groups gs)
groups_fit [] are = tt
groups_fit (g ∷ gs) are = all_joined (FitsBits 32) g (joined_groups gs) (group_fits One g (head_group One g gs are))
    (groups_fit gs (tail_groups One g gs are))

pub divided_fit : (words : ℕ) (ds : List ℤ) → CanDivide One words ds → AllByRecursion (FitsBits 32) ds
divided_fit words ds can = subst (AllByRecursion (FitsBits 32)) can.join (groups_fit can.groups can.are_groups)
