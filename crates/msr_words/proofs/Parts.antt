-- Laws of divisions into groups of which each part is a group again.
use Rattle.std.specs.Prelude.{◌≡◌, ℕ, suc, ◌≤◌, ◌<◌, ◌⊎◌, ℤ, List, [], ◌∷◌, ◌++◌, length, flat_map, All}
use Rattle.std.proofs.Common.{arith, refl, sym, ap, subst, inl, inr, append_assoc, length-append}
use Rattle.std.proofs.lemmas.List.Elements.{All-nil, All-cons, All-head, All-tail}

-- a list of groups, no more than `most`, that join to the differences
pub record IsDivision (is_group : List ℤ → Type 0) (most : ℕ) (ds : List ℤ) (groups : List (List ℤ)) : Type 0 where
  pub all_groups : All is_group groups
  pub joined : flat_map (λ group. group) groups ≡ ds
  pub few : length groups ≤ most

abbrev pub HasDivision : (List ℤ → Type 0) → ℕ → List ℤ → Type 0
HasDivision is_group most ds = (groups : List (List ℤ)) × IsDivision is_group most ds groups

-- if a list is cut in two ways, one cut is at or before the other
abbrev pub Cut : List ℤ → List ℤ → List ℤ → List ℤ → Type 0
Cut xs ys us vs =
    ((m : List ℤ) × (xs ≡ us ++ m) × (vs ≡ m ++ ys)) ⊎ ((m : List ℤ) × (us ≡ xs ++ m) × (ys ≡ m ++ vs))

pub cut : (xs ys us vs : List ℤ) → xs ++ ys ≡ us ++ vs → Cut xs ys us vs
cut [] ys us vs e = inr (us, refl, e)
cut (x ∷ xs) ys [] vs e = inl (x ∷ xs, refl, sym e)
cut (x ∷ xs) ys (u ∷ us) vs e =
    let head : x ≡ u = cc in
    let tail : xs ++ ys ≡ us ++ vs = cc in
    elim (cut xs ys us vs tail) [
      | inl c ↦ inl (c.0, (let p = c.1 in cc), c.2)
      | inr c ↦ inr (c.0, (let p = c.1 in cc), c.2)
    ]

-- each part of a group, from its start or from its end, is a group
pub record HasParts (is_group : List ℤ → Type 0) : Type 0 where
  pub front : (xs ys : List ℤ) → 0 < length xs → is_group (xs ++ ys) → is_group xs
  pub back : (xs ys : List ℤ) → 0 < length ys → is_group (xs ++ ys) → is_group ys
  pub some : is_group [] → ⊥

module _ (is_group : List ℤ → Type 0) where
  pub no_groups : (most : ℕ) → HasDivision is_group most []
  no_groups most = ([], record { all_groups = All-nil is_group; joined = refl; few = omega arith })

  pub one_group : (most : ℕ) (group ds : List ℤ) → is_group group → HasDivision is_group most ds
      → HasDivision is_group (suc most) (group ++ ds)
  one_group most group ds g (groups, d) = (
    group ∷ groups,
    record {
      all_groups = All-cons is_group group groups g d.all_groups;
      joined = ap (λ r. group ++ r) d.joined;
      few = (let f = d.few in omega arith);
    },
  )

  pub more_groups : (few most : ℕ) (ds : List ℤ) → few ≤ most → HasDivision is_group few ds
      → HasDivision is_group most ds
  more_groups few most ds le (groups, d) = (
    groups,
    record
        { all_groups = d.all_groups; joined = d.joined; few = (let f = d.few in omega arith) },
  )

  whole : (groups : List (List ℤ)) → All is_group groups
      → HasDivision is_group (length groups) (flat_map (λ group. group) groups)
  whole groups all = (groups, record { all_groups = all; joined = refl; few = omega arith })

  module _ (parts : HasParts is_group) where
    back_from : (groups : List (List ℤ)) (front back : List ℤ) → All is_group groups
        → flat_map (λ group. group) groups ≡ front ++ back →
        HasDivision is_group (length groups) back
    back_from [] [] back all e = subst (HasDivision is_group 0) e (no_groups 0)
    back_from [] (x ∷ xs) back all e = absurd cc
    back_from (group ∷ groups) front back all e =
        elim (cut front back group (flat_map (λ group. group) groups) (sym e)) [
          | inl c ↦ more_groups (length groups) (suc (length groups)) back (omega arith)
              (back_from groups c.0 back (All-tail is_group group groups all) c.2)
          | inr c ↦ behind c.0 c.1 c.2
        ]
      where
        behind : (m : List ℤ) → group ≡ front ++ m → back ≡ m ++ flat_map (λ group. group) groups
            → HasDivision is_group (suc (length groups)) back
        behind [] p q = more_groups (length groups) (suc (length groups)) back (omega arith)
            (subst (HasDivision is_group (length groups)) (sym q) (whole groups (All-tail is_group group groups all)))
        behind (y ∷ ys) p q =
            subst (HasDivision is_group (suc (length groups))) (sym q)
            (one_group (length groups) (y ∷ ys) (flat_map (λ group. group) groups)
            (parts.back front (y ∷ ys) (omega arith) (subst is_group p (All-head is_group group groups all)))
            (whole groups (All-tail is_group group groups all)))

    pub division_back : (most : ℕ) (front back : List ℤ) → HasDivision is_group most (front ++ back)
        → HasDivision is_group most back
    division_back most front back (groups, d) = more_groups (length groups) most back d.few
        (back_from groups front back d.all_groups d.joined)

    -- a group that the next difference ends may stand first
    rest_from : (groups : List (List ℤ)) (most : ℕ) (group ds : List ℤ) → is_group group
        → ((y : ℤ) (ys : List ℤ) → ds ≡ y ∷ ys → is_group (group ++ y ∷ []) → ⊥) →
        All is_group groups → flat_map (λ g. g) groups ≡ group ++ ds → length groups ≤ suc most
        → HasDivision is_group most ds
    rest_from [] most [] ds g longest all e few = absurd (parts.some g)
    rest_from [] most (x ∷ xs) ds g longest all e few = absurd cc
    rest_from (first ∷ groups) most group ds g longest all e few =
        elim (cut group ds first (flat_map (λ g. g) groups) (sym e)) [
          | inl c ↦ more_groups (length groups) most ds (omega arith)
              (back_from groups c.0 ds (All-tail is_group first groups all) c.2)
          | inr c ↦ beyond c.0 c.1 c.2
        ]
      where
        beyond : (m : List ℤ) → first ≡ group ++ m → ds ≡ m ++ flat_map (λ g. g) groups → HasDivision is_group most ds
        beyond [] p q = more_groups (length groups) most ds (omega arith)
            (subst (HasDivision is_group (length groups)) (sym q) (whole groups (All-tail is_group first groups all)))
        beyond (y ∷ ys) p q =
            let long : is_group ((group ++ y ∷ []) ++ ys) =
            rw append_assoc (subst is_group p (All-head is_group first groups all)) in
            absurd (longest y (ys ++ flat_map (λ g. g) groups) q
            (parts.front (group ++ y ∷ []) ys (simp length-append (omega arith)) long))

    pub division_rest : (most : ℕ) (group ds : List ℤ) → is_group group
        → ((y : ℤ) (ys : List ℤ) → ds ≡ y ∷ ys → is_group (group ++ y ∷ []) → ⊥) →
        HasDivision is_group (suc most) (group ++ ds) → HasDivision is_group most ds
    division_rest most group ds g longest (groups, d) =
        rest_from groups most group ds g longest d.all_groups d.joined d.few

    -- the first difference stands in some group
    pub first_fits : (most : ℕ) (d : ℤ) (ds : List ℤ) → HasDivision is_group most (d ∷ ds) → is_group (d ∷ [])
    first_fits most d ds ([], div) = absurd (let e = div.joined in cc)
    first_fits most d ds ([] ∷ groups, div) = absurd (parts.some (All-head is_group [] groups div.all_groups))
    first_fits most d ds ((x ∷ xs) ∷ groups, div) =
        let same : x ≡ d = (let e = div.joined in cc) in
        subst (λ y. is_group (y ∷ [])) same (parts.front (x ∷ []) xs (omega arith)
        (All-head is_group (x ∷ xs) groups div.all_groups))

    pub none_left : (d : ℤ) (ds : List ℤ) → HasDivision is_group 0 (d ∷ ds) → ⊥
    none_left d ds ([], div) = let e = div.joined in cc
    none_left d ds (group ∷ groups, div) = let f = div.few in absurd (omega arith)
