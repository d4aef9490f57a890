-- If all differences are narrow, each group of Steim-1 is one of Steim-2.
use Rattle.std.specs.Prelude.{◌≡◌, ◌↔◌, ◌⊎◌, ◌<◌, ◌-◌, ◌^◌, ℕ, suc, ◌≤◌, ℤ, List, [], ◌∷◌, ◌++◌, length, map, flat_map, All}
use Rattle.std.specs.List.{AllByRecursion}
use Rattle.std.proofs.Common.{arith, refl, sym, subst, inl, inr, length-append, lit≤}
use Rattle.std.proofs.lemmas.List.{map-append}
use Rattle.std.proofs.lemmas.List.Elements.{All-head, All-tail}
use Rattle.msr_base.specs.declared.storage.Version.TheVariants.{One, Two}
use Rattle.msr_steim.specs.Word.{AreGroups, FitsBits, IsGroup}
use Rattle.msr_words.specs.Division.{CanDivide}
use Rattle.msr_words.specs.Fit.{Fits}
use Rattle.msr_words.specs.Laws.{DominanceLaw, IsNarrow}
use Rattle.msr_base.specs.RecordLength.{words_of}
use Rattle.msr_base.specs.declared.kinds.Kind.TheVariants.{Steim1, Steim2}
use Rattle.msr_words.specs.Lemmas.SteimLaws.{all_more, group_drop, head_group, one_has_few, tail_groups}
use Rattle.msr_words.proofs.Parts.{HasDivision, cut, more_groups, no_groups, one_group}
use Rattle.msr_words.proofs.Steim2Groups.{IsSteim2Group, division_from, group_to}

all_narrow : (run : List (ℤ × ℤ)) → All (λ p. IsNarrow p.1) run → AllByRecursion IsNarrow (map (λ p. p.1) run)
all_narrow [] all = tt
all_narrow (p ∷ run) all = (
  All-head (λ (q : ℤ × ℤ). IsNarrow q.1) p run all,
  all_narrow run
      (All-tail (λ (q : ℤ × ℤ). IsNarrow q.1) p run all),
)

both_narrow : (xs ys : List ℤ) → AllByRecursion IsNarrow (xs ++ ys)
    → AllByRecursion IsNarrow xs × AllByRecursion IsNarrow ys
both_narrow [] ys all = (tt, all)
both_narrow (x ∷ xs) ys all = let rest = both_narrow xs ys all.1 in ((all.0, rest.0), rest.1)

narrow_group : (group : List ℤ) → AllByRecursion IsNarrow group → IsGroup One group → IsGroup Two group
narrow_group [] narrow is = absurd is
narrow_group (a ∷ []) narrow is = (narrow.0.1, tt)
narrow_group (a ∷ b ∷ []) narrow is = (narrow.0.0 is.0, (narrow.1.0.0 is.1.0, tt))
narrow_group (a ∷ b ∷ c ∷ []) narrow is = all_more 8 10 (a ∷ b ∷ c ∷ []) (lit≤ tt) is
narrow_group (a ∷ b ∷ c ∷ d ∷ []) narrow is = is
narrow_group (a ∷ b ∷ c ∷ d ∷ e ∷ more) narrow is = let few = one_has_few (a ∷ b ∷ c ∷ d ∷ e ∷ more) is in
    absurd (omega arith)

narrow_back : (groups : List (List ℤ)) (front back : List ℤ) → AllByRecursion IsNarrow back → AreGroups One groups
    → flat_map (λ group. group) groups ≡ front ++ back → HasDivision IsSteim2Group (length groups) back
narrow_back [] [] back narrow are join = subst (HasDivision IsSteim2Group 0) join (no_groups IsSteim2Group 0)
narrow_back [] (x ∷ front) back narrow are join = absurd cc
narrow_back (group ∷ groups) front back narrow are join =
    elim (cut front back group (flat_map (λ g. g) groups) (sym join)) [
      | inl c ↦ more_groups IsSteim2Group (length groups) (suc (length groups)) back (omega arith)
          (narrow_back groups c.0 back narrow (tail_groups One group groups are) c.2)
      | inr c ↦ behind c.0 c.1 c.2 (λ rest. narrow_back groups [] (flat_map (λ g. g) groups) rest
          (tail_groups One group groups are) refl)
    ]
  where
    behind : (m : List ℤ) → group ≡ front ++ m → back ≡ m ++ flat_map (λ g. g) groups →
        (AllByRecursion IsNarrow (flat_map (λ g. g) groups)
        → HasDivision IsSteim2Group (length groups) (flat_map
        (λ g. g) groups)) → HasDivision IsSteim2Group (suc (length groups)) back
    behind [] p q rest =
        subst (HasDivision IsSteim2Group (suc (length groups))) (sym q)
        (more_groups IsSteim2Group (length groups) (suc (length groups)) (flat_map (λ g. g) groups) (omega arith)
        (rest (subst (AllByRecursion IsNarrow) q narrow)))
    behind (y ∷ ys) p q rest =
        let parts = both_narrow (y ∷ ys) (flat_map (λ g. g) groups) (subst (AllByRecursion IsNarrow) q narrow) in
        let part : IsGroup One (y ∷ ys) = group_drop One front (y ∷ ys)
        (subst (IsGroup One) p (head_group One group groups are)) (omega arith) in
        subst (HasDivision IsSteim2Group (suc (length groups))) (sym q)
        (one_group IsSteim2Group (length groups) (y ∷ ys) (flat_map (λ g. g) groups)
        (group_to (y ∷ ys) (narrow_group (y ∷ ys) parts.0 part)) (rest parts.1))

-- Steim-2 reaches as far as Steim-1
pub steim2_dominates : (bytes : ℕ) → DominanceLaw (Fits Steim1 bytes) (Fits Steim2 bytes)
steim2_dominates bytes front back narrow fits =
    let can = subst (CanDivide One (words_of bytes)) (map-append (λ (p : ℤ × ℤ). p.1) front back) fits.1 in
    let few = can.few in (
      omega (arith, length-append front back, fits.0),
      division_from (words_of bytes) (map (λ p. p.1) back)
          (more_groups IsSteim2Group (length can.groups) (words_of bytes) (map (λ p. p.1) back) few
          (narrow_back can.groups (map (λ p. p.1) front) (map (λ p. p.1) back)
          (all_narrow back narrow) can.are_groups can.join)),
    )

-- ---- the size of a difference

module _ (d : ℤ) (size : ℕ) (size_is : (width : ℕ) → (FitsBits width d ↔ size < 2 ^ (width - 1))) where
  pub narrow_yes : (size < 16384) ⊎ (32768 ≤ size) → size < 536870912 → IsNarrow d
  narrow_yes apart small = (
    λ fits. (size_is 15).1 (elim apart [
      | inl less ↦ less
      | inr more ↦ absurd
          (let f = (size_is 16).0 fits in omega arith)
    ]),
    (size_is 30).1 small,
  )

  pub narrow_no : 16384 ≤ size → size < 32768 → IsNarrow d → ⊥
  narrow_no more less narrow = let f = (size_is 15).0 (narrow.0 ((size_is 16).1 less)) in omega arith

  pub narrow_small : IsNarrow d → size < 536870912
  narrow_small narrow = (size_is 30).0 narrow.1
