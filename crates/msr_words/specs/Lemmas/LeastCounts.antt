-- How many differences a group has.
use Rattle.std.proofs.Common.{◌≡◌, ◌<◌, ◌≤◌, ℕ, ℤ, Bool, true, false, List, length, refl, ap, ◌∙◌, subst, arith, ⊎_elim, eqb, None}
use Rattle.std.specs.Prelude.{IsSomeAnd}
use Rattle.std.specs.List.{AllByRecursion}
use Rattle.std.proofs.lemmas.Bool.Decides.{nat_tests}
use Rattle.std.proofs.lemmas.Bool.{cases_lt}
use Rattle.msr_base.specs.declared.storage.Version.{Version}
use Rattle.msr_base.specs.declared.storage.Version.TheVariants.{One, Two}
use Rattle.msr_steim.specs.Word.{FitsBits, IsGroup, IsGroupAt, group_width}

pub too_many : (version : Version) (n : ℕ) → 7 < n → group_width version n ≡ None
too_many One n many =
    let a : eqb n 1 ≡ false = grind (arith, nat_tests) in
    let b : eqb n 2 ≡ false = grind (arith, nat_tests) in
    let c : eqb n 3 ≡ false = grind (arith, nat_tests) in
    let d : eqb n 4 ≡ false = grind (arith, nat_tests) in
    simp (a, b, c, d)
too_many Two n many =
    let a : eqb n 1 ≡ false = grind (arith, nat_tests) in
    let b : eqb n 2 ≡ false = grind (arith, nat_tests) in
    let c : eqb n 3 ≡ false = grind (arith, nat_tests) in
    let d : eqb n 4 ≡ false = grind (arith, nat_tests) in
    let e : eqb n 5 ≡ false = grind (arith, nat_tests) in
    let f : eqb n 6 ≡ false = grind (arith, nat_tests) in
    let g : eqb n 7 ≡ false = grind (arith, nat_tests) in
    simp (a, b, c, d, e, f, g)

no_width : (version : Version) → group_width version 0 ≡ None
no_width One = refl
no_width Two = refl

group_has_few : (version : Version) (group : List ℤ) → IsGroup version group → (0 < length group) × (length group ≤ 7)
group_has_few version group is = (
  ⊎_elim (λ (h : 0 < length group). h) (λ (h : length group ≤ 0). absurd (empty h))
      (cases_lt 0 (length group)),
  ⊎_elim (λ (h : 7 < length group). absurd (long h)) (λ (h : length group ≤ 7). h)
      (cases_lt 7 (length group)),
)
  where
    empty : length group ≤ 0 → ⊥
    empty h = let e : length group ≡ 0 = omega arith in
        subst (λ w. IsSomeAnd w (λ width. AllByRecursion (FitsBits width) group))
        (ap (group_width version) e ∙ no_width version) is

    long : 7 < length group → ⊥
    long h = subst (λ w. IsSomeAnd w (λ width. AllByRecursion (FitsBits width) group))
        (too_many version (length group) h) is

pub a_group_has_few : (version : Version) (last : Bool) (group : List ℤ) → IsGroupAt version last group
    → (0 < length group) × (length group ≤ 7)
a_group_has_few version true group is = group_has_few version group is
a_group_has_few One false group is = group_has_few One group is.0
a_group_has_few Two false group is = group_has_few Two group is
