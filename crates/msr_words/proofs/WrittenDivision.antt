-- Lemmas on the division that is written.
use Rattle.std.proofs.Common.{◌≡◌, ◌<◌, ◌≤◌, ℕ, suc, ◌+◌, ◌-◌, ℤ, Bool, true, false, eqb, List, [], ◌∷◌, ◌++◌, length, map, take, drop, refl, sym, ap, ◌∙◌, subst, arith, length-append, length-drop, lit≤, Option, Some, None, cond}
use Rattle.std.specs.Prelude.{IsSomeAnd, IfSome, ◌==◌}
use Rattle.std.specs.List.{AllByRecursion}
use Rattle.std.proofs.lemmas.Bool.Decides.{nat_tests}
use Rattle.std.proofs.lemmas.List.{take-append-drop, take_all, take_at, drop_at, map-append}
use Rattle.arrayvec.specs.ArrayVec.{ArrayVec}
use Rattle.msr_base.specs.declared.storage.Version.{Version}
use Rattle.msr_base.specs.declared.storage.Version.TheVariants.{One, Two}
use Rattle.msr_steim.specs.Area.{joined_groups}
use Rattle.msr_steim.specs.Word.{AreGroups, FitsBits, IsGroup, IsGroupAt, IsInnerGroup, group_width}
use Rattle.msr_words.specs.Division.{CanDivide}
use Rattle.msr_words.specs.Canonical.{IsCanonicalDivision}
use Rattle.msr_words.specs.Lemmas.LeastCounts.{a_group_has_few}
use Rattle.msr_steim.proofs.Filling.{inner_is_group}
use Rattle.msr_words.specs.Lemmas.SteimLaws.{all_more, head_group, tail_groups}

-- ---- the first group

-- the differences can be divided into at most n groups, the first of this size
pub record DividesFrom (version : Version) (n size : ℕ) (ds : List ℤ) : Type 0 where
  pub within : size ≤ length ds
  pub some : 0 < n
  pub group : IsGroupAt version (size == length ds) (take size ds)
  pub can : CanDivide version (n - 1) (drop size ds)

-- nothing is divided into nothing
pub no_groups : (version : Version) (gs : List (List ℤ)) → AreGroups version gs → length (joined_groups gs) ≡ 0 → gs ≡ []
no_groups version [] are none = refl
no_groups version (g ∷ gs) are none =
    let some = (a_group_has_few version true g (head_group version g gs are)).0 in
    let size : length (joined_groups (g ∷ gs)) ≡ length g + length (joined_groups gs) =
    length-append g (joined_groups gs) in
    absurd (omega arith)

pub inner_first : (version : Version) (g : List ℤ) (gs : List (List ℤ)) → IsInnerGroup version g
    → AreGroups version gs → AreGroups version (g ∷ gs)
inner_first version g [] is are = inner_is_group version g is
inner_first version g (h ∷ gs) is are = (is, are)

-- a first group of this size, and groups of the rest
pub with_first : (version : Version) (size : ℕ) (ds : List ℤ) (gs : List (List ℤ)) → size ≤ length ds
    → IsGroupAt version (eqb size (length ds)) (take size ds) → AreGroups version gs → joined_groups gs ≡ drop size ds
    → AreGroups version (take size ds ∷ gs)
with_first version size ds gs within is are join = go (eqb size (length ds)) refl is
  where
    go : (b : Bool) → eqb size (length ds) ≡ b → IsGroupAt version b (take size ds)
        → AreGroups version (take size ds ∷ gs)
    go true e is =
        let all : size ≡ length ds = grind (arith, nat_tests) in
        let none : length (joined_groups gs) ≡ 0 = ap length join ∙ length-drop size ds ∙ omega arith in
        subst (λ hs. AreGroups version (take size ds ∷ hs)) (sym (no_groups version gs are none)) is
    go false e is = inner_first version (take size ds) gs is are

pub divides_can : (version : Version) (n size : ℕ) (ds : List ℤ) → DividesFrom version n size ds
    → CanDivide version n ds
divides_can version n size ds d = record {
  groups = take size ds ∷ d.can.groups;
  are_groups = with_first version size ds d.can.groups d.within d.group d.can.are_groups d.can.join;
  join = ap (λ x. take size ds ++ x) d.can.join ∙ take-append-drop size ds;
  few = omega (arith, d.can.few, d.some);
}

-- a division by its first group
pub starts_with : (version : Version) (g : List ℤ) (gs : List (List ℤ)) (ds : List ℤ) → AreGroups version (g ∷ gs)
    → joined_groups (g ∷ gs) ≡ ds → DividesFrom version (suc (length gs)) (length g) ds
starts_with version g gs ds are join =
    let size : length ds ≡ length g + length (joined_groups gs) = ap length (sym join)
    ∙ length-append g (joined_groups gs) in
    let front : take (length g) ds ≡ g = ap (take (length g)) (sym join) ∙ take_at g (joined_groups gs) (length g) refl in
    let back : drop (length g) ds ≡ joined_groups gs = ap (drop (length g)) (sym join)
    ∙ drop_at g (joined_groups gs) (length g) refl in
    let one : suc (length gs) - 1 ≡ length gs = omega arith in
    record {
      within = omega arith;
      some = omega arith;
      group = subst (IsGroupAt version (eqb (length g) (length ds))) (sym front) (at_place gs are size);
      can = record { groups = gs; are_groups = tail_groups version g gs are; join = sym back; few = omega arith };
    }
  where
    at_place : (hs : List (List ℤ)) → AreGroups version (g ∷ hs) → length ds ≡ length g + length (joined_groups hs)
        → IsGroupAt version (eqb (length g) (length ds)) g
    at_place [] are size =
        let e : eqb (length g) (length ds) ≡ true = let same : length g ≡ length ds = omega arith in
        grind (arith, nat_tests) in
        subst (λ b. IsGroupAt version b g) (sym e) are
    at_place (h ∷ hs) are size =
        let some = (a_group_has_few version true h (head_group version h hs are.1)).0 in
        let more : length (joined_groups (h ∷ hs)) ≡ length h + length (joined_groups hs) =
        length-append h (joined_groups hs) in
        let less : length g < length ds = omega arith in
        let e : eqb (length g) (length ds) ≡ false = grind (arith, nat_tests) in
        subst (λ b. IsGroupAt version b g) (sym e) are.0

pub at_place_is : (version : Version) (b : Bool) (g : List ℤ) → IsGroupAt version b g → IsGroup version g
at_place_is version true g is = is
at_place_is version false g is = inner_is_group version g is

-- ---- groups in vectors

pub rest_is : (place : ℕ) (ds : List ℤ) → take (length ds - place) (drop place ds) ≡ drop place ds
rest_is place ds = let e : length (drop place ds) ≡ length ds - place = length-drop place ds in
    take_all (length ds - place) (drop place ds) (omega arith)

pub items_push : (old : List (ArrayVec ℤ)) (g : ArrayVec ℤ)
    → map (λ (v : ArrayVec ℤ). v.items) (old ++ g ∷ []) ≡ map (λ (v : ArrayVec ℤ). v.items) old ++ g.items ∷ []
items_push old g = map-append (λ (v : ArrayVec ℤ). v.items) old (g ∷ [])

-- ---- one division

-- what is chosen after a group is chosen
pub tail_chosen : (version : Version) (g : List ℤ) (gs : List (List ℤ)) (ds : List ℤ)
    → IsCanonicalDivision version (g ∷ gs) ds → IsCanonicalDivision version gs (joined_groups gs)
tail_chosen version g [] ds c = record {
  are_groups = tt;
  join = refl;
  fewest = λ others are join. omega arith;
  longest = tt;
}
tail_chosen version g (h ∷ gs) ds c = record {
  are_groups = c.are_groups.1;
  join = refl;
  fewest = λ others are join. let few = c.fewest (g ∷ others) (inner_first version g others c.are_groups.0 are)
      (ap (λ x. g ++ x) join ∙ c.join) in omega arith;
  longest = c.longest.1;
}

-- one division is chosen
pub one_chosen : (version : Version) (gs hs : List (List ℤ)) (ds : List ℤ) → IsCanonicalDivision version gs ds
    → IsCanonicalDivision version hs ds → gs ≡ hs
one_chosen version [] [] ds a b = refl
one_chosen version [] (h ∷ hs) ds a b = sym (no_groups version (h ∷ hs) b.are_groups (ap length (b.join ∙ sym a.join)))
one_chosen version (g ∷ gs) [] ds a b = no_groups version (g ∷ gs) a.are_groups (ap length (a.join ∙ sym b.join))
one_chosen version (g ∷ gs) (h ∷ hs) ds a b =
    let few = a.fewest (h ∷ hs) b.are_groups b.join in
    let more = b.fewest (g ∷ gs) a.are_groups a.join in
    let joined : g ++ joined_groups gs ≡ h ++ joined_groups hs = a.join ∙ sym b.join in
    let short : length h ≤ length g = a.longest.0 h hs b.are_groups (sym joined) (omega arith) in
    let long : length g ≤ length h = b.longest.0 g gs a.are_groups joined (omega arith) in
    let same : length h ≡ length g = omega arith in
    let first : g ≡ h = sym (take_at g (joined_groups gs) (length g) refl) ∙ ap (take (length g)) joined
    ∙ take_at h (joined_groups hs) (length g) same in
    let rest : joined_groups gs ≡ joined_groups hs = sym (drop_at g (joined_groups gs) (length g) refl)
    ∙ ap (drop (length g)) joined ∙ drop_at h (joined_groups hs) (length g) same in
    let tails : gs ≡ hs = one_chosen version gs hs (joined_groups gs) (tail_chosen version g gs ds a)
    (subst (IsCanonicalDivision version hs) (sym rest) (tail_chosen version h hs ds b)) in
    ap (λ x. x ∷ gs) first ∙ ap (λ xs. h ∷ xs) tails

-- ---- differences of a group fit 32 bits

one_width : (a b c d : Bool) → IfSome (cond a (Some 32)
    (cond b (Some 16) (cond c (Some 8) (cond d (Some 8) None)))) (λ w. w ≤ 32)
one_width true b c d = lit≤ tt
one_width false true c d = lit≤ tt
one_width false false true d = lit≤ tt
one_width false false false true = lit≤ tt
one_width false false false false = tt

two_width : (a b c d e f g : Bool) → IfSome (cond a (Some 30)
    (cond b (Some 15) (cond c (Some 10) (cond d (Some 8)
    (cond e (Some 6) (cond f (Some 5) (cond g (Some 4) None))))))) (λ w. w ≤ 32)
two_width true b c d e f g = lit≤ tt
two_width false true c d e f g = lit≤ tt
two_width false false true d e f g = lit≤ tt
two_width false false false true e f g = lit≤ tt
two_width false false false false true f g = lit≤ tt
two_width false false false false false true g = lit≤ tt
two_width false false false false false false true = lit≤ tt
two_width false false false false false false false = tt

width_few : (version : Version) (n : ℕ) → IfSome (group_width version n) (λ w. w ≤ 32)
width_few One n = one_width (eqb n 1) (eqb n 2) (eqb n 3) (eqb n 4)
width_few Two n = two_width (eqb n 1) (eqb n 2) (eqb n 3) (eqb n 4) (eqb n 5) (eqb n 6) (eqb n 7)

widened : (o : Option ℕ) (zs : List ℤ) → IfSome o (λ w. w ≤ 32)
    → IsSomeAnd o (λ width. AllByRecursion (FitsBits width) zs) → AllByRecursion (FitsBits 32) zs
widened None zs few is = absurd is
widened (Some w) zs few is = all_more w 32 zs few is

pub group_fits : (version : Version) (zs : List ℤ) → IsGroup version zs → AllByRecursion (FitsBits 32) zs
group_fits version zs is = widened (group_width version (length zs)) zs (width_few version (length zs)) is
