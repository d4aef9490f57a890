-- A run from its end, and in order.
use Rattle.std.proofs.Common.{◌≡◌, ◌<◌, ◌≤◌, ℕ, zero, suc, ◌+◌, ℤ, Bool, true, List, [], ◌∷◌, ◌++◌, length, refl, sym, ap, ◌∙◌, subst, arith, append_assoc, length-append, Option, Some, None}
use Rattle.std.specs.Prelude.{IsSomeAnd, reverse, flat_map}
use Rattle.std.specs.List.{AllByRecursion}
use Rattle.std.proofs.lemmas.List.{append-nil, length-reverse, reverse-append, reverse-reverse}
use Rattle.msr_base.specs.declared.storage.Version.{Version}
use Rattle.msr_base.specs.declared.storage.Version.TheVariants.{One, Two}
use Rattle.msr_steim.specs.Word.{AreGroups, FitsBits, IsGroup, IsInnerGroup, group_width}
use Rattle.msr_steim.proofs.Fields.{all_fit_push}
use Rattle.msr_words.specs.Division.{CanDivide}
use Rattle.msr_words.specs.Counts.{EndsIn, Parts}

-- ---- turned round

all_reverse : {X : Type 0} (P : X → Type 0) (xs : List X) → AllByRecursion P xs → AllByRecursion P (reverse xs)
all_reverse P [] all = tt
all_reverse P (x ∷ xs) all = subst (AllByRecursion P) (sym (reverse-append (x ∷ []) xs))
    (all_fit_push P (reverse xs) x (all_reverse P xs all.1) all.0)

some_and : {X : Type 0} (o : Option X) (P Q : X → Type 0) → ((x : X) → P x → Q x) → IsSomeAnd o P → IsSomeAnd o Q
some_and None P Q f h = h
some_and (Some x) P Q f h = f x h

pub turned_group : (version : Version) (group : List ℤ) → IsGroup version group → IsGroup version (reverse group)
turned_group version group is =
    subst (λ n. IsSomeAnd (group_width version n) (λ width. AllByRecursion (FitsBits width) (reverse group)))
    (sym (length-reverse group))
    (some_and (group_width version (length group)) (λ width. AllByRecursion (FitsBits width) group)
    (λ width. AllByRecursion (FitsBits width) (reverse group)) (λ width h. all_reverse (FitsBits width) group h) is)

pub turned_inner : (version : Version) (group : List ℤ) → IsInnerGroup version group
    → IsInnerGroup version (reverse group)
turned_inner One group is = (turned_group One group is.0, λ three. is.1 (sym (length-reverse group) ∙ three))
turned_inner Two group is = turned_group Two group is

-- ---- a group more at the old end

parts_older : (version : Version) (n : ℕ) (past group : List ℤ) → Parts version n past → IsInnerGroup version group
    → Parts version (suc n) (past ++ group)
parts_older version zero past group parts is =
    (group, [], is, refl, ap (λ p. p ++ group) parts ∙ sym (append-nil group))
parts_older version (suc n) past group parts is = (
  parts.0,
  parts.1 ++ group,
  parts.2,
  parts_older version n parts.1 group parts.3 is,
  ap
      (λ p. p ++ group) parts.4 ∙ append_assoc parts.0 parts.1 group,
)

ends_older : (version : Version) (last : Bool) (n : ℕ) (past group : List ℤ) → EndsIn version last n past
    → IsInnerGroup version group → EndsIn version last (suc n) (past ++ group)
ends_older version last n past group e is = record {
  group = e.group;
  rest = e.rest ++ group;
  number = suc e.number;
  few = omega (arith, e.few);
  newest = e.newest;
  parts = parts_older version e.number e.rest group e.parts is;
  join = ap (λ p. p ++ group) e.join ∙ append_assoc e.group e.rest group;
}

ends_of_groups : (version : Version) (groups : List (List ℤ)) (n : ℕ) → AreGroups version groups
    → 0 < length groups → length groups ≤ n → EndsIn version true n (reverse (flat_map (λ group. group) groups))
ends_of_groups version [] n are some few = absurd (omega arith)
ends_of_groups version (g ∷ []) n are some few = record {
  group = reverse g;
  rest = [];
  number = 0;
  few = few;
  newest = turned_group version g are;
  parts = refl;
  join = ap reverse (append-nil g) ∙ sym (append-nil (reverse g));
}
ends_of_groups version (g ∷ h ∷ gs) zero are some few = absurd (omega arith)
ends_of_groups version (g ∷ h ∷ gs) (suc n) are some few =
    subst (EndsIn version true (suc n)) (sym (reverse-append g (flat_map (λ group. group) (h ∷ gs))))
    (ends_older version true n (reverse (flat_map (λ group. group) (h ∷ gs))) (reverse g)
    (ends_of_groups version (h ∷ gs) n are.1 (omega arith) (omega arith)) (turned_inner version g are.0))

-- ---- the groups in order

pub record Gathered (version : Version) (number : ℕ) (differences : List ℤ) : Type 0 where
  pub groups : List (List ℤ)
  pub are : AreGroups version groups
  pub join : flat_map (λ group. group) groups ≡ differences
  pub number_is : length groups ≡ number

gather : (version : Version) (n : ℕ) (past next : List ℤ) (tail : List (List ℤ)) → Parts version n past
    → AreGroups version (next ∷ tail)
    → Gathered version (n + length (next ∷ tail)) (reverse past ++ flat_map (λ group. group) (next ∷ tail))
gather version zero past next tail parts are = record {
  groups = next ∷ tail;
  are = are;
  join = ap (λ p. reverse p ++ flat_map (λ group. group) (next ∷ tail)) (sym parts);
  number_is = omega arith;
}
gather version (suc n) past next tail parts are =
    let g = gather version n parts.1 (reverse parts.0) (next ∷ tail) parts.3
    (turned_inner version parts.0 parts.2, are) in
    record {
      groups = g.groups;
      are = g.are;
      join = g.join ∙ sym (append_assoc (reverse parts.1) (reverse parts.0)
          (flat_map (λ group. group) (next ∷ tail))) ∙ ap (λ p. p
          ++ flat_map (λ group. group) (next ∷ tail)) (sym (reverse-append parts.0 parts.1) ∙ ap reverse (sym parts.4));
      number_is = g.number_is ∙ omega arith;
    }

-- a run ends in a last group exactly when it can be divided
pub ends_is_division : (version : Version) (words : ℕ) (d : ℤ) (ds : List ℤ)
    → (EndsIn version true words (reverse (ds ++ d ∷ [])) → CanDivide version words (ds ++ d ∷ []))
    × (CanDivide version words (ds ++ d ∷ []) → EndsIn version true words (reverse (ds ++ d ∷ [])))
ends_is_division version words d ds = (divide, ends)
  where
    divide : EndsIn version true words (reverse (ds ++ d ∷ [])) → CanDivide version words (ds ++ d ∷ [])
    divide e =
        let g = gather version e.number e.rest (reverse e.group) [] e.parts (turned_group version e.group e.newest) in
        record {
          groups = g.groups;
          are_groups = g.are;
          join = g.join ∙ ap (λ p. reverse e.rest ++ p) (append-nil (reverse e.group))
              ∙ sym (reverse-append e.group e.rest) ∙ ap reverse (sym e.join) ∙ reverse-reverse (ds ++ d ∷ []);
          few = omega (arith, g.number_is, e.few);
        }

    some : (groups : List (List ℤ)) → flat_map (λ group. group) groups ≡ ds ++ d ∷ [] → 0 < length groups
    some [] join = let size : 0 ≡ length ds + 1 = ap length join ∙ length-append ds (d ∷ []) in absurd (omega arith)
    some (g ∷ gs) join = omega arith

    ends : CanDivide version words (ds ++ d ∷ []) → EndsIn version true words (reverse (ds ++ d ∷ []))
    ends c = subst (λ p. EndsIn version true words (reverse p)) c.join
        (ends_of_groups version c.groups words c.are_groups (some c.groups c.join) c.few)
