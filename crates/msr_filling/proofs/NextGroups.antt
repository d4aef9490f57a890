-- The first Steim-1 group of a division, and what is left after it.
use Rattle.std.proofs.Common.{◌≡◌, ◌≤◌, ℕ, ℤ, List, [], ◌∷◌, ◌++◌, length, take, drop, refl, sym, ap, ◌∙◌, subst, arith}
use Rattle.std.proofs.lemmas.List.{nil_from_length, take-append-drop, take_at, drop_at, length-take-le}
use Rattle.msr_base.specs.declared.storage.Version.{Version}
use Rattle.msr_base.specs.declared.storage.Version.TheVariants.{One}
use Rattle.msr_steim.specs.Area.{joined_groups}
use Rattle.msr_steim.specs.Word.{AreGroups}
use Rattle.msr_words.specs.Canonical.{IsCanonicalDivision}
use Rattle.msr_words.specs.FirstGroup.{IsFirstGroup}
use Rattle.msr_words.proofs.FirstGroups.{fewer, first_some}
use Rattle.msr_words.proofs.WrittenDivision.{no_groups, starts_with, tail_chosen, with_first}
use Rattle.msr_filling.specs.NextWord.{IsNextGroup}

pub next_first : (ds : List ℤ) (size after : ℕ) → IsFirstGroup ds size after → (gs : List (List ℤ))
    → IsCanonicalDivision One gs ds → IsNextGroup One gs ds size
next_first ds size after first [] chosen =
    let e : 0 ≡ length ds = ap length chosen.join in
    let s = first_some ds size after first in
    let w = first.within in absurd (omega arith)
next_first ds size after first (g ∷ gs) chosen =
    let d = starts_with One g gs ds chosen.are_groups chosen.join in
    let b = first.best (length g) (length gs) d.within d.group (fewer (length gs) (drop (length g) ds) d.can) in
    let left = first.left.can in
    let are : AreGroups One (take size ds ∷ left.groups) =
    with_first One size ds left.groups first.within first.group left.are_groups left.join in
    let joined : joined_groups (take size ds ∷ left.groups) ≡ ds = ap (λ x. take size ds ++ x) left.join
    ∙ take-append-drop size ds in
    let few = chosen.fewest (take size ds ∷ left.groups) are joined in
    let few' = left.few in
    let short : length g ≤ size = b.1 (omega arith) in
    let long : length (take size ds) ≤ length g =
    chosen.longest.0 (take size ds) left.groups are (joined ∙ sym chosen.join) (omega (arith, b.0)) in
    let size_is : length (take size ds) ≡ size = length-take-le size ds first.within in
    let same : length g ≡ size = omega arith in
    let front : g ≡ take size ds = sym (take_at g (joined_groups gs) size same) ∙ ap (take size) chosen.join in
    let back : joined_groups gs ≡ drop size ds = sym (drop_at g (joined_groups gs) size same)
    ∙ ap (drop size) chosen.join in
    let s = first_some ds size after first in
    record {
      group = front;
      rest = subst (IsCanonicalDivision One gs) back (tail_chosen One g gs ds chosen);
      none = λ e. absurd (omega arith);
      some = λ s. omega arith;
    }

-- if no difference is left
pub next_none : (version : Version) (gs : List (List ℤ)) (ds : List ℤ) → length ds ≡ 0
    → IsCanonicalDivision version gs ds → IsNextGroup version gs ds 0
next_none version gs ds end chosen =
    let no : gs ≡ [] = no_groups version gs chosen.are_groups (ap length chosen.join ∙ end) in
    let nil : ds ≡ [] = nil_from_length ds end in
    let empty : IsCanonicalDivision version [] [] = subst (λ hs. IsCanonicalDivision version hs []) no
    (subst (IsCanonicalDivision version gs) nil chosen) in
    subst (λ hs. IsNextGroup version hs ds 0) (sym no) (subst (λ xs. IsNextGroup version [] xs 0) (sym nil)
    (record { group = refl; rest = empty; none = λ e. refl; some = λ s. absurd (omega arith) }))
