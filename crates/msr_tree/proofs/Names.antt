-- The names in a folder.
use Rattle.std.proofs.Common.{◌≡◌, ◌⊎◌, inl, inr, ⊎_elim, ◌↔◌, ◌||◌, ◌∷◌, ◌++◌, Bool, true, false, cond, List, [], Option, Some, None, is_some, length, refl, sym, ◌∙◌, ap, subst, arith}
use Rattle.std.proofs.lemmas.Bool.{cases_Bool}
use Rattle.std.proofs.lemmas.Cmp.{nat_list_eq_equiv}
use Rattle.std.proofs.lemmas.List.Elements.{Contains-append_left, Contains-push, Contains-push_cases}
use Rattle.std.proofs.lemmas.List.Kept.{Contains-dedup, Contains-from_dedup}
use Rattle.std.proofs.lemmas.List.Sorted.{Contains-permutation, IsPermutation-map, IsPermutation-sym}
use Rattle.std.proofs.lemmas.Slice.Eq.{bytes_eq-Decides}
use Rattle.std.specs.Cmp.Lexicographic.{slice_cmp}
use Rattle.std.specs.declared.cmp.Ordering.TheVariants.{Less}
use Rattle.std.specs.List.{AllByRecursion, Contains, dedup, dedup_from}
use Rattle.std.specs.List.Sorted.{IsPermutation, IsStrictlySortedBy}
use Rattle.std.specs.Ordering.{nat_cmp}
use Rattle.std.specs.Prelude.{String, bytes_eq, string_bytes}
use Rattle.std.specs.String.{string_cmp, string_eq}
use Rattle.msr_tree.specs.Listing.{IsListing, IsEntryName, has_folder, is_there, listed, path_in}
use Rattle.msr_tree.specs.Memory.{IsEntryOf, made_at}
use Rattle.msr_tree.specs.Steps.{Failed, File, FileStored, FolderMade, FolderStored, Linked, Made, Path, Removed, Renamed, Step, Unlisted, now}

-- strings in order, by their bytes
all_bytes : {Z : Type 0} (x : String Z) (xs : List (String Z)) → AllByRecursion (λ y. string_cmp x y ≡ Less) xs → AllByRecursion (λ y. slice_cmp nat_cmp (string_bytes x) y ≡ Less) (listed xs)
all_bytes x [] all = tt
all_bytes x (y ∷ xs) all = (all.0, all_bytes x xs all.1)

pub ascend_bytes : {Z : Type 0} (xs : List (String Z)) → IsStrictlySortedBy string_cmp xs → IsStrictlySortedBy (slice_cmp nat_cmp) (listed xs)
unfolding IsStrictlySortedBy
ascend_bytes [] up = tt
ascend_bytes (x ∷ xs) up = (all_bytes x xs up.0, ascend_bytes xs up.1)

either_names : {Z : Type 0} (test : Bool) (a b : List (String Z)) (c d : List Path) → listed a ≡ c → listed b ≡ d → listed (cond test a b) ≡ cond test c d
either_names true a b c d one other = one
either_names false a b c d one other = other

dedup_from_bytes : {Z : Type 0} (k : String Z) (xs : List (String Z)) → listed (dedup_from string_eq k xs) ≡ dedup_from bytes_eq (string_bytes k) (listed xs)
dedup_from_bytes k [] = refl
dedup_from_bytes k (x ∷ xs) = either_names (string_eq x k) _ _ _ _ (dedup_from_bytes k xs) (ap (λ l. string_bytes k ∷ l) (dedup_from_bytes x xs))

pub dedup_bytes : {Z : Type 0} (xs : List (String Z)) → listed (dedup string_eq xs) ≡ dedup bytes_eq (listed xs)
dedup_bytes [] = refl
dedup_bytes (x ∷ xs) = dedup_from_bytes x xs

-- names in order have the same names
pub same_names : {Z : Type 0} (old sorted new : List (String Z)) → IsPermutation old sorted → new ≡ dedup string_eq sorted
    → (name : Path) → Contains (listed new) name ↔ Contains (listed old) name
same_names old sorted new moves is name =
    let moved = IsPermutation-map (λ x. string_bytes x) old sorted moves in
    let names : listed new ≡ dedup bytes_eq (listed sorted) = ap listed is ∙ dedup_bytes sorted in (
      λ has. Contains-permutation (listed sorted) (listed old) name (IsPermutation-sym (listed old) (listed sorted) moved)
          (Contains-from_dedup bytes_eq (listed sorted) name (subst (λ l. Contains l name) names has)),
      λ had. subst (λ l. Contains l name) (sym names) (Contains-dedup nat_list_eq_equiv (λ x y. (bytes_eq-Decides x y).0) (listed sorted) name
          (Contains-permutation (listed old) (listed sorted) name moved had)),
    )

-- Of the names in a folder, these are those that the steps after the rest gave to what is still there.
pub record AreNamed (past rest : List Step) (folder : Path) (names : List Path) : Type 0 where
  pub all : (name : Path) → IsEntryName name → is_there past (path_in folder name) ≡ true → (is_there rest (path_in folder name) ≡ true) ⊎ Contains names name
  pub only : (name : Path) → Contains names name → IsEntryName name × (is_there past (path_in folder name) ≡ true)

pub no_items : {X : Type 0} (items : List X) → length items ≡ 0 → items ≡ []
no_items [] none = refl
no_items (item ∷ items) none = absurd (omega arith)

or_more : (folder : Bool) (found : Option File) → (folder || false) ≡ true → (folder || is_some found) ≡ true
or_more true found is = refl
or_more false found is = cc

-- what a step leaves there was there, or is what it made
from_step : (step : Step) (past : List Step) (at : Path) → is_there (step ∷ past) at ≡ true → (is_there past at ≡ true) ⊎ (made_at step ≡ Some at)
from_step (Made to bytes) past at there = elim (cases_Bool (bytes_eq at to)) [
  | inl is ↦ inr (ap (λ p. Some p) (sym ((bytes_eq-Decides at to).0 is)))
  | inr not ↦ inl (rw not at there)
]
from_step (Linked from to) past at there = elim (cases_Bool (bytes_eq at to)) [
  | inl is ↦ inr (ap (λ p. Some p) (sym ((bytes_eq-Decides at to).0 is)))
  | inr not ↦ inl (rw not at there)
]
from_step (Renamed from to) past at there = elim (cases_Bool (bytes_eq at to)) [
  | inl is ↦ inr (ap (λ p. Some p) (sym ((bytes_eq-Decides at to).0 is)))
  | inr not ↦ elim (cases_Bool (bytes_eq at from)) [
    | inl gone ↦ inl (or_more (has_folder past at) (now past at) (rw (not, gone) at there))
    | inr other ↦ inl (rw (not, other) at there)
  ]
]
from_step (Removed name) past at there = elim (cases_Bool (bytes_eq at name)) [
  | inl gone ↦ inl (or_more (has_folder past at) (now past at) (rw gone at there))
  | inr other ↦ inl (rw other at there)
]
from_step (FolderMade folder) past at there = elim (cases_Bool (bytes_eq at folder)) [
  | inl is ↦ inr (ap (λ p. Some p) (sym ((bytes_eq-Decides at folder).0 is)))
  | inr not ↦ inl (rw not at there)
]
from_step (FileStored name) past at there = inl there
from_step (FolderStored folder) past at there = inl there
from_step (Unlisted folder) past at there = inl there
from_step Failed past at there = inl there

-- a step gave this name, and no other
pub named_given : (past rest : List Step) (folder : Path) (step : Step) (name : Path) (names : List Path) → IsEntryOf past folder step name
    → ((other : Path) → IsEntryOf past folder step other → Some name ≡ Some other) → AreNamed past (step ∷ rest) folder names → AreNamed past rest folder (names ++ name ∷ [])
named_given past rest folder step name names entry alone named = record {
  all = λ other proper there. ⊎_elim
      (λ before. ⊎_elim
      (λ sooner. inl sooner)
      (λ place. let same : name ≡ other = let some = alone other (record { proper = proper; place = place; there = there }) in cc in
      inr (subst (λ n. Contains (names ++ name ∷ []) n) same (Contains-push names name)))
      (from_step step rest (path_in folder other) before))
      (λ has. inr (Contains-append_left names (name ∷ []) other has))
      (named.all other proper there);
  only = λ other has. ⊎_elim
      (λ had. named.only other had)
      (λ same. subst (λ n. IsEntryName n × (is_there past (path_in folder n) ≡ true)) same (entry.proper, entry.there))
      (Contains-push_cases names name other has);
}

-- a step gave none
pub named_kept : (past rest : List Step) (folder : Path) (step : Step) (names : List Path)
    → ((other : Path) → IsEntryOf past folder step other → None ≡ Some other) → AreNamed past (step ∷ rest) folder names → AreNamed past rest folder names
named_kept past rest folder step names none named = record {
  all = λ other proper there. ⊎_elim
      (λ before. ⊎_elim
      (λ sooner. inl sooner)
      (λ place. let some = none other (record { proper = proper; place = place; there = there }) in absurd cc)
      (from_step step rest (path_in folder other) before))
      (λ has. inr has)
      (named.all other proper there);
  only = named.only;
}

-- all of them, in order
pub named_listing : (past : List Step) (folder : Path) (names ordered : List Path) → has_folder past folder ≡ true → IsStrictlySortedBy (slice_cmp nat_cmp) ordered
    → ((name : Path) → Contains ordered name ↔ Contains names name) → AreNamed past [] folder names → IsListing past folder ordered
named_listing past folder names ordered there ascend same named = record {
  there = there;
  ascend = ascend;
  all = λ name proper is. ⊎_elim (λ none. absurd cc) (λ has. (same name).1 has) (named.all name proper is);
  only = λ name has. named.only name ((same name).0 has);
}
