-- Rows of a table by names: look-ups, and one row more or changed.
use Rattle.std.proofs.Common.{◌≡◌, ℕ, Bool, true, false, if◌then◌else◌, List, [], ◌∷◌, Some, None, map, refl, ap, sym, String}
use Rattle.std.specs.Map.{lookup}
use Rattle.std.specs.Str.{bytes_eq}
use Rattle.std.specs.String.{string_bytes, string_eq}
use Rattle.indexmap.specs.IndexMap.{insert_entry}
use Rattle.msr_folders.specs.declared.totals.Total.{Total}
use Rattle.msr_folders.specs.Named.{named}
use Rattle.msr_folders.proofs.FirstNameLemmas.{has, with_name, same_name, AreDistinct}

module _ {X : Type 0} where
  -- a row for each name
  abbrev pub rows : (List ℕ → X) → List (List ℕ) → List (List ℕ × X)
  rows value names = map (λ name. (name, value name)) names

  pub lookup-rows : (value : List ℕ → X) (n : List ℕ) (names : List (List ℕ))
      → lookup (bytes_eq n) (rows value names) ≡ (if has n names then Some (value n) else None)
  lookup-rows value n [] = refl
  lookup-rows value n (m ∷ names) = by (bytes_eq n m) refl (lookup-rows value n names)
    where
      by : (b : Bool) → bytes_eq n m ≡ b
          → lookup (bytes_eq n) (rows value names) ≡ (if has n names then Some (value n) else None)
          → lookup (bytes_eq n) (rows value (m ∷ names))
          ≡ (if has n (m ∷ names) then Some (value n) else None)
      by true e rest = rw e (ap (λ name. Some (value name)) (sym (same_name n m e)))
      by false e rest = rw e rest

  -- values that agree but at one name give the same rows if that name is not there
  rows-others : (value value' : List ℕ → X) (n : List ℕ)
      → ((m : List ℕ) → bytes_eq n m ≡ false → value' m ≡ value m)
      → (names : List (List ℕ)) → has n names ≡ false → rows value' names ≡ rows value names
  rows-others value value' n others [] absent = refl
  rows-others value value' n others (m ∷ names) absent =
      by (bytes_eq n m) refl (λ tail. rows-others value value' n others names tail)
    where
      by : (b : Bool) → bytes_eq n m ≡ b
          → (has n names ≡ false → rows value' names ≡ rows value names)
          → rows value' (m ∷ names) ≡ rows value (m ∷ names)
      by true e rest = let never = rw e at absent in cc
      by false e rest =
          let tail : has n names ≡ false = rw e at absent in
          rw (others m e, rest tail) refl

  -- the row of a name is changed, or comes last
  pub insert_entry-rows : (value value' : List ℕ → X) (n : List ℕ)
      → ((m : List ℕ) → bytes_eq n m ≡ false → value' m ≡ value m)
      → (names : List (List ℕ)) → AreDistinct names
      → insert_entry bytes_eq (rows value names) n (value' n) ≡ rows value' (with_name names n)
  insert_entry-rows value value' n others [] distinct = refl
  insert_entry-rows value value' n others (m ∷ names) distinct =
      by (bytes_eq n m) (has n names) refl refl
      (insert_entry-rows value value' n others names distinct.1)
    where
      by : (b c : Bool) → bytes_eq n m ≡ b → has n names ≡ c
          → insert_entry bytes_eq (rows value names) n (value' n) ≡ rows value' (with_name names n)
          → insert_entry bytes_eq (rows value (m ∷ names)) n (value' n)
          ≡ rows value' (with_name (m ∷ names) n)
      by true c e f rest =
          let same : n ≡ m = same_name n m e in
          let absent : has n names ≡ false = rw same distinct.0 in
          rw (e, rows-others value value' n others names absent, ap value' same) refl
      by false true e f rest = rw (e, f, others m e, rest, f) refl
      by false false e f rest = rw (e, f, others m e, rest, f) refl

-- a map by `String` shows the rows by the names' bytes
pub lookup_named : {Z : Type 0} (n : List ℕ) (entries : List (String Z × Total))
    → lookup (λ key. bytes_eq n (string_bytes key)) entries ≡ lookup (bytes_eq n) (named entries)
lookup_named n [] = refl
lookup_named n (e ∷ entries) =
    ap (λ rest. if bytes_eq n (string_bytes e.0) then Some e.1 else rest) (lookup_named n entries)

pub named-insert_entry : {Z : Type 0} (entries : List (String Z × Total)) (key : String Z) (v : Total)
    → named (insert_entry string_eq entries key v)
    ≡ insert_entry bytes_eq (named entries) (string_bytes key) v
named-insert_entry [] key v = refl
named-insert_entry (e ∷ entries) key v =
    by (bytes_eq (string_bytes key) (string_bytes e.0)) refl (named-insert_entry entries key v)
  where
    by : (b : Bool) → bytes_eq (string_bytes key) (string_bytes e.0) ≡ b
        → named (insert_entry string_eq entries key v)
        ≡ insert_entry bytes_eq (named entries) (string_bytes key) v
        → named (insert_entry string_eq (e ∷ entries) key v)
        ≡ insert_entry bytes_eq (named (e ∷ entries)) (string_bytes key) v
    by true same rest = rw same refl
    by false other rest = rw other (ap (λ more. (string_bytes e.0, e.1) ∷ more) rest)
