-- The distinct names of a list, each where it comes first.
use Rattle.std.proofs.Common.{◌≡◌, ℕ, Bool, true, false, not, ◌||◌, if◌then◌else◌, List, [], ◌∷◌, ◌++◌, filter, refl, ap, sym, ◌∙◌}
use Rattle.std.specs.List.{list_any}
use Rattle.std.specs.Str.{bytes_eq}
use Rattle.std.proofs.lemmas.Slice.Eq.{bytes_eq-Decides}
use Rattle.msr_folders.specs.Totals.{first_names}

-- whether the name is in the list
abbrev pub has : List ℕ → List (List ℕ) → Bool
has name names = list_any (bytes_eq name) names

-- the list without that name
abbrev pub without : List ℕ → List (List ℕ) → List (List ℕ)
without name names = filter (λ other. not (bytes_eq name other)) names

-- the list with the name, last if it was not there
abbrev pub with_name : List (List ℕ) → List ℕ → List (List ℕ)
with_name names name = if has name names then names else names ++ name ∷ []

-- equal bytes are one name
pub same_name : (m n : List ℕ) → bytes_eq m n ≡ true → m ≡ n
same_name m n e = (bytes_eq-Decides m n).0 e

pub bytes_eq_sym : (m n : List ℕ) → bytes_eq m n ≡ bytes_eq n m
bytes_eq_sym m n = by (bytes_eq m n) (bytes_eq n m) refl refl
  where
    by : (b c : Bool) → bytes_eq m n ≡ b → bytes_eq n m ≡ c → bytes_eq m n ≡ bytes_eq n m
    by true c e f = e ∙ sym ((bytes_eq-Decides n m).1 (sym (same_name m n e)))
    by false true e f = (bytes_eq-Decides m n).1 (sym (same_name n m f)) ∙ sym f
    by false false e f = e ∙ sym f

-- dropping one name keeps every other
pub has_without_other : (m n : List ℕ) → bytes_eq n m ≡ false → (xs : List (List ℕ))
    → has n (without m xs) ≡ has n xs
has_without_other m n other [] = refl
has_without_other m n other (x ∷ xs) = by (bytes_eq m x) refl (has_without_other m n other xs)
  where
    by : (b : Bool) → bytes_eq m x ≡ b → has n (without m xs) ≡ has n xs
        → has n (without m (x ∷ xs)) ≡ has n (x ∷ xs)
    by true e rest =
        let absent : bytes_eq n x ≡ false = sym (ap (bytes_eq n) (same_name m x e)) ∙ other in
        rw (e, absent) rest
    by false e rest = rw e (ap (λ b. bytes_eq n x || b) rest)

-- and drops that one
pub has_without_same : (m : List ℕ) (xs : List (List ℕ)) → has m (without m xs) ≡ false
has_without_same m [] = refl
has_without_same m (x ∷ xs) = by (bytes_eq m x) refl (has_without_same m xs)
  where
    by : (b : Bool) → bytes_eq m x ≡ b → has m (without m xs) ≡ false
        → has m (without m (x ∷ xs)) ≡ false
    by true e rest = rw e rest
    by false e rest = rw (e, e) rest

-- a name that is not there is not there without another
has_without_absent : (m n : List ℕ) (xs : List (List ℕ)) → has n xs ≡ false
    → has n (without m xs) ≡ false
has_without_absent m n xs absent = by (bytes_eq n m) refl
  where
    by : (b : Bool) → bytes_eq n m ≡ b → has n (without m xs) ≡ false
    by true e = rw (same_name n m e) (has_without_same m xs)
    by false e = has_without_other m n e xs ∙ absent

-- a name at the end is kept unless it is the one that is dropped
without_push : (m : List ℕ) (xs : List (List ℕ)) (n : List ℕ)
    → without m (xs ++ n ∷ []) ≡ (if bytes_eq m n then without m xs else without m xs ++ n ∷ [])
without_push m [] n = by (bytes_eq m n) refl
  where
    by : (b : Bool) → bytes_eq m n ≡ b
        → without m (n ∷ []) ≡ (if bytes_eq m n then [] else n ∷ [])
    by true e = rw e refl
    by false e = rw e refl
without_push m (x ∷ xs) n = by (bytes_eq m n) (bytes_eq m x) refl refl (without_push m xs n)
  where
    by : (b c : Bool) → bytes_eq m n ≡ b → bytes_eq m x ≡ c
        → without m (xs ++ n ∷ []) ≡ (if bytes_eq m n then without m xs else without m xs ++ n ∷ [])
        → without m ((x ∷ xs) ++ n ∷ [])
        ≡ (if bytes_eq m n then without m (x ∷ xs) else without m (x ∷ xs) ++ n ∷ [])
    by true true e f rest = rw (e, f) (rw e at rest)
    by true false e f rest = rw (e, f) (ap (λ ys. x ∷ ys) (rw e at rest))
    by false true e f rest = rw (e, f) (rw e at rest)
    by false false e f rest = rw (e, f) (ap (λ ys. x ∷ ys) (rw e at rest))

-- the distinct names are those of the list
pub has_first_names : (n : List ℕ) (names : List (List ℕ)) → has n (first_names names) ≡ has n names
has_first_names n [] = refl
has_first_names n (m ∷ names) = by (bytes_eq n m) refl (has_first_names n names)
  where
    by : (b : Bool) → bytes_eq n m ≡ b → has n (first_names names) ≡ has n names
        → has n (first_names (m ∷ names)) ≡ has n (m ∷ names)
    by true e rest = rw e refl
    by false e rest = rw e (has_without_other m n e (first_names names) ∙ rest)

-- one name more
pub first_names-push : (names : List (List ℕ)) (n : List ℕ)
    → first_names (names ++ n ∷ []) ≡ with_name (first_names names) n
first_names-push [] n = refl
first_names-push (m ∷ names) n =
    by (has n (first_names names)) (bytes_eq n m) refl refl (first_names-push names n)
  where
    by : (b c : Bool) → has n (first_names names) ≡ b → bytes_eq n m ≡ c
        → first_names (names ++ n ∷ []) ≡ with_name (first_names names) n
        → first_names ((m ∷ names) ++ n ∷ []) ≡ with_name (first_names (m ∷ names)) n
    by true true e f rest = rw (rest, e, f) refl
    by true false e f rest =
        let there = has_without_other m n f (first_names names) ∙ e in
        rw (rest, e, f, there) refl
    by false true e f rest =
        let turned : bytes_eq m n ≡ true = bytes_eq_sym m n ∙ f in
        rw (rest, e, f, without_push m (first_names names) n, turned) refl
    by false false e f rest =
        let turned : bytes_eq m n ≡ false = bytes_eq_sym m n ∙ f in
        let absent = has_without_other m n f (first_names names) ∙ e in
        rw (rest, e, f, without_push m (first_names names) n, turned, absent) refl

-- no name stands in the list twice
abbrev pub AreDistinct : List (List ℕ) → Type 0
AreDistinct [] = Unit {0}
AreDistinct (x ∷ xs) = (has x xs ≡ false) × AreDistinct xs

AreDistinct_without : (m : List ℕ) (xs : List (List ℕ)) → AreDistinct xs → AreDistinct (without m xs)
AreDistinct_without m [] distinct = tt
AreDistinct_without m (x ∷ xs) distinct = by (bytes_eq m x) refl (AreDistinct_without m xs distinct.1)
  where
    by : (b : Bool) → bytes_eq m x ≡ b → AreDistinct (without m xs)
        → AreDistinct (without m (x ∷ xs))
    by true e rest = rw e rest
    by false e rest = rw e (has_without_absent m x xs distinct.0, rest)

pub AreDistinct_first_names : (names : List (List ℕ)) → AreDistinct (first_names names)
AreDistinct_first_names [] = tt
AreDistinct_first_names (m ∷ names) =
    let rest = first_names names in
    (has_without_same m rest, AreDistinct_without m rest (AreDistinct_first_names names))
