-- One add more.
use Rattle.std.proofs.Common.{◌≡◌, ℕ, ◌+◌, ◌-◌, ◌^◌, min, Bool, true, false, if◌then◌else◌, List, [], ◌∷◌, ◌++◌, length, map, Some, None, unwrap_or, refl, ap, sym, ◌∙◌, arith, length-append}
use Rattle.std.specs.List.{sum_by}
use Rattle.std.specs.Map.{lookup}
use Rattle.std.specs.Str.{bytes_eq}
use Rattle.std.proofs.lemmas.List.Sums.{sum_by_push}
use Rattle.std.proofs.lemmas.Slice.Eq.{bytes_eq-Decides}
use Rattle.indexmap.specs.IndexMap.{insert_entry}
use Rattle.msr_folders.specs.declared.totals.Total.{Total}
use Rattle.msr_folders.specs.Totals.{Add, adds_of, total_of, totals_of, first_names, saturated}
use Rattle.msr_folders.proofs.FirstNameLemmas.{has, bytes_eq_sym, first_names-push, has_first_names, AreDistinct_first_names}
use Rattle.msr_folders.proofs.RowLemmas.{rows, lookup-rows, insert_entry-rows}

abbrev names_of : List Add → List (List ℕ)
names_of adds = map (λ add. add.name) adds

names_of-push : (adds : List Add) (a : Add) → names_of (adds ++ a ∷ []) ≡ names_of adds ++ a.name ∷ []
names_of-push [] a = refl
names_of-push (b ∷ adds) a = ap (λ names. b.name ∷ names) (names_of-push adds a)

-- an add counts for its own name
adds_of_push_same : (adds : List Add) (a : Add) (n : List ℕ) → bytes_eq n a.name ≡ true
    → adds_of (adds ++ a ∷ []) n ≡ adds_of adds n ++ a ∷ []
adds_of_push_same [] a n same = rw same refl
adds_of_push_same (b ∷ adds) a n same = by (bytes_eq n b.name) refl (adds_of_push_same adds a n same)
  where
    by : (c : Bool) → bytes_eq n b.name ≡ c → adds_of (adds ++ a ∷ []) n ≡ adds_of adds n ++ a ∷ []
        → adds_of ((b ∷ adds) ++ a ∷ []) n ≡ adds_of (b ∷ adds) n ++ a ∷ []
    by true e rest = rw e (ap (λ more. b ∷ more) rest)
    by false e rest = rw e rest

-- and for no other
adds_of_push_other : (adds : List Add) (a : Add) (n : List ℕ) → bytes_eq n a.name ≡ false
    → adds_of (adds ++ a ∷ []) n ≡ adds_of adds n
adds_of_push_other [] a n other = rw other refl
adds_of_push_other (b ∷ adds) a n other =
    by (bytes_eq n b.name) refl (adds_of_push_other adds a n other)
  where
    by : (c : Bool) → bytes_eq n b.name ≡ c → adds_of (adds ++ a ∷ []) n ≡ adds_of adds n
        → adds_of ((b ∷ adds) ++ a ∷ []) n ≡ adds_of (b ∷ adds) n
    by true e rest = rw e (ap (λ more. b ∷ more) rest)
    by false e rest = rw e rest

-- a name that was not added has no adds
adds_of_absent : (adds : List Add) (n : List ℕ) → has n (names_of adds) ≡ false → adds_of adds n ≡ []
adds_of_absent [] n absent = refl
adds_of_absent (b ∷ adds) n absent = by (bytes_eq n b.name) refl (λ tail. adds_of_absent adds n tail)
  where
    by : (c : Bool) → bytes_eq n b.name ≡ c → (has n (names_of adds) ≡ false → adds_of adds n ≡ [])
        → adds_of (b ∷ adds) n ≡ []
    by true e rest = let never = rw e at absent in cc
    by false e rest = let tail : has n (names_of adds) ≡ false = rw e at absent in rw e (rest tail)

-- a sum that stops at a bound can stop on its way
min_sum : (bound x y : ℕ) → min (min x bound + y) bound ≡ min (x + y) bound
min_sum bound x y = omega arith

-- the total of no add
abbrev pub none : Total
none = record { files = 0; read = 0; written = 0 }

-- the total with one add more
pub record IsPlus (before : Total) (a : Add) (after : Total) : Type 0 where
  pub files : after.files ≡ saturated (before.files + 1)
  pub read : after.read ≡ saturated (before.read + a.read)
  pub written : after.written ≡ saturated (before.written + a.written)

total_of-push : (adds : List Add) (a : Add) (after : Total) → IsPlus (total_of adds a.name) a after
    → after ≡ total_of (adds ++ a ∷ []) a.name
total_of-push adds a after plus =
    let own = adds_of adds a.name in
    let same : bytes_eq a.name a.name ≡ true = (bytes_eq-Decides a.name a.name).1 refl in
    let more = adds_of_push_same adds a a.name same in
    let bound = 2 ^ 64 - 1 in
    let files : after.files ≡ saturated (length (own ++ a ∷ [])) =
    rw length-append (plus.files ∙ min_sum bound (length own) 1) in
    let read : after.read ≡ saturated (sum_by (λ add. add.read) (own ++ a ∷ [])) =
    rw (sum_by_push (λ (add : Add). add.read) own a)
    (plus.read ∙ min_sum bound (sum_by (λ add. add.read) own) a.read) in
    let written : after.written ≡ saturated (sum_by (λ add. add.written) (own ++ a ∷ [])) =
    rw (sum_by_push (λ (add : Add). add.written) own a)
    (plus.written ∙ min_sum bound (sum_by (λ add. add.written) own) a.written) in
    rw more (λ i. record { files = files i; read = read i; written = written i })

-- what a look-up finds, or the total of no add, is the total of the name
total_of_before : (adds : List Add) (n : List ℕ)
    → unwrap_or (lookup (bytes_eq n) (totals_of adds)) none ≡ total_of adds n
total_of_before adds n = by (has n (names_of adds)) refl
  where
    found : lookup (bytes_eq n) (totals_of adds)
        ≡ (if has n (names_of adds) then Some (total_of adds n) else None)
    found =
        lookup-rows (total_of adds) n (first_names (names_of adds))
        ∙ ap (λ b. if b then Some (total_of adds n) else None) (has_first_names n (names_of adds))

    by : (b : Bool) → has n (names_of adds) ≡ b
        → unwrap_or (lookup (bytes_eq n) (totals_of adds)) none ≡ total_of adds n
    by true e = rw (found, e) refl
    by false e = rw (found, e, adds_of_absent adds n e) refl

-- the rows of a map after an add are the totals with it
pub insert_entry_totals : (adds : List Add) (a : Add) (after : Total)
    → IsPlus (unwrap_or (lookup (bytes_eq a.name) (totals_of adds)) none) a after
    → insert_entry bytes_eq (totals_of adds) a.name after ≡ totals_of (adds ++ a ∷ [])
insert_entry_totals adds a after plus =
    let names = names_of adds in
    let more = adds ++ a ∷ [] in
    let own : after ≡ total_of more a.name =
    total_of-push adds a after (rw (total_of_before adds a.name) at plus) in
    let others = λ (m : List ℕ) (other : bytes_eq a.name m ≡ false).
    adds_of_push_other adds a m (bytes_eq_sym m a.name ∙ other) in
    let kept = insert_entry-rows (total_of adds) (total_of more) a.name
    (λ m other. rw (others m other) refl) (first_names names) (AreDistinct_first_names names) in
    rw own (kept ∙ ap (rows (total_of more))
    (sym (first_names-push names a.name) ∙ ap first_names (sym (names_of-push adds a))))
