-- The symbols of segments: their numbers, and what their beginnings are.
use Rattle.std.proofs.Common.{◌≡◌, ℕ, ◌+◌, Bool, true, false, List, [], ◌∷◌, ◌++◌, length, map, drop, refl, sym, ap, ap₂, arith, append_assoc, ℤ, Option, Some, None}
use Rattle.std.specs.List.{slice_range}
use Rattle.std.proofs.lemmas.List.{append-nil, take_all, length-drop}
use Rattle.msr_rows.specs.declared.row.Key.{Key}
use Rattle.msr_rows.specs.declared.row.Row.{Row}
use Rattle.msr_segments.specs.declared.joiner.Segment.{Segment}
use Rattle.msr_compare.specs.Symbols.{Symbol, Opens, Holds, symbols_of, held_in, count_after, row_ahead}

pub held_map : (xs : List ℤ) → held_in (map Holds xs) ≡ xs
held_map [] = refl
held_map (x ∷ xs) = ap (λ (l : List ℤ). x ∷ l) (held_map xs)

-- what is held of a row at hand
pub held_ahead : (row : Row) (begins : Bool) (passed : ℕ)
    → held_in (row_ahead (Some row) begins passed) ≡ drop passed row.samples
held_ahead row true passed = held_map (drop passed row.samples)
held_ahead row begins passed = held_map (drop passed row.samples)

pub symbols_append : (xs ys : List Segment) → symbols_of (xs ++ ys) ≡ symbols_of xs ++ symbols_of ys
symbols_append [] ys = refl
symbols_append (x ∷ xs) ys = rw (symbols_append xs ys, append_assoc) refl

-- the symbols of one segment more
pub symbols_snoc : (xs : List Segment) (x : Segment)
    → symbols_of (xs ++ x ∷ []) ≡ symbols_of xs ++ Opens x.key x.start ∷ map Holds x.samples
symbols_snoc xs x = rw (symbols_append xs (x ∷ []), append-nil (map Holds x.samples)) refl

-- how many segments symbols begin
abbrev pub opened_in : List Symbol → ℕ
opened_in [] = 0
opened_in (Opens key start ∷ symbols) = 1 + opened_in symbols
opened_in (Holds sample ∷ symbols) = opened_in symbols

pub opened_append : (xs ys : List Symbol) → opened_in (xs ++ ys) ≡ opened_in xs + opened_in ys
opened_append [] ys = omega arith
opened_append (Opens key start ∷ xs) ys = omega (arith, opened_append xs ys)
opened_append (Holds x ∷ xs) ys = opened_append xs ys

pub opened_held : (xs : List ℤ) → opened_in (map Holds xs) ≡ 0
opened_held [] = refl
opened_held (x ∷ xs) = opened_held xs

-- there are as many beginnings as segments
pub opened_symbols : (segments : List Segment) → opened_in (symbols_of segments) ≡ length segments
opened_symbols [] = refl
opened_symbols (x ∷ xs) =
    omega (arith, opened_append (map Holds x.samples) (symbols_of xs), opened_held x.samples, opened_symbols xs)

pub count_append : (n : ℕ) (xs ys : List Symbol) → count_after n (xs ++ ys) ≡ count_after (count_after n xs) ys
count_append n [] ys = refl
count_append n (Opens key start ∷ xs) ys = count_append 0 xs ys
count_append n (Holds x ∷ xs) ys = count_append (n + 1) xs ys

pub count_held : (n : ℕ) (xs : List ℤ) → count_after n (map Holds xs) ≡ n + length xs
count_held n [] = omega arith
count_held n (x ∷ xs) = omega (arith, count_held (n + 1) xs)

-- the samples after the last beginning are those of the last segment
pub count_last : (n : ℕ) (segments : List Segment) (last : Segment)
    → count_after n (symbols_of (segments ++ last ∷ [])) ≡ length last.samples
count_last n segments last =
    rw (symbols_snoc segments last, count_append n (symbols_of segments), count_held 0 last.samples) (omega arith)

-- no list of segments begins with a sample
pub no_sample_first : (segments : List Segment) (sample : ℤ) (rest : List Symbol)
    → symbols_of segments ≡ Holds sample ∷ rest → ⊥
no_sample_first [] sample rest e = cc
no_sample_first (x ∷ xs) sample rest e = cc

-- no symbols are those of no segments
pub no_symbols : (segments : List Segment) → symbols_of segments ≡ [] → segments ≡ []
no_symbols [] e = refl
no_symbols (x ∷ xs) e = cc

abbrev pub segment_so : Key → ℤ → List ℤ → Segment
segment_so key start samples = record { key = key; start = start; samples = samples }

-- segments that begin so
pub record OpensSo (segments : List Segment) (key : Key) (start : ℤ) (rest : List Symbol) : Type 0 where
  pub samples : List ℤ
  pub after : List Segment
  pub are : segments ≡ segment_so key start samples ∷ after
  pub rest_is : map Holds samples ++ symbols_of after ≡ rest

pub opens_so : {key : Key} {start : ℤ} {rest : List Symbol} (segments : List Segment)
    → symbols_of segments ≡ Opens key start ∷ rest → OpensSo segments key start rest
opens_so [] e = absurd cc
opens_so {key} {start} {rest} (x ∷ xs) e =
    let k : x.key ≡ key = cc in
    let t : x.start ≡ start = cc in
    let r : map Holds x.samples ++ symbols_of xs ≡ rest = cc in
    let same = λ (k : Key) (t : ℤ). segment_so k t x.samples ∷ xs in
    record { samples = x.samples; after = xs; are = ap₂ same k t; rest_is = r }

-- samples and then segments: where a segment begins, no samples are before it
pub opens_next : {key : Key} {start : ℤ} {rest : List Symbol} (samples : List ℤ) (segments : List Segment)
    → map Holds samples ++ symbols_of segments ≡ Opens key start ∷ rest
    → (samples ≡ []) × OpensSo segments key start rest
opens_next [] segments e = (refl, opens_so segments e)
opens_next (x ∷ xs) segments e = absurd cc

-- where a sample stands, it is the first of them
pub record HoldsSo (samples : List ℤ) (segments : List Segment) (sample : ℤ) (rest : List Symbol) : Type 0 where
  pub after : List ℤ
  pub are : samples ≡ sample ∷ after
  pub rest_is : map Holds after ++ symbols_of segments ≡ rest

pub holds_so : {sample : ℤ} {rest : List Symbol} (samples : List ℤ) (segments : List Segment)
    → map Holds samples ++ symbols_of segments ≡ Holds sample ∷ rest → HoldsSo samples segments sample rest
holds_so {sample} {rest} [] segments e = absurd (no_sample_first segments sample rest e)
holds_so {sample} {rest} (x ∷ xs) segments e =
    let same : x ≡ sample = cc in
    let r : map Holds xs ++ symbols_of segments ≡ rest = cc in
    record { after = xs; are = ap (λ (y : ℤ). y ∷ xs) same; rest_is = r }

-- a row at hand whose beginning is passed
pub opened_ahead : (row : Option Row) (begins : Bool) (passed : ℕ)
    → row_ahead row false passed ≡ map Holds (held_in (row_ahead row begins passed))
opened_ahead None begins passed = refl
opened_ahead (Some row) begins passed = ap (map Holds) (sym (held_ahead row begins passed))

pub range_to_end : (xs : List ℤ) (at : ℕ) → slice_range xs at (length xs) ≡ drop at xs
range_to_end xs at = take_all _ (drop at xs) (omega (arith, length-drop at xs))
