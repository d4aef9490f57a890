-- A list of segments as one list of symbols: for each segment its beginning and then its samples. Two lists of segments
-- are equal exactly if their symbols are.
use Rattle.std.specs.Prelude.{ℕ, ◌+◌, Bool, true, false, List, [], ◌∷◌, ◌++◌, drop, map, ℤ, Option, None, Some}
use Rattle.msr_rows.specs.declared.row.Key.{Key}
use Rattle.msr_rows.specs.declared.row.Row.{Row}
use Rattle.msr_segments.specs.declared.joiner.Segment.{Segment}
use Rattle.msr_segments.specs.declared.follow.Step.{Step}
use Rattle.msr_segments.specs.declared.follow.Step.TheVariants.{Begins, Joins}

pub data Symbol : Type 0 where
  Opens : (key : Key) (start : ℤ) → Symbol
  Holds : (sample : ℤ) → Symbol

abbrev pub symbols_of : List Segment → List Symbol
symbols_of [] = []
symbols_of (segment ∷ segments) =
    Opens segment.key segment.start ∷ (map Holds segment.samples ++ symbols_of segments)

-- the symbols of a row that begins a segment, or joins the one before
abbrev pub row_symbols : Step → Row → List Symbol
row_symbols Begins row = Opens row.key row.start ∷ map Holds row.samples
row_symbols Joins row = map Holds row.samples

-- the samples among symbols
abbrev pub held_in : List Symbol → List ℤ
held_in [] = []
held_in (Opens key start ∷ symbols) = held_in symbols
held_in (Holds sample ∷ symbols) = sample ∷ held_in symbols

-- how many samples the last segment has, if there were `count` before
abbrev pub count_after : ℕ → List Symbol → ℕ
count_after count [] = count
count_after count (Opens key start ∷ symbols) = count_after 0 symbols
count_after count (Holds sample ∷ symbols) = count_after (count + 1) symbols

-- what is ahead of a row: its beginning, if it begins a segment and that was not passed, and the samples that were
-- not passed
abbrev pub opening_ahead : Bool → Row → List Symbol
opening_ahead true row = Opens row.key row.start ∷ []
opening_ahead false row = []

abbrev pub row_ahead : Option Row → Bool → ℕ → List Symbol
row_ahead None begins passed = []
row_ahead (Some row) begins passed = opening_ahead begins row ++ map Holds (drop passed row.samples)
