-- What a map by names shows.
use Rattle.std.specs.Prelude.{List, ℕ, map, String}
use Rattle.std.specs.String.{string_bytes}
use Rattle.msr_folders.specs.declared.totals.Total.{Total}

-- each name's bytes, and its total
abbrev pub named : {Z : Type 0} → List (String Z × Total) → List (List ℕ × Total)
named entries = map (λ entry. (string_bytes entry.0, entry.1)) entries
