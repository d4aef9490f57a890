-- Totals by name, from the list of all adds.
use Rattle.std.specs.Prelude.{ℕ, ◌-◌, ◌^◌, not, List, [], ◌∷◌, length, map, filter, min}
use Rattle.std.specs.List.{sum_by}
use Rattle.std.specs.Str.{bytes_eq}
use Rattle.msr_folders.specs.declared.totals.Total.{Total}

-- one add: the name, and what was read and written
pub record Add : Type 0 where
  pub name : List ℕ
  pub read : ℕ
  pub written : ℕ

-- a number, or the greatest of 64 bits if it is greater
abbrev pub saturated : ℕ → ℕ
saturated n = min n (2 ^ 64 - 1)

-- the adds of that name
abbrev pub adds_of : List Add → List ℕ → List Add
adds_of adds name = filter (λ add. bytes_eq name add.name) adds

-- the number of the adds of a name, and their two sums
abbrev pub total_of : List Add → List ℕ → Total
total_of adds name = record {
  files = saturated (length (adds_of adds name));
  read = saturated (sum_by (λ add. add.read) (adds_of adds name));
  written = saturated (sum_by (λ add. add.written) (adds_of adds name));
}

-- the distinct names, each where it comes first
abbrev pub first_names : List (List ℕ) → List (List ℕ)
first_names [] = []
first_names (name ∷ names) = name ∷ filter (λ other. not (bytes_eq name other)) (first_names names)

-- the names in the order of their first adds, each with its total
abbrev pub totals_of : List Add → List (List ℕ × Total)
totals_of adds =
    map (λ name. (name, total_of adds name)) (first_names (map (λ add. add.name) adds))
