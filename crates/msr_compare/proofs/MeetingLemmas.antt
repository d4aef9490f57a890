-- What is found where what is ahead of two sides is compared.
use Rattle.std.proofs.Common.{◌≡◌, w64, ℕ, ◌+◌, ◌≤◌, min, List, [], ◌∷◌, ◌++◌, length, map, take, drop, sym, ap, ap₂, ◌∙◌, arith, ℤ, FitsSigned, to_z, of_z, to_z-of_z}
use Rattle.std.proofs.lemmas.List.{length-map, length-take-le, map-append, take-append-drop}
use Rattle.msr_rows.specs.declared.row.Key.{Key}
use Rattle.msr_segments.specs.Unequals.{UnequalAt}
use Rattle.msr_compare.specs.Symbols.{Symbol, Opens, Holds, held_in}
use Rattle.msr_compare.specs.Sides.{Standing}
use Rattle.msr_compare.specs.Meetings.{BeginsNext, HoldsNext, PassesAlike, PassesOnly, ValuesDiffer, place_of}
use Rattle.msr_compare.proofs.Symbols.{held_map}

-- samples that are ahead are all that is
all_held : {ahead : List Symbol} → HoldsNext ahead → ahead ≡ map Holds (held_in ahead)
all_held h = h.ahead_is ∙ ap (map Holds) (sym (ap held_in h.ahead_is ∙ held_map (h.sample ∷ h.samples)))

some_held : {ahead : List Symbol} → HoldsNext ahead → 1 ≤ length (held_in ahead)
some_held h = omega (arith, ap length (ap held_in h.ahead_is ∙ held_map (h.sample ∷ h.samples)))

-- the first samples of both, which are the same, are passed
pub passes_samples : {one other new_one new_other : Standing} (n : ℕ) → HoldsNext one.ahead → HoldsNext other.ahead
    → n ≡ min (length (held_in one.ahead)) (length (held_in other.ahead))
    → take n (held_in one.ahead) ≡ take n (held_in other.ahead)
    → new_one.ahead ≡ map Holds (drop n (held_in one.ahead))
    → new_other.ahead ≡ map Holds (drop n (held_in other.ahead))
    → PassesOnly one new_one → PassesOnly other new_other → PassesAlike one other new_one new_other
passes_samples {one} {other} n is other_is e same rest other_rest only other_only =
    let ones = held_in one.ahead in
    let others = held_in other.ahead in
    let some = some_held is in
    let other_some = some_held other_is in
    let within : n ≤ length ones = omega (arith, e) in
    let parts = λ (xs : List ℤ). ap (map Holds) (sym (take-append-drop n xs)) ∙ map-append Holds (take n xs) (drop n xs) in
    record {
      front = map Holds (take n ones);
      some = omega (arith, e, some, other_some, length-map (take n ones) Holds, length-take-le n ones within);
      one_is = all_held is ∙ parts ones ∙ ap (λ (l : List Symbol). map Holds (take n ones) ++ l) (sym rest);
      other_is = all_held other_is ∙ parts others
          ∙ ap₂ (λ (l : List ℤ) (m : List Symbol). map Holds l ++ m) (sym same) (sym other_rest);
      one_passes = only;
      other_passes = other_only;
    }

-- samples that differ are found
pub values_differ : {one other : Standing} {number at : ℕ} {value other_value : ℤ} → HoldsNext one.ahead
    → HoldsNext other.ahead → UnequalAt (held_in one.ahead) (held_in other.ahead) at value other_value
    → number ≡ min (place_of one + at) 18_446_744_073_709_551_615 → ValuesDiffer one other number value other_value
values_differ {one} {other} {at = at} is other_is unequal e = record {
  ones = held_in one.ahead;
  others = held_in other.ahead;
  at = at;
  one_is = all_held is;
  other_is = all_held other_is;
  unequal = unequal;
  number_is = λ fits. omega (arith, e, fits);
}

-- what is held after a beginning
begun_held : {key : Key} {start : ℤ} {ahead : List Symbol} → BeginsNext key start ahead
    → ahead ≡ (Opens key start ∷ []) ++ map Holds (held_in ahead)
begun_held {key} {start} h =
    h.ahead_is ∙ ap (λ (l : List ℤ). Opens key start ∷ map Holds l) (sym (ap held_in h.ahead_is ∙ held_map h.samples))

pub passes_beginning : {one other new_one new_other : Standing} {key : Key} {start : ℤ} → BeginsNext key start one.ahead
    → BeginsNext key start other.ahead → new_one.ahead ≡ map Holds (held_in one.ahead)
    → new_other.ahead ≡ map Holds (held_in other.ahead) → PassesOnly one new_one → PassesOnly other new_other
    → PassesAlike one other new_one new_other
passes_beginning {key = key} {start} is other_is rest other_rest only other_only = record {
  front = Opens key start ∷ [];
  some = omega arith;
  one_is = begun_held is ∙ ap (λ (l : List Symbol). Opens key start ∷ l) (sym rest);
  other_is = begun_held other_is ∙ ap (λ (l : List Symbol). Opens key start ∷ l) (sym other_rest);
  one_passes = only;
  other_passes = other_only;
}

pub same_signed : (a b : ℤ) → FitsSigned w64 a → FitsSigned w64 b → of_z w64 a ≡ of_z w64 b → a ≡ b
same_signed a b f g e = sym (to_z-of_z f) ∙ ap (λ n. to_z w64 n) e ∙ to_z-of_z g
