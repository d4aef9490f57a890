-- The first fault of two lists, one after the other.
use Rattle.std.proofs.Common.{◌≡◌, List, [], ◌∷◌, ◌++◌, refl, Option, Some, None}
use Rattle.std.specs.Option.{option_or}
use Rattle.msr_base.specs.Faults.{first_fault}

-- it is the first list's, and without one the second's
pub first_fault_append : {Fault : Type 0} (xs ys : List (Option Fault))
    → first_fault (xs ++ ys) ≡ option_or (first_fault xs) (first_fault ys)
first_fault_append [] ys = refl
first_fault_append (None ∷ xs) ys = first_fault_append xs ys
first_fault_append (Some f ∷ xs) ys = refl
