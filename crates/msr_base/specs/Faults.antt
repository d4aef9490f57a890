-- Faults of bytes in their order, and the first of them.
use Rattle.std.specs.Prelude.{Bool, if◌then◌else◌, List, [], ◌∷◌, Option, Some, None}

-- the fault, if the test fails
abbrev pub unless : {Fault : Type 0} → Bool → Fault → Option Fault
unless passes fault = if passes then None else Some fault

-- the first fault of a list
abbrev pub first_fault : {Fault : Type 0} → List (Option Fault) → Option Fault
first_fault [] = None
first_fault (None ∷ faults) = first_fault faults
first_fault (Some fault ∷ faults) = Some fault
