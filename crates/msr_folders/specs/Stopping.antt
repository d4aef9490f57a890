-- What a walk tells that changes what it walks, and begins nothing more once something has failed.
use Rattle.std.specs.Prelude.{◌≡◌, ℕ, Bool, true, false, List, [], ◌∷◌, ◌++◌, Option, None, Some}
use Rattle.msr_devices.specs.Device.{Device}
use Rattle.msr_folders.specs.Visits.{TellsThese}
use Rattle.msr_tree.specs.Steps.{Step}

-- Steps were done after these, or none.
pub record ComesAfter (old new : List Step) : Type 0 where
  pub made : List Step
  pub since : new ≡ made ++ old

-- the entries of which a line tells; `None` is one of which nothing more is begun
abbrev pub entries_of : {E : Type 0} → List (Option E) → List E
entries_of [] = []
entries_of (Some entry ∷ said) = entry ∷ entries_of said
entries_of (None ∷ said) = entries_of said

-- each has its line
abbrev pub AreTold : {E : Type 0} → List (Option E) → Type 0
AreTold [] = Unit {0}
AreTold (Some entry ∷ said) = AreTold said
AreTold (None ∷ said) = ⊥

-- none has
abbrev pub AreStopped : {E : Type 0} → List (Option E) → Type 0
AreStopped [] = Unit {0}
AreStopped (Some entry ∷ said) = ⊥
AreStopped (None ∷ said) = AreStopped said

-- after the first that has none there is no line
abbrev pub AreToldFirst : {E : Type 0} → List (Option E) → Type 0
AreToldFirst [] = Unit {0}
AreToldFirst (Some entry ∷ said) = AreToldFirst said
AreToldFirst (None ∷ said) = AreStopped said

-- This was told: no line after something has failed, and each if nothing has.
pub record TellsUntil {E T : Type 0} (is_entry : E → Type 0) (is_line : E → List ℕ → Type 0) (is_tally : List E → T → Type 0)
    (has_failed : T → Bool) (said : List (Option E)) (out0 out : Device) (tally0 tally : T) : Type 0 where
  pub told : TellsThese is_entry is_line is_tally (entries_of said) out0 out tally0 tally
  pub first : AreToldFirst said
  pub after : has_failed tally0 ≡ true → AreStopped said × (has_failed tally ≡ true)
  pub all : has_failed tally ≡ false → AreTold said
