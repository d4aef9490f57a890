-- Each list of samples has a packing, and a step is seen in the samples close to it.
use Rattle.std.specs.Prelude.{◌≡◌, ℕ, ◌+◌, ◌<◌, ◌≤◌, ◌⊎◌, ℤ, List, length, drop}
use Rattle.msr_words.specs.Fit.{Records, FitsAny}
use Rattle.msr_words.specs.declared.kinds.Run.{Run}
use Rattle.msr_words.specs.Packing.{IsCanonical, IsStep}

-- each list of samples has a canonical packing into records of any number of bytes from 256 on, of any choice of kinds
abbrev pub PackingExists : Type 0
PackingExists = (records : Records) (samples : List ℤ) → 256 ≤ records.bytes
    → (runs : List Run) × (separators : List ℕ) × IsCanonical records samples runs separators

-- The step from a frontier g in the samples from o on is the step of the whole segment, if two of them at least
-- stand before g, or all samples do.
abbrev pub StepOfWindow : Type 0
StepOfWindow = (records : Records) → 256 ≤ records.bytes → (samples : List ℤ) (o g h a : ℕ) → o ≤ length samples
    → o + g < length samples → (o ≡ 0) ⊎ (2 ≤ g)
    → IsStep (FitsAny records) (drop o samples) g h a → IsStep (FitsAny records) samples (o + g) (o + h) (o + a)
