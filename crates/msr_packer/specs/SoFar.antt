-- The first runs of a packing, with the step after them.
use Rattle.std.specs.Prelude.{ℕ, ◌<◌, ℤ, List, length}
use Rattle.msr_words.specs.Fit.{Records, FitsAny, FitsIn, IsRun}
use Rattle.msr_base.specs.declared.kinds.Kind.{Kind}
use Rattle.msr_words.specs.declared.kinds.Run.{Run}
use Rattle.msr_words.specs.Packing.{CanonicalTo, IsStep, Joins}

-- runs and separators up to the frontier g, from which the step to h starts at a
pub record IsSoFar (records : Records) (samples : List ℤ) (runs : List Run) (separators : List ℕ) (g h a : ℕ)
    (kind : Kind) : Type 0 where
  pub chosen : CanonicalTo records samples 0 runs separators g
  pub joined : Joins 0 runs a
  pub within : g < length samples
  pub step : IsStep (FitsAny records) samples g h a
  pub reached : IsRun (FitsIn kind records) samples a h
