-- Two samples that one record holds.
use Rattle.std.specs.Prelude.{ℕ, ◌<◌, ◌≤◌, ◌⊎◌, ℤ, List}
use Rattle.msr_base.specs.declared.kinds.Kind.{Kind}
use Rattle.msr_base.specs.declared.kinds.Kind.TheVariants.{Steim1, Steim2}
use Rattle.msr_words.specs.Fit.{Records, Fits, FitsIn, IsRun}

-- a run in one of these records, of that kind, holds both samples, of which the first stands before the second
pub record HoldsBoth (kind : Kind) (records : Records) (samples : List ℤ) (first second : ℕ) : Type 0 where
  pub start : ℕ
  pub end : ℕ
  pub run : IsRun (FitsIn kind records) samples start end
  pub from : start ≤ first
  pub past : second < end

-- some run of Steim-2 or Steim-1 does
pub record SteimHolds (records : Records) (samples : List ℤ) (first second : ℕ) : Type 0 where
  pub holds : HoldsBoth Steim2 records samples first second ⊎ HoldsBoth Steim1 records samples first second

-- no record of that length, of Steim-2 or Steim-1, has room for both
pub record HaveNoRoom (bytes : ℕ) (samples : List ℤ) (first second : ℕ) : Type 0 where
  pub steim2 : (s b : ℕ) → s ≤ first → second < b → IsRun (Fits Steim2 bytes) samples s b → ⊥
  pub steim1 : (s b : ℕ) → s ≤ first → second < b → IsRun (Fits Steim1 bytes) samples s b → ⊥
