-- Packings of a segment, separating lists, and which packings are least.
use Rattle.std.specs.Prelude.{◌≡◌, ℕ, ◌<◌, ◌≤◌, ℤ, List, [], ◌∷◌, length, slice_index, All}
use Rattle.msr_words.specs.Fit.{Records, FitsIn, FitsAny, IsRun, IsFirstKind}
use Rattle.msr_words.specs.declared.kinds.Run.{Run}
use Rattle.msr_words.specs.Segment.{run_points}

-- each run begins where the one before it ends, from a to b
abbrev pub Joins : ℕ → List Run → ℕ → Type 0
Joins a [] b = a ≡ b
Joins a (run ∷ runs) b = (run.start ≡ a) × Joins run.end runs b

-- runs, none empty, each fitting a record of its kind, that join to the whole segment
pub record IsPacking (records : Records) (samples : List ℤ) (runs : List Run) : Type 0 where
  pub none_empty : All (λ run. run.start < run.end) runs
  pub each_fits : All (λ run. IsRun (FitsIn run.kind records) samples run.start run.end) runs
  pub joined : Joins 0 runs (length samples)

-- no packing of the segment has fewer runs
abbrev pub IsLeast : Records → List ℤ → List Run → Type 0
IsLeast records samples runs = (other : List Run) → IsPacking records samples other → length runs ≤ length other

-- no run that fits a record of some kind holds both samples
pub record NoneHolds (records : Records) (samples : List ℤ) (p q : ℕ) : Type 0 where
  pub none : (a b : ℕ) → IsRun (FitsAny records) samples a b → a ≤ p → p < b → a ≤ q → q < b → ⊥

-- strictly rising sample numbers of the segment, of which no run that fits holds two
pub record IsSeparating (records : Records) (samples : List ℤ) (separators : List ℕ) : Type 0 where
  pub rising : (i j : ℕ) → i < j → j < length separators → slice_index separators i < slice_index separators j
  pub within : All (λ s. s < length samples) separators
  pub apart : (i j : ℕ) → i < j → j < length separators
      → NoneHolds records samples (slice_index separators i) (slice_index separators j)

-- from the frontier g one record more reaches h, and no run that starts at or before g reaches further; a is the last
-- start from which h is reached
pub record IsStep (fits : List (ℤ × ℤ) → Type 0) (samples : List ℤ) (g h a : ℕ) : Type 0 where
  pub before : a ≤ g
  pub reached : IsRun fits samples a h
  pub furthest : (s b : ℕ) → s ≤ g → IsRun fits samples s b → b ≤ h
  pub last : (s : ℕ) → s ≤ g → IsRun fits samples s h → s ≤ a

-- runs and separators, step by step from the frontier g to the frontier `end`
abbrev pub CanonicalTo : Records → List ℤ → ℕ → List Run → List ℕ → ℕ → Type 0
CanonicalTo records samples g [] [] end = g ≡ end
CanonicalTo records samples g [] (s ∷ separators) end = ⊥
CanonicalTo records samples g (run ∷ runs) [] end = ⊥
CanonicalTo records samples g (run ∷ runs) (s ∷ separators) end =
    (h : ℕ) × (s ≡ g) × (g < length samples) × IsStep (FitsAny records) samples g h run.start ×
    IsFirstKind records (run_points samples run.start run.end) run.kind
    × CanonicalTo records samples h runs separators end

-- the one packing, with its separators, that is written
abbrev pub IsCanonical : Records → List ℤ → List Run → List ℕ → Type 0
IsCanonical records samples runs separators = CanonicalTo records samples 0 runs separators (length samples)
    × Joins 0 runs (length samples)
