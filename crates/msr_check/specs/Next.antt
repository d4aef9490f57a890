-- Separators beside those before them.
use Rattle.std.specs.Prelude.{ℕ, ◌-◌, ◌<◌, ℤ, List, length, slice_index}
use Rattle.msr_words.specs.Fit.{Records}
use Rattle.msr_words.specs.Packing.{NoneHolds}

-- the i-th is a sample of the segment, after the one before it, and no run that fits holds both
pub record IsNextSeparator (records : Records) (samples : List ℤ) (separators : List ℕ) (i : ℕ) : Type 0 where
  pub within : slice_index separators i < length samples
  pub apart : 0 < i → (slice_index separators (i - 1) < slice_index separators i)
      × NoneHolds records samples (slice_index separators (i - 1)) (slice_index separators i)

-- the first `count` of the list are separating
pub record SeparatingTo (records : Records) (samples : List ℤ) (separators : List ℕ) (count : ℕ) : Type 0 where
  pub rising : (i j : ℕ) → i < j → j < count → slice_index separators i < slice_index separators j
  pub within : (i : ℕ) → i < count → slice_index separators i < length samples
  pub apart : (i j : ℕ) → i < j → j < count
      → NoneHolds records samples (slice_index separators i) (slice_index separators j)
