-- The differences of a stretch of samples, taken together.
use Rattle.std.specs.Prelude.{◌≡◌, ◌<◌, ◌≤◌, ◌↔◌, ℕ, ◌+◌, ◌-◌, ◌^◌, ℤ, pos, List, length, get_or}
use Rattle.std.specs.Int.{int_wrap, w32}
use Rattle.msr_steim.specs.Word.{FitsBits}
use Rattle.msr_words.specs.Segment.{difference_at}

-- `size` is the size of `d`: `d` is of `width` bits exactly if `size` is below half the power
abbrev pub IsSize : ℤ → ℕ → Type 0
IsSize d size = (width : ℕ) → (FitsBits width d ↔ size < 2 ^ (width - 1))

-- what is kept of a difference: its size and, cut to 32 bits, itself
pub record IsTaken (d : ℤ) (size : ℕ) (kept : ℤ) : Type 0 where
  pub size_is : IsSize d size
  pub cut : kept ≡ int_wrap w32 d

-- the first `count` places have the differences of the samples from `first` on
pub record AreTaken (samples : List ℤ) (first count : ℕ) (sizes : List ℕ) (kept : List ℤ) : Type 0 where
  pub each : (k : ℕ) → k < count → IsTaken (difference_at samples (first + k)) (get_or sizes k 0)
      (get_or kept k (pos 0))

-- from a place on there are the first seven of these differences
pub record AreSeen (ds : List ℤ) (sizes : List ℕ) (kept : List ℤ) (place : ℕ) : Type 0 where
  pub long : 7 ≤ length ds
  pub each : (k : ℕ) → k < 7 → IsTaken (get_or ds k (pos 0)) (get_or sizes (place + k) 0)
      (get_or kept (place + k) (pos 0))

-- What contracts see of a window: the samples from `first` to `end - 1`, the size of the difference of each and the
-- difference itself, cut to 32 bits. For each sample before `until` it has those of the next six, too.
pub record Stretch : Type 0 where
  pub first : ℕ
  pub end : ℕ
  pub until : ℕ
  pub sizes : List ℕ
  pub kept : List ℤ

-- from this place on the window has the first seven of these differences
abbrev pub Shows : Stretch → List ℤ → ℕ → Type 0
Shows window ds place = AreSeen ds window.sizes window.kept place

-- a window of these samples that begins at the sample `at` or before it
pub record IsWindow (samples : List ℤ) (at : ℕ) (window : Stretch) : Type 0 where
  pub before : window.first ≤ at
  pub within : window.end ≤ length samples
  pub most : window.end ≤ window.first + 64
  pub whole : window.first < window.end → window.end ≡ window.first + 64
  pub until : window.until ≤ window.end - 6
  pub later : window.first < window.end → 0 < window.first
  pub taken : AreTaken samples window.first (window.end - window.first) window.sizes window.kept
