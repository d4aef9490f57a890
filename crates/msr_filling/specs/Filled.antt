-- The area that is filled with the words of a run.
use Rattle.std.specs.Prelude.{◌≡◌, ℕ, ◌-◌, ℤ, pos, List, Option, length, slice_index_or}
use Rattle.msr_base.specs.declared.storage.Version.{Version}
use Rattle.msr_steim.specs.Frames.{frame_bytes}
use Rattle.msr_words.specs.Canonical.{IsCanonicalDivision}
use Rattle.msr_words.specs.Segment.{differences}

-- the area is `frames` frames of the canonical groups of the run's differences, which are `number`
-- groups; the constants are the first and the last sample
pub record IsFilledArea (version : Version) (before : Option ℤ) (run : List ℤ) (frames : ℕ) (area : List ℕ)
    (number : ℕ) : Type 0 where
  pub groups : List (List ℤ)
  pub canonical : IsCanonicalDivision version groups (differences before run)
  pub bytes_are : area ≡ frame_bytes version (slice_index_or run 0 (pos 0))
      (slice_index_or run (length run - 1) (pos 0)) groups frames
  pub number_is : number ≡ length groups
