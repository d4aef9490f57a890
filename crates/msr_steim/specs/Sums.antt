-- The samples that one word gives, and the sums of a few numbers.
use Rattle.std.specs.Prelude.{◌≡◌, ◌<◌, ◌≤◌, ◌⊎◌, ℕ, ◌+◌, ◌-◌, ℤ, pos, ◌+ℤ◌, List, [], ◌∷◌, ◌++◌, length, take, slice_index_or}
use Rattle.msr_steim.specs.declared.sums.Progress.{Progress}
use Rattle.msr_base.specs.declared.storage.Version.{Version}
use Rattle.msr_steim.specs.Area.{sums_after}
use Rattle.msr_steim.specs.Word.{Holds, numbers_in}

-- The word holds a group, whose sums were written into the places from `at` on, as far as there are places. The
-- samples before `at` are those of the old list, and `next` is the place after the last one written.
pub record IsWritten (version : Version) (code word : ℕ) (at : Progress) (old new : List ℤ) (next : Progress) : Type 0 where
  pub group : List ℤ
  pub holds : Holds version code word group
  pub within : next.place ≤ length old
  pub samples : take next.place new ≡ take (length old) (take at.place old ++ sums_after at.last group)
  pub last : (0 < at.place → at.last ≡ slice_index_or old (at.place - 1) (pos 0))
      → 0 < next.place → next.last ≡ slice_index_or new (next.place - 1) (pos 0)

-- the sums of the fields of a word were written so, and a place is left after them
pub record IsGroupWritten (word count width : ℕ) (at : Progress) (old new : List ℤ) (next : Progress) : Type 0 where
  pub place : next.place ≡ at.place + count
  pub room : next.place < length old
  pub samples : take next.place new ≡ take (length old)
      (take at.place old ++ sums_after at.last (numbers_in word width count))
  pub last : next.last ≡ slice_index_or new (next.place - 1) (pos 0)

-- the sums of these differences were written from `at` on, and `next` is the place after the last
pub record AreSumsWritten (differences : List ℤ) (at : Progress) (old new : List ℤ) (next : Progress) : Type 0 where
  pub place : next.place ≡ at.place + length differences
  pub samples : take next.place new ≡ take at.place old ++ sums_after at.last differences
  pub last : next.last ≡ slice_index_or new (next.place - 1) (pos 0)

-- each sum is the one before and the next number
abbrev pub sums_from : ℤ → List ℤ → List ℤ
sums_from sum [] = []
sums_from sum (d ∷ ds) = (sum +ℤ d) ∷ sums_from (sum +ℤ d) ds

-- the samples of a word were written, and a place is left after them; if there are none, nothing has changed
pub record IsInnerWritten (version : Version) (code word : ℕ) (at : Progress) (old new : List ℤ)
    (next : Progress) : Type 0 where
  pub written : IsWritten version code word at old new next
  pub room : next.place < length old
  pub on : (next ≡ at) ⊎ (at.place < next.place)

-- the samples of a word take all places up to the end, or the word holds none
pub record ReachesEnd (version : Version) (code word place end : ℕ) : Type 0 where
  pub reaches : (group : List ℤ) → Holds version code word group → end ≤ place + length group
