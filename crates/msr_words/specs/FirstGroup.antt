-- The first Steim-1 group of some differences, by the least number of groups after it.
use Rattle.std.specs.Prelude.{◌≡◌, ◌<◌, ◌≤◌, ◌==◌, ◌↔◌, ◌⊎◌, ◌-◌, ◌^◌, ℕ, ℤ, pos, List, length, take, drop, slice_index, slice_index_or}
use Rattle.msr_base.specs.declared.storage.Version.TheVariants.{One}
use Rattle.msr_steim.specs.Word.{FitsBits, IsGroupAt}
use Rattle.msr_words.specs.Division.{CanDivide}

-- the least number of groups of these differences
pub record IsFewestGroups (ds : List ℤ) (number : ℕ) : Type 0 where
  pub can : CanDivide One number ds
  pub fewest : (n : ℕ) → CanDivide One n ds → number ≤ n

-- After a first group of `size` differences, `after` is the least number of groups of the others.
-- No other first group leaves fewer, and no longer one leaves as few.
pub record IsFirstGroup (ds : List ℤ) (size after : ℕ) : Type 0 where
  pub within : size ≤ length ds
  pub group : IsGroupAt One (size == length ds) (take size ds)
  pub left : IsFewestGroups (drop size ds) after
  pub best : (other n : ℕ) → other ≤ length ds → IsGroupAt One (other == length ds) (take other ds)
      → CanDivide One n (drop other ds) → (after ≤ n) × (n ≤ after → other ≤ size)

-- the canonical division of these differences begins with a group of this size
abbrev pub IsCanonicalFirst : List ℤ → ℕ → Type 0
IsCanonicalFirst ds size = (after : ℕ) × IsFirstGroup ds size after

-- for each difference the size of the group with which the canonical division begins there
pub record AreSizes (ds : List ℤ) (from : ℕ) (sizes : List ℕ) : Type 0 where
  pub long : length sizes ≡ length ds
  pub each : (at : ℕ) → from ≤ at → at < length ds → IsCanonicalFirst (drop at ds) (slice_index sizes at)

-- these are the `count` differences that `gives` relates to their places
pub record AreGiven (gives : ℕ → ℤ → Type 0) (count : ℕ) (ds : List ℤ) : Type 0 where
  pub long : length ds ≡ count
  pub each : (at : ℕ) (d : ℤ) → at < count → gives at d → d ≡ slice_index_or ds at (pos 0)

-- how large the difference at this place is, from 0: a number of `width` bits is below half the power; if there
-- is none, the size is above all of these
abbrev pub IsSizeAt : List ℤ → ℕ → ℕ → Type 0
IsSizeAt ds at size = (width : ℕ) → width ≤ 32
    → (size < 2 ^ (width - 1) ↔ (at < length ds) × FitsBits width (slice_index_or ds at (pos 0)))

-- Of the groups that can come first (one difference, two of this size, four of this size, or three of this size that
-- leave none) the one that leaves the fewest groups, and of these the longest.
pub record IsBest (all one two three pair triple four size after : ℕ) : Type 0 where
  pub single : after ≤ all
  pub of_two : pair < 32768 → (after ≤ one) × (one ≤ after → 2 ≤ size)
  pub of_three : triple < 128 → two ≡ 0 → (after ≡ 0) × (3 ≤ size)
  pub of_four : four < 128 → (after ≤ three) × (three ≤ after → 4 ≤ size)
  pub which : ((size ≡ 1) × (after ≡ all)) ⊎ (((size ≡ 2) × (pair < 32768) × (after ≡ one))
      ⊎ (((size ≡ 3) × (triple < 128) × (two ≡ 0) × (after ≡ 0)) ⊎ ((size ≡ 4) × (four < 128) × (after ≡ three))))

-- `fewest` is the least number of groups before the newest, which is one difference, two of this
-- size, or four of this size; if there is no such group, it is `words`.
pub record AreFewest (now one three size pair four words fewest : ℕ) : Type 0 where
  pub of_one : size < 2147483648 → fewest ≤ now
  pub of_two : pair < 32768 → fewest ≤ one
  pub of_four : four < 128 → fewest ≤ three
  pub which : ((size < 2147483648) × (fewest ≡ now))
      ⊎ (((pair < 32768) × (fewest ≡ one)) ⊎ (((four < 128) × (fewest ≡ three)) ⊎ (fewest ≡ words)))
