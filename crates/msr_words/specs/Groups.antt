-- How many differences share one Steim-2 word (SEED 2.4, appendix B).
use Rattle.std.specs.Prelude.{◌≡◌, ℕ, ◌+◌, ◌<◌, ◌≤◌, ◌↔◌, ℤ, List, [], length, take, drop, sum, slice_index, Some}
use Rattle.msr_base.specs.declared.storage.Version.TheVariants.{Two}
use Rattle.msr_steim.specs.Word.{FitsBits, IsGroup, group_width}

-- of differences that are each of the size of `d`, at most `capacity` have room in one Steim-2 word
pub record IsCapacity (d : ℤ) (capacity : ℕ) : Type 0 where
  pub most : capacity ≤ 7
  pub exact : (n width : ℕ) → group_width Two n ≡ Some width → (FitsBits width d ↔ n ≤ capacity)

-- as many of the differences, from the first on, as stand together in one Steim-2 word
pub record IsLongestGroup (ds : List ℤ) (count : ℕ) : Type 0 where
  pub within : count ≤ length ds
  pub group : 0 < count → IsGroup Two (take count ds)
  pub no_more : count < length ds → IsGroup Two (take (count + 1) ds) → ⊥

-- r is 1 if the size is below the limit, else 0
pub record IsOneBelow (size limit r : ℕ) : Type 0 where
  pub most : r ≤ 1
  pub below : 1 ≤ r ↔ size < limit

-- the sizes of groups that divide these differences, each the longest that can stand in a word with what is left
pub record AreGroupSizes (ds : List ℤ) (sizes : List ℕ) : Type 0 where
  pub all : sum sizes ≡ length ds
  pub each : (number : ℕ) → number < length sizes
      → IsLongestGroup (drop (sum (take number sizes)) ds) (slice_index sizes number)
  pub some : (number : ℕ) → number < length sizes → 0 < slice_index sizes number

-- the sizes are told, or it is not known what they are (an empty list)
pub record AreGroupSizesIfKnown (ds : List ℤ) (sizes : List ℕ) : Type 0 where
  pub known : (sizes ≡ [] → ⊥) → AreGroupSizes ds sizes
