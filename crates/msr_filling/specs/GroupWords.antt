-- The words of groups whose sizes are told (SEED 2.4, appendix B).
use Rattle.std.specs.Prelude.{◌≡◌, ℕ, ◌<◌, ℤ, List, [], length, take, drop, sum, slice_index}
use Rattle.msr_base.specs.declared.storage.Version.TheVariants.{Two}
use Rattle.msr_steim.specs.Word.{group_word}

-- for each group of these sizes, one after another, its Steim-2 word
pub record AreGroupWords (ds : List ℤ) (sizes words : List ℕ) : Type 0 where
  pub number : length words ≡ length sizes
  pub each : (k : ℕ) → k < length sizes
      → slice_index words k ≡ group_word Two (take (slice_index sizes k) (drop (sum (take k sizes)) ds))

-- the words are told, or it is not known what they are (an empty list)
pub record AreGroupWordsIfKnown (ds : List ℤ) (sizes words : List ℕ) : Type 0 where
  pub known : (words ≡ [] → ⊥) → AreGroupWords ds sizes words
