-- The word that comes next when the groups of some differences are written.
use Rattle.std.specs.Prelude.{◌≡◌, ◌<◌, ◌≤◌, ◌+◌, ℕ, ℤ, List, [], length, take, drop, slice_index_or}
use Rattle.msr_base.specs.declared.storage.Version.{Version}
use Rattle.msr_steim.specs.Word.{group_code, group_word}
use Rattle.msr_words.specs.Canonical.{IsCanonicalDivision}
use Rattle.msr_filling.specs.declared.filling.SteimWord.{SteimWord}

-- the first of these groups has this size, and the others divide what is left; if there is none, the size is 0
pub record IsNextGroup (version : Version) (gs : List (List ℤ)) (ds : List ℤ) (size : ℕ) : Type 0 where
  pub group : slice_index_or gs 0 [] ≡ take size ds
  pub rest : IsCanonicalDivision version (drop 1 gs) (drop size ds)
  pub none : size ≡ 0 → length gs ≡ 0
  pub some : 0 < size → length gs ≡ length (drop 1 gs) + 1

-- it is taken for the word of a group of this size, by its code
pub record IsCoded (version : Version) (size : ℕ) (next : SteimWord) : Type 0 where
  pub size_is : next.size ≡ size
  pub code_is : next.code ≡ group_code version size
  pub small : next.code < 4

-- the word of the first group of these differences, if they can be divided at all
pub record IsNextWord (version : Version) (ds : List ℤ) (next : SteimWord) : Type 0 where
  pub within : next.size ≤ length ds
  pub follows : (gs : List (List ℤ)) → IsCanonicalDivision version gs ds → IsNextGroup version gs ds next.size
  pub code_is : next.code ≡ group_code version next.size
  pub small : next.code < 4
  pub word_is : next.word ≡ group_word version (take next.size ds)
