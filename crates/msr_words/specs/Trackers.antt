-- What contracts see of a tracker, and what that says of the samples pushed so far.
use Rattle.std.specs.Prelude.{◌≡◌, ◌==◌, ℕ, ◌+◌, ◌*◌, ◌≤◌, ℤ, List, ◌++◌, suc, ◌↔◌, cond, length, map, All, IsTrue, IsFalse, Bool, Some, reverse}
use Rattle.msr_steim.specs.Word.{FitsBits, group_width}
use Rattle.msr_base.specs.declared.storage.Version.TheVariants.{One, Two}
use Rattle.msr_base.specs.declared.storage.Width.{Width}
use Rattle.msr_base.specs.declared.storage.Width.TheVariants.{Two as TwoBytes, Three as ThreeBytes, Four as FourBytes}
use Rattle.msr_words.specs.declared.counts.LeastCounts.{LeastCounts}
use Rattle.msr_words.specs.Division.{CanDivide}
use Rattle.msr_words.specs.AreCounts.{AreCounts}
use Rattle.msr_base.specs.declared.kinds.Kind.{Kind}
use Rattle.msr_base.specs.declared.kinds.Kind.TheVariants.{Int16, Int24, Int32, Steim2}
use Rattle.msr_words.specs.Fit.{Fits, most_counted}
use Rattle.msr_words.specs.Laws.{most_of}
use Rattle.msr_base.specs.RecordLength.{words_of}

-- the width of integers of 16 bits, of 24, or else of 32
abbrev pub width_of : ℕ → Width
width_of bits = cond (bits == 16) TwoBytes (cond (bits == 24) ThreeBytes FourBytes)

-- the kind of integers of a width
abbrev pub integers : Width → Kind
integers TwoBytes = Int16
integers ThreeBytes = Int24
integers FourBytes = Int32

-- Of a tracker of integers: how many more samples a record has room for, and whether all fit so far.
pub record IntegersSoFar : Type 0 where
  pub left : ℕ
  pub fits : Bool

-- `left` more of these integers may come while the run fits
pub record FollowsIntegers (kind : Kind) (bytes : ℕ) (run : List (ℤ × ℤ)) (it : IntegersSoFar) : Type 0 where
  pub so_far : IsTrue it.fits → Fits kind bytes run
  pub room : IsTrue it.fits → length run + it.left ≡ most_of kind bytes
  pub past : IsFalse it.fits → Fits kind bytes run → ⊥

-- Of a tracker of Steim-2: the words left after the open one, the differences in that one, how many as large as the
-- greatest of them it has room for, how many samples more a record has at most, and whether all fit so far.
pub record Steim2SoFar : Type 0 where
  pub left : ℕ
  pub count : ℕ
  pub most : ℕ
  pub more : ℕ
  pub fits : Bool

-- What still fits depends on the open group alone: its differences, of which as many as `most` have room in one word,
-- and the words left. A record has `more` samples more at most.
pub record FollowsSteim2 (bytes : ℕ) (run : List (ℤ × ℤ)) (it : Steim2SoFar) : Type 0 where
  pub group : List ℤ
  pub size : length group ≡ it.count
  pub room : it.count ≤ it.most
  pub limit : it.most ≤ 7
  pub bits : (n width : ℕ) → group_width Two n ≡ Some width → (All (FitsBits width) group ↔ n ≤ it.most)
  pub so_far : IsTrue it.fits → (tail : List ℤ) →
      (CanDivide Two (words_of bytes) (map (λ p. p.1) run ++ tail) ↔ CanDivide Two (suc it.left) (group ++ tail))
  pub number : IsTrue it.fits → length run + it.more ≡ most_of Steim2 bytes
  pub past : IsFalse it.fits → Fits Steim2 bytes run → ⊥

-- Of a tracker of Steim-1: the words of a record, the least numbers of groups, and whether all fit so far.
pub record Steim1SoFar : Type 0 where
  pub words : ℕ
  pub counts : LeastCounts
  pub fits : Bool

-- The least counts are those of the differences, the newest first. No division into `words` words
-- has more differences than can be counted.
pub record FollowsSteim1 (words : ℕ) (ds : List ℤ) (it : Steim1SoFar) : Type 0 where
  pub words_is : it.words ≡ words
  pub countable : 4 * words ≤ most_counted
  pub counted : IsTrue it.fits → AreCounts words (reverse ds) it.counts
  pub past : IsFalse it.fits → CanDivide One words ds → ⊥
