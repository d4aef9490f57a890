-- What the differences of a run tell of the records that hold it.
use Rattle.std.specs.Prelude.{◌≡◌, ℕ, zero, suc, ◌+◌, ◌-◌, ◌*◌, ◌^◌, ◌≤◌, ◌<◌, ◌↔◌, min, ℤ, pos, negsuc, Bool, not, nat_lt, List, ◌∷◌, length, map, take, drop, count_by, get_or, slice_index_or, All}
use Rattle.std.specs.List.{AllByRecursion}
use Rattle.msr_base.specs.declared.storage.Version.{Version}
use Rattle.msr_base.specs.declared.storage.Version.TheVariants.{One, Two}
use Rattle.msr_steim.specs.Word.{FitsBits}
use Rattle.msr_base.specs.declared.kinds.Kind.{Kind}
use Rattle.msr_base.specs.declared.kinds.Kind.TheVariants.{Steim2}
use Rattle.msr_words.specs.Division.{CanDivide}
use Rattle.msr_words.specs.Fit.{Fits, IsRun}
use Rattle.msr_words.specs.Groups.{IsLongestGroup}
use Rattle.msr_words.specs.Laws.{IsNarrow, most_of}
use Rattle.msr_base.specs.RecordLength.{words_of}
use Rattle.msr_words.specs.Segment.{run_points}

-- whether it is a number of `width` bits
abbrev pub is_of_bits : ℕ → ℤ → Bool
is_of_bits width (pos n) = nat_lt n (2 ^ (width - 1))
is_of_bits width (negsuc n) = nat_lt n (2 ^ (width - 1))

-- whether a difference is of more than 10 bits
abbrev pub is_wide : ℤ → Bool
is_wide d = not (is_of_bits 10 d)

-- whether a difference is of more than 15 bits
abbrev pub is_very_wide : ℤ → Bool
is_very_wide d = not (is_of_bits 15 d)

-- no word holds more than two differences of more than 10 bits
abbrev pub WideLaw : Type 0
WideLaw = (version : Version) (words : ℕ) (ds : List ℤ) → CanDivide version words ds → count_by is_wide ds ≤ 2 * words

-- a Steim-2 word has room for two differences of more than 10 bits, or for one of more than 15
abbrev pub HalvesLaw : Type 0
HalvesLaw = (words : ℕ) (ds : List ℤ) → CanDivide Two words ds
    → count_by is_wide ds + count_by is_very_wide ds ≤ 2 * words

-- the first four differences share one Steim-1 word
pub record BeginsWithFour (ds : List ℤ) : Type 0 where
  pub enough : 4 ≤ length ds
  pub small : AllByRecursion (FitsBits 8) (take 4 ds)

-- a larger one that has room for the first of four of 8 bits beside it
pub record IsBeforeFour (ds : List ℤ) : Type 0 where
  pub large : FitsBits 8 (get_or ds 0 (pos 0)) → ⊥
  pub room : FitsBits 16 (get_or ds 0 (pos 0))
  pub four : BeginsWithFour (drop 1 ds)

-- the first difference of a Steim-1 record can be left out, unless it shares a word with three others
abbrev pub LookBackLaw : Type 0
LookBackLaw = (words : ℕ) (d : ℤ) (ds : List ℤ) → (BeginsWithFour (d ∷ ds) → ⊥) → CanDivide One words (d ∷ ds)
    → CanDivide One words ds

-- the greatest end of a run of that kind from a
pub record IsEnd (kind : Kind) (bytes : ℕ) (samples : List ℤ) (a end : ℕ) : Type 0 where
  pub fits : IsRun (Fits kind bytes) samples a end
  pub furthest : (b : ℕ) → IsRun (Fits kind bytes) samples a b → b ≤ end

-- from the same start each shorter run fits too, and no longer one does
abbrev pub EndLaw : Type 0
EndLaw = (kind : Kind) (bytes : ℕ) (samples : List ℤ) (a end : ℕ) → IsEnd kind bytes samples a end → (c : ℕ)
    → a ≤ c → (IsRun (Fits kind bytes) samples a c ↔ c ≤ end)

-- the first `reach` differences stand in `words` words, each with the longest group from the place
-- on at which the one before it ended
abbrev pub IsGreedyReach : ℕ → List ℤ → ℕ → Type 0
IsGreedyReach zero ds reach = reach ≡ 0
IsGreedyReach (suc words) ds reach = (count : ℕ) × (rest : ℕ) × IsLongestGroup ds count
    × IsGreedyReach words (drop count ds) rest × (reach ≡ count + rest)

-- no record of that kind that starts at g ends later
abbrev pub latest_end : Kind → ℕ → List ℤ → ℕ → ℕ
latest_end kind bytes samples g = min (length samples) (g + most_of kind bytes)

-- no Steim-2 record that starts at or before g reaches further than the longest groups from g on, of no more
-- differences than a record has
abbrev pub GreedyLaw : Type 0
GreedyLaw = (bytes : ℕ) (samples : List ℤ) (g reach : ℕ) → g ≤ length samples
    → IsGreedyReach (words_of bytes) (map (λ p. p.1) (run_points samples g (latest_end Steim2 bytes samples g))) reach →
    IsRun (Fits Steim2 bytes) samples g (g + reach)
    × ((s b : ℕ) → s ≤ g → IsRun (Fits Steim2 bytes) samples s b → b ≤ g + reach)

-- The runs that fit this kind are those of numbers of that many bits that are no longer than its longest.
pub record AreIntegers (kind : Kind) (bits bytes : ℕ) : Type 0 where
  pub takes : (run : List (ℤ × ℤ)) → All (λ p. FitsBits bits p.0) run → length run ≤ most_of kind bytes
      → Fits kind bytes run
  pub needs : (run : List (ℤ × ℤ)) → Fits kind bytes run → All (λ p. FitsBits bits p.0) run

-- as many of the samples, from the first on, as are of that many bits
pub record AreLeading (bits : ℕ) (samples : List ℤ) (count : ℕ) : Type 0 where
  pub within : count ≤ length samples
  pub all : All (FitsBits bits) (take count samples)
  pub no_more : count < length samples → FitsBits bits (slice_index_or samples count (pos 0)) → ⊥

-- the differences of the samples a to b-1 are narrow
pub record AreNarrow (samples : List ℤ) (a b : ℕ) : Type 0 where
  pub all : All (λ p. IsNarrow p.1) (run_points samples a b)

-- and that of the sample b, if there is one
abbrev pub AreNarrowThrough : List ℤ → ℕ → ℕ → Type 0
AreNarrowThrough samples a b = AreNarrow samples a (min (b + 1) (length samples))
