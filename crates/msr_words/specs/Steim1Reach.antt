-- How many differences some Steim-1 words hold, from the first on, as many as can.
use Rattle.std.specs.Prelude.{◌≡◌, ◌<◌, ◌≤◌, ◌+◌, ◌-◌, ◌⊎◌, ◌↔◌, ℕ, suc, ℤ, pos, Bool, true, IsTrue, List, length, take, drop, reverse, slice_index_or}
use Rattle.msr_base.specs.declared.storage.Version.TheVariants.{One}
use Rattle.msr_steim.specs.Word.{FitsBits}
use Rattle.msr_words.specs.Counts.{AtMost}
use Rattle.msr_words.specs.Division.{CanDivide}

-- there is a difference at this place, and it is of that many bits
abbrev pub IsOfBitsAt : List ℤ → ℕ → ℕ → Type 0
IsOfBitsAt ds at width = (at < length ds) × FitsBits width (slice_index_or ds at (pos 0))

-- the first `count` differences stand in at most `words` words that others may follow: none of
-- these holds three
abbrev pub StandIn : ℕ → List ℤ → ℕ → Type 0
StandIn words ds count = AtMost One words (reverse (take count ds))

-- `words` words hold the first `reach` differences, and no more. `spare` says that the last is of 8
-- bits, and that the words hold those before it, too: it may then stand in the next word.
pub record IsSteim1Reach (words : ℕ) (ds : List ℤ) (reach : ℕ) (spare : Bool) : Type 0 where
  pub within : reach ≤ length ds
  pub stand : StandIn words ds reach
  pub furthest : (n : ℕ) → n ≤ length ds → StandIn words ds n → n ≤ reach
  pub spare_is : IsTrue spare ↔ (0 < reach) × IsOfBitsAt ds (reach - 1) 8 × StandIn words ds (reach - 1)

-- the first three are of 8 bits
abbrev pub BeginsWithThree : List ℤ → Type 0
BeginsWithThree ds = IsOfBitsAt ds 0 8 × IsOfBitsAt ds 1 8 × IsOfBitsAt ds 2 8

-- The next word reaches `size` of the differences that are left: four of 8 bits; three, with a
-- spare one before them; two of 16 bits; one of 32 bits; or none. `after` says whether the last of
-- them is spare in turn.
pub record IsSteim1Word (ds : List ℤ) (spare : Bool) (size : ℕ) (after : Bool) : Type 0 where
  pub which :
      ((size ≡ 4) × BeginsWithThree ds × IsOfBitsAt ds 3 8 × (after ≡ spare))
      ⊎ (((size ≡ 3) × BeginsWithThree ds × (IsOfBitsAt ds 3 8 → ⊥) × IsTrue spare × IsTrue after)
      ⊎ (((size ≡ 2) × IsOfBitsAt ds 0 16 × IsOfBitsAt ds 1 16
      × (BeginsWithThree ds → (IsOfBitsAt ds 3 8 → ⊥) × (IsTrue spare → ⊥)) × (IsTrue after ↔ IsOfBitsAt ds 1 8))
      ⊎ (((size ≡ 1) × IsOfBitsAt ds 0 32 × (IsOfBitsAt ds 0 16 → IsOfBitsAt ds 1 16 → ⊥)
      × (IsTrue after ↔ IsOfBitsAt ds 0 8))
      ⊎ ((size ≡ 0) × (IsOfBitsAt ds 0 32 → ⊥)))))

-- one word more
abbrev pub Steim1WordLaw : Type 0
Steim1WordLaw = (words : ℕ) (ds : List ℤ) (reach size : ℕ) (spare after : Bool) → IsSteim1Reach words ds reach spare
    → IsSteim1Word (drop reach ds) spare size after → 0 < size → IsSteim1Reach (suc words) ds (reach + size) after

-- `words` words hold the first `reach` differences, and no more; the last word may hold three
pub record IsSteim1End (words : ℕ) (ds : List ℤ) (reach : ℕ) : Type 0 where
  pub within : reach ≤ length ds
  pub fits : CanDivide One words (take reach ds)
  pub furthest : (n : ℕ) → n ≤ length ds → CanDivide One words (take n ds) → n ≤ reach

-- the last word: it may hold three with no spare one before them
abbrev pub Steim1LastLaw : Type 0
Steim1LastLaw = (words : ℕ) (ds : List ℤ) (reach size : ℕ) (spare after : Bool) → IsSteim1Reach words ds reach spare
    → IsSteim1Word (drop reach ds) true size after → IsSteim1End (suc words) ds (reach + size)

-- if the next word reaches no further, more words do not either
abbrev pub Steim1StopLaw : Type 0
Steim1StopLaw = (words more : ℕ) (ds : List ℤ) (reach : ℕ) (spare after : Bool) → IsSteim1Reach words ds reach spare
    → IsSteim1Word (drop reach ds) spare 0 after → words ≤ more → IsSteim1End more ds reach
