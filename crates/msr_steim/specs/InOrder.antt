-- The samples of an area in order, one word after the other.
use Rattle.std.specs.Prelude.{◌≡◌, ◌↔◌, ℕ, zero, suc, ◌-◌, ◌/◌, ◌^◌, ℤ, Bool, List, [], ◌++◌, IsTrue, length, Option, Some, None}
use Rattle.std.specs.Iterator.{YieldsFirst}
use Rattle.msr_base.specs.declared.order.Order.{Order}
use Rattle.msr_steim.specs.declared.borrowed.Fields.{Fields}
use Rattle.msr_steim.specs.declared.word.WordLayout.{WordLayout}
use Rattle.msr_base.specs.declared.storage.Version.{Version}
use Rattle.msr_steim.specs.Area.{CarriesSteim, ReverseAgrees, arranged_word, constant, samples_of, sums_after, word_code, word_count}
use Rattle.msr_steim.specs.Word.{layout_of, numbers_in}

-- the numbers in the fields of a word that is laid out so; an undefined word has none
abbrev pub numbers_of : Option WordLayout → ℕ → List ℤ
numbers_of None word = []
numbers_of (Some layout) word = numbers_in word layout.width layout.count

-- how the word with this number is laid out
abbrev pub word_layout : Version → Order → List ℕ → ℕ → Option WordLayout
word_layout version order area number =
    layout_of version (word_code order area number)
    (arranged_word version order (word_code order area number) area number / 2 ^ 30)

-- the differences of the word with this number
unfoldable pub word_differences : Version → Order → List ℕ → ℕ → List ℤ
word_differences version order area number =
    numbers_of (word_layout version order area number)
    (arranged_word version order (word_code order area number) area number)

-- the differences that the given number of words hold, from this word on
abbrev pub differences_of : Version → Order → List ℕ → ℕ → ℕ → List ℤ
differences_of version order area number zero = []
differences_of version order area number (suc words) =
    word_differences version order area number ++ differences_of version order area (suc number) words

-- the differences of the words from this one on
abbrev pub differences_from : Version → Order → List ℕ → ℕ → List ℤ
differences_from version order area number = differences_of version order area number (word_count area - number)

-- the word with this number has these fields
pub record HasFields (version : Version) (order : Order) (area : List ℕ) (number : ℕ) (fields : Fields) : Type 0 where
  pub word_is : fields.word ≡ arranged_word version order (word_code order area number) area number
  pub layout_is : word_layout version order area number
      ≡ Some (record { count = fields.count; width = fields.width })

-- The area carries `count` samples. `agrees` says whether the last of them is the reverse constant.
pub record CarriesCount (version : Version) (order : Order) (area : List ℕ) (count : ℕ) (agrees : Bool) : Type 0 where
  pub samples : List ℤ
  pub carried : CarriesSteim version order area samples
  pub count_is : length samples ≡ count
  pub reverse : IsTrue agrees ↔ ReverseAgrees order area samples

-- the first difference is added to this, so that the first sample is the forward constant
pub record BeginsAfter (version : Version) (order : Order) (area : List ℕ) (before : ℤ) : Type 0 where
  pub sums : samples_of (constant order area 1) (differences_from version order area 0)
      ≡ sums_after before (differences_from version order area 0)

-- what an iterator leaves: these samples, and whether the last one of the area is the reverse constant
pub record SamplesLeft : Type 0 where
  pub samples : List ℤ
  pub agrees : Bool

-- `next` gives the first sample that is left, and leaves the others
abbrev pub GivesFirst : SamplesLeft → Option ℤ → SamplesLeft → Type 0
GivesFirst old given new = YieldsFirst (λ left. left.samples) old given new × (new.agrees ≡ old.agrees)
