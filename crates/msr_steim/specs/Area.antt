-- The samples that a data area of Steim frames carries (SEED 2.4, appendix B).
use Rattle.std.specs.Prelude.{◌≡◌, ◌<◌, ◌≤◌, ◌==◌, ◌||◌, nat_lt, ℕ, ◌+◌, ◌-◌, ◌*◌, ◌/◌, ◌%◌, ◌^◌, ℤ, ◌+ℤ◌, List, [], ◌∷◌, length, take, drop, slice_index_or, slice_get, flat_map, Some, if◌then◌else◌}
use Rattle.std.specs.Int.{int_wrap, cast_signed, w32}
use Rattle.byteorder.specs.Endian.{big_number, little_number}
use Rattle.msr_base.specs.declared.order.Order.{Order}
use Rattle.msr_base.specs.declared.order.Order.TheVariants.{Big, Little}
use Rattle.msr_base.specs.declared.storage.Version.{Version}
use Rattle.msr_base.specs.declared.storage.Version.TheVariants.{One, Two}
use Rattle.msr_steim.specs.Word.{Holds, IsUndefinedWord}
use Rattle.msr_steim.specs.declared.area.SteimFault.{SteimFault}
use Rattle.msr_steim.specs.declared.area.SteimFault.TheVariants.{DataShort, BadCode, Memory}

-- how many words stand in the whole frames of 64 bytes; a rest is ignored
abbrev pub word_count : List ℕ → ℕ
word_count area = length area / 64 * 16

-- the word with this number, from 0, as one 32-bit number
abbrev pub whole_word : Order → List ℕ → ℕ → ℕ
whole_word Big area number = big_number 4 (drop (4 * number) area)
whole_word Little area number = little_number 4 (drop (4 * number) area)

-- the two-bit code of a word: the first word of its frame has the codes of all sixteen, the first in
-- its highest bits. That word and the two constants of the first frame have no differences, as if their
-- code was 0.
abbrev pub word_code : Order → List ℕ → ℕ → ℕ
word_code order area number =
    if nat_lt number 3 || number % 16 == 0 then 0
    else whole_word order area (number / 16 * 16) / 2 ^ (30 - 2 * (number % 16)) % 4

-- The word with this number as a big-endian frame has it. In a little-endian frame each number that
-- stands in whole bytes is little-endian by itself: four of one byte, two of two, else one of four.
abbrev pub arranged_word : Version → Order → ℕ → List ℕ → ℕ → ℕ
arranged_word version Big code area number = whole_word Big area number
arranged_word One Little code area number =
    if code == 1 then whole_word Big area number
    else if code == 2 then
    little_number 2 (drop (4 * number) area) * 2 ^ 16 + little_number 2 (drop (4 * number + 2) area)
    else whole_word Little area number
arranged_word Two Little code area number =
    if code == 1 then whole_word Big area number else whole_word Little area number

-- the word with this number holds these differences
abbrev pub WordHolds : Version → Order → List ℕ → ℕ → List ℤ → Type 0
WordHolds version order area number =
    Holds version (word_code order area number) (arranged_word version order (word_code order area number) area number)

-- the word with this number is undefined
abbrev pub IsUndefined : Version → Order → List ℕ → ℕ → Type 0
IsUndefined version order area number =
    IsUndefinedWord version (word_code order area number)
    (arranged_word version order (word_code order area number) area number)

-- the first words hold these groups, one each
pub record FirstWordsHold (version : Version) (order : Order) (area : List ℕ) (groups : List (List ℤ)) : Type 0 where
  pub within : length groups ≤ word_count area
  pub each : (number : ℕ) → number < length groups
      → WordHolds version order area number (slice_index_or groups number [])

-- the differences of some groups, one group after the other
abbrev pub joined_groups : List (List ℤ) → List ℤ
joined_groups groups = flat_map (λ group. group) groups

-- a constant of the first frame: word 1 is the first sample, word 2 the last
abbrev pub constant : Order → List ℕ → ℕ → ℤ
constant order area number = cast_signed w32 (whole_word order area number)

-- each sample is the one before and its difference, modulo 2 ^ 32
abbrev pub sums_after : ℤ → List ℤ → List ℤ
sums_after before [] = []
sums_after before (d ∷ ds) = int_wrap w32 (before +ℤ d) ∷ sums_after (int_wrap w32 (before +ℤ d)) ds

-- the samples, from the first one and a difference for each: the first difference is not used
abbrev pub samples_of : ℤ → List ℤ → List ℤ
samples_of first [] = []
samples_of first (d ∷ ds) = first ∷ sums_after first ds

-- The area carries these samples: its first words, as many as it takes, hold a difference for each, the
-- first sample is the forward constant, and the others are sums. What the words hold beyond the last
-- sample, and the words after them, are not looked at.
pub record CarriesSteim (version : Version) (order : Order) (area : List ℕ) (samples : List ℤ) : Type 0 where
  pub groups : List (List ℤ)
  pub held : FirstWordsHold version order area groups
  pub enough : length samples ≤ length (joined_groups groups)
  pub sums : samples ≡ take (length samples) (samples_of (constant order area 1) (joined_groups groups))

-- the last of these samples is the reverse constant, word 2
abbrev pub ReverseAgrees : Order → List ℕ → List ℤ → Type 0
ReverseAgrees order area samples = slice_get samples (length samples - 1) ≡ Some (constant order area 2)

-- each word holds a list, and together they have fewer differences than this
pub record EndsBefore (version : Version) (order : Order) (area : List ℕ) (count : ℕ) : Type 0 where
  pub groups : List (List ℤ)
  pub held : FirstWordsHold version order area groups
  pub all : length groups ≡ word_count area
  pub few : length (joined_groups groups) < count

-- the word with this number is undefined, and those before it hold lists with fewer differences than this
pub record IsUndefinedBefore (version : Version) (order : Order) (area : List ℕ) (count number : ℕ) : Type 0 where
  pub groups : List (List ℤ)
  pub held : FirstWordsHold version order area groups
  pub first : length groups ≡ number
  pub within : number < word_count area
  pub few : length (joined_groups groups) < count
  pub undefined : IsUndefined version order area number

-- why the area does not carry `count` samples: its words end first, or an undefined word comes first
abbrev pub HasFault : Version → Order → List ℕ → ℕ → SteimFault → Type 0
HasFault version order area count DataShort = EndsBefore version order area count
HasFault version order area count (BadCode number) = IsUndefinedBefore version order area count number
HasFault version order area count Memory = ⊥
