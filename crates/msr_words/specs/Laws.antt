-- The laws of a tracker. They hold for lists of any whole numbers.
use Rattle.std.specs.Prelude.{ℕ, ◌+◌, ◌-◌, ◌*◌, ◌/◌, ◌≤◌, max, min, if◌then◌else◌, ℤ, List, [], ◌++◌, length, drop, All}
use Rattle.msr_steim.specs.Word.{FitsBits}
use Rattle.msr_base.specs.declared.kinds.Kind.{Kind}
use Rattle.msr_base.specs.declared.kinds.Kind.TheVariants.{Int16, Int24, Int32, Steim1, Steim2}
use Rattle.msr_words.specs.Fit.{Records, most_counted}
use Rattle.msr_base.specs.declared.storage.Storage.{Storage}
use Rattle.msr_base.specs.declared.storage.Storage.TheVariants.{Integers, Frames}
use Rattle.msr_base.specs.declared.storage.Version.{Version}
use Rattle.msr_base.specs.declared.storage.Version.TheVariants.{One, Two}
use Rattle.msr_base.specs.Storage.{size_of, storage_of}
use Rattle.msr_base.specs.Kinds.{contains}
use Rattle.msr_base.specs.RecordLength.{words_of}

-- what a run begins with fits if the run does
abbrev pub PrefixLaw : (List (ℤ × ℤ) → Type 0) → Type 0
PrefixLaw fits = (front back : List (ℤ × ℤ)) → fits (front ++ back) → fits front

-- if a run is cut, the part after the cut fits with at most `places` of the samples before it
abbrev pub BackStepLaw : ℕ → (List (ℤ × ℤ) → Type 0) → Type 0
BackStepLaw places fits =
    (front back : List (ℤ × ℤ)) → fits (front ++ back) →
    (k : ℕ) × (k ≤ length front) × (length front ≤ k + places) × fits (drop k front ++ back)

-- a difference that has as much room in Steim-2 as in Steim-1: not of exactly 16 bits, nor of more than 30
abbrev pub IsNarrow : ℤ → Type 0
IsNarrow d = (FitsBits 16 d → FitsBits 15 d) × FitsBits 30 d

-- if a run fits the one and is cut, and each difference after the cut is narrow, the part after the cut fits the other
abbrev pub DominanceLaw : (List (ℤ × ℤ) → Type 0) → (List (ℤ × ℤ) → Type 0) → Type 0
DominanceLaw one other = (front back : List (ℤ × ℤ)) → All (λ p. IsNarrow p.1) back → one (front ++ back) → other back

-- no run that fits has more samples
abbrev pub SizeLaw : ℕ → (List (ℤ × ℤ) → Type 0) → Type 0
SizeLaw most fits = (run : List (ℤ × ℤ)) → fits run → length run ≤ most

-- the laws of what a tracker takes, in records of any number of bytes and any choice of kinds; if there is room for a
-- header, an empty run fits
pub record TrackerLaws (look_back : ℕ) (most : Records → ℕ) (fits : Records → List (ℤ × ℤ) → Type 0) : Type 0 where
  pub prefix : (records : Records) → PrefixLaw (fits records)
  pub back_step : (records : Records) → BackStepLaw look_back (fits records)
  pub near : look_back ≤ 3
  pub empty : (records : Records) → 64 ≤ records.bytes → fits records []
  pub size : (records : Records) → SizeLaw (most records) (fits records)

-- How many of the differences before a cut may be needed: a Steim-1 group of four that is cut after
-- its first leaves three, which no group may follow.
abbrev pub places_of : Version → ℕ
places_of One = 1
places_of Two = 0

-- the differences of the largest group
abbrev pub largest_of : Version → ℕ
largest_of One = 4
largest_of Two = 7

-- how many of the samples before a cut a run may need, if a record stores its samples so
abbrev pub places_in : Storage → ℕ
places_in (Integers width) = 0
places_in (Frames version) = places_of version

-- how many a run of each kind may need
abbrev pub look_back_of : Kind → ℕ
look_back_of kind = places_in (storage_of kind)

-- for how many samples a record that stores them so has room at most
abbrev pub room_of : Storage → ℕ → ℕ
room_of (Integers width) bytes = (bytes - 64) / size_of width
room_of (Frames version) bytes = largest_of version * words_of bytes

-- how many samples a record of each kind has at most
abbrev pub most_of : Kind → ℕ → ℕ
most_of kind bytes = min (room_of (storage_of kind) bytes) most_counted

-- how many samples a record of that kind has at most; none if there are no such records among these
abbrev pub most_in : Kind → Records → ℕ
most_in kind records = (if contains records.kinds kind then most_of kind records.bytes else 0)

-- how many samples one of these records has at most: the length of a longest run
abbrev pub most_any : Records → ℕ
most_any records = max (max (most_in Steim2 records) (most_in Steim1 records))
    (max (most_in Int16 records) (max (most_in Int24 records) (most_in Int32 records)))
