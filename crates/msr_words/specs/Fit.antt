-- Which runs fit a record of a kind (SEED 2.4, blockette 1000: encodings 1, 2, 3, 10 and 11; appendix B).
use Rattle.std.specs.Prelude.{ℕ, ◌+◌, ◌*◌, ◌<◌, ◌≤◌, ⊤, ℤ, List, length, map, All}
use Rattle.msr_base.specs.declared.storage.Version.{Version}
use Rattle.msr_base.specs.declared.storage.Storage.{Storage}
use Rattle.msr_base.specs.declared.storage.Storage.TheVariants.{Integers, Frames}
use Rattle.msr_base.specs.declared.storage.Width.{Width}
use Rattle.msr_base.specs.declared.storage.Width.TheVariants.{Two, Three, Four}
use Rattle.msr_base.specs.Storage.{size_of, storage_of}
use Rattle.msr_steim.specs.Word.{FitsBits}
use Rattle.msr_base.specs.declared.kinds.Kind.{Kind}
use Rattle.msr_base.specs.declared.kinds.Kind.TheVariants.{Int16, Int24, Int32, Steim1, Steim2}
use Rattle.msr_base.specs.declared.kinds.Kinds.{Kinds}
use Rattle.msr_base.specs.declared.forms.Form.{Form}
use Rattle.msr_base.specs.Kinds.{IsChosen}
use Rattle.msr_base.specs.Lengths.{bytes_of}
use Rattle.msr_words.specs.Division.{CanDivide}
use Rattle.msr_base.specs.RecordLength.{words_of}
use Rattle.msr_words.specs.Segment.{run_points}

-- the header counts the samples of a record in 16 bits
abbrev pub most_counted : ℕ
most_counted = 65535

-- ---- the room that a record has

-- a number that an integer of that width can be; a sample has 32 bits itself
abbrev pub IsInteger : Width → ℤ → Type 0
IsInteger Two x = FitsBits 16 x
IsInteger Three x = FitsBits 24 x
IsInteger Four x = ⊤

-- encodings 1, 2 and 3: each sample as an integer, after the 64 bytes of the header
abbrev pub FitsIntegers : Width → ℕ → List (ℤ × ℤ) → Type 0
FitsIntegers width bytes run = All (λ p. IsInteger width p.0) run × (size_of width * length run + 64 ≤ bytes)

-- Steim-1 and Steim-2 (encodings 10 and 11): a group of differences in each data word
abbrev pub FitsSteim : Version → ℕ → List (ℤ × ℤ) → Type 0
FitsSteim version bytes run = CanDivide version (words_of bytes) (map (λ p. p.1) run)

-- a record of that many bytes that stores its samples so has room for the run
abbrev pub HasRoom : Storage → ℕ → List (ℤ × ℤ) → Type 0
HasRoom (Integers width) bytes run = FitsIntegers width bytes run
HasRoom (Frames version) bytes run = FitsSteim version bytes run

-- the run fits a record of that many bytes and that kind: it has room there, and its samples can be counted
abbrev pub Fits : Kind → ℕ → List (ℤ × ℤ) → Type 0
Fits kind bytes run = (length run ≤ most_counted) × HasRoom (storage_of kind) bytes run

-- Records of any number of bytes, of some of the kinds. Those that are written are of a form, which has one of nine
-- lengths.
pub record Records : Type 0 where
  pub bytes : ℕ
  pub kinds : Kinds

-- the records of a form
abbrev pub records_of : Form → Records
records_of form = record { bytes = bytes_of form.length; kinds = form.kinds }

-- there are records of that kind among these, and the run fits one of them
abbrev pub FitsIn : Kind → Records → List (ℤ × ℤ) → Type 0
FitsIn kind records run = IsChosen records.kinds kind × Fits kind records.bytes run

-- it fits one of these records, of whichever kind
abbrev pub FitsAny : Records → List (ℤ × ℤ) → Type 0
FitsAny records run = (kind : Kind) × FitsIn kind records run

-- the samples a to b-1 of a segment are a run that fits
abbrev pub IsRun : (List (ℤ × ℤ) → Type 0) → List ℤ → ℕ → ℕ → Type 0
IsRun fits samples a b = (a ≤ b) × (b ≤ length samples) × fits (run_points samples a b)

-- the place of a kind in the order in which kinds are tried
abbrev pub rank : Kind → ℕ
rank Steim2 = 0
rank Steim1 = 1
rank Int16 = 2
rank Int24 = 3
rank Int32 = 4

-- of the kinds that the run fits, the one that is tried first
abbrev pub IsFirstKind : Records → List (ℤ × ℤ) → Kind → Type 0
IsFirstKind records run kind = FitsIn kind records run
    × ((other : Kind) → rank other < rank kind → FitsIn other records run → ⊥)
