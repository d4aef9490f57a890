-- Which pieces a packer of blocks of samples has given.
use Rattle.std.specs.Prelude.{◌≡◌, ℕ, ◌+◌, ◌-◌, ◌≤◌, Bool, true, false, ℤ, List, ◌++◌, length, take, Option, IfSome, if◌then◌else◌}
use Rattle.msr_words.specs.Fit.{Records, records_of}
use Rattle.msr_words.specs.declared.kinds.Run.{Run}
use Rattle.msr_words.specs.Laws.{most_any}
use Rattle.msr_words.specs.Packing.{IsCanonical}
use Rattle.msr_packer.specs.HeldSamples.{BeginsAll, HoldsWindow, LeavesFew, ShowsPiece, Stays, before_shown, frontier_of, pieces_of, runs_of, separators_of, shown_by, sizes_shown}
use Rattle.msr_packer.specs.declared.held.RunToCut.{RunToCut}
use Rattle.msr_packer.specs.declared.held.HeldSamples.{HeldSamples}
use Rattle.msr_packer.specs.declared.held.Piece.{Piece}

-- What a packer of blocks shows: its records, the samples that it holds and how many stand before them,
-- the step whose piece comes next, the samples of the piece that was given last with the one before them, the sizes and
-- the words of its groups, if they are known, and whether all pieces were given.
pub record Holding : Type 0 where
  pub records : Records
  pub held : List ℤ
  pub offset : ℕ
  pub current : Option RunToCut
  pub shown : List ℤ
  pub before : Option ℤ
  pub groups : List ℕ
  pub words : List ℕ
  pub ended : Bool

abbrev pub holding_of : HeldSamples → Bool → Holding
holding_of held ended = record {
  records = records_of held.form;
  held = held.samples.items;
  offset = held.offset;
  current = held.current;
  shown = shown_by held;
  before = before_shown held;
  groups = sizes_shown held;
  words = take held.sizes.shown.count held.sizes.shown.words.items;
  ended = ended;
}

-- how many samples were pushed
abbrev pub pushed : Holding → ℕ
pushed packer = packer.offset + length packer.held

-- After these samples were pushed to a packer of these records, these runs and separators were given.
pub record Packs (records : Records) (samples : List ℤ) (runs : List Run) (separators : List ℕ)
    (packer : Holding) : Type 0 where
  pub of_form : packer.records ≡ records
  pub holds : HoldsWindow records samples runs separators packer.held packer.offset packer.current
  pub stays : Stays packer.current (length packer.held)
  pub goes_on : packer.ended ≡ false

-- what is left, if no sample follows
abbrev pub LeftAt : Bool → Records → List ℤ → List Run → List ℕ → Holding → Type 0
LeftAt false records samples runs separators packer =
    HoldsWindow records samples runs separators packer.held packer.offset packer.current
LeftAt true records samples runs separators packer = IsCanonical records samples runs separators

-- After these samples, which no sample follows, these runs and separators were given.
pub record PacksLast (records : Records) (samples : List ℤ) (runs : List Run) (separators : List ℕ)
    (packer : Holding) : Type 0 where
  pub of_form : packer.records ≡ records
  pub left : LeftAt packer.ended records samples runs separators packer

-- The piece, if there is one, was given after those of which `packs` tells, and is shown.
pub record GivesNext (packs : List ℤ → List Run → List ℕ → Holding → Type 0) (old new : Holding)
    (piece : Option Piece) : Type 0 where
  pub given : (samples : List ℤ) (runs : List Run) (separators : List ℕ) → packs samples runs separators old
      → packs samples (runs ++ runs_of (pieces_of piece)) (separators ++ separators_of (pieces_of piece)) new
  pub shows : (samples : List ℤ) (runs : List Run) (separators : List ℕ) → packs samples runs separators old
      → IfSome piece (ShowsPiece samples new.shown new.before new.groups)

-- how many steps can be left at most
abbrev pub steps_left : Holding → ℕ
steps_left packer = (if packer.ended then 0 else 1) + (length packer.held - frontier_of packer.current)

-- at most one longest run is held after the frontier
abbrev pub HoldsFew : Holding → Type 0
HoldsFew packer = length packer.held ≤ frontier_of packer.current + most_any packer.records

-- whatever samples follow, the pieces that were given begin their canonical packing
abbrev pub BlocksBeginAll : Type 0
BlocksBeginAll = (records : Records) (samples : List ℤ) (runs : List Run) (separators : List ℕ) (packer : Holding)
    → 256 ≤ records.bytes → Packs records samples runs separators packer → BeginsAll records samples runs separators

-- if no sample follows, the pieces that were given begin the canonical packing of all
abbrev pub LastBlocksBegin : Type 0
LastBlocksBegin = (records : Records) (samples : List ℤ) (runs : List Run) (separators : List ℕ) (packer : Holding)
    → 256 ≤ records.bytes → PacksLast records samples runs separators packer
    → (others : List Run) × (places : List ℕ) × IsCanonical records samples (runs ++ others) (separators ++ places)

-- if no piece is decided, at most two longest runs of samples were pushed and not given
abbrev pub BlocksLeaveFew : Type 0
BlocksLeaveFew = (records : Records) (samples : List ℤ) (runs : List Run) (separators : List ℕ) (packer : Holding)
    → Packs records samples runs separators packer → HoldsFew packer → LeavesFew records samples runs

-- what holds of a packer while samples may follow holds of it if none follows
abbrev pub BlocksEnd : Type 0
BlocksEnd = (records : Records) (samples : List ℤ) (runs : List Run) (separators : List ℕ) (packer : Holding)
    → Packs records samples runs separators packer → PacksLast records samples runs separators packer
