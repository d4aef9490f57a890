-- Which pieces a packer of a stream has given. It shows what a packer of blocks does, and has never ended.
use Rattle.std.specs.Prelude.{◌≡◌, ℕ, ◌+◌, ◌*◌, ◌≤◌, ℤ, List, ◌++◌, length, drop}
use Rattle.msr_words.specs.Fit.{Records, records_of}
use Rattle.msr_words.specs.declared.kinds.Run.{Run}
use Rattle.msr_words.specs.Laws.{most_any}
use Rattle.msr_words.specs.Packing.{Joins, IsCanonical}
use Rattle.msr_packer.specs.Blocks.{Holding, HoldsFew, Packs}
use Rattle.msr_packer.specs.HeldSamples.{BeginsAll, IsSound, LeavesFew, Stays, frontier_of, runs_of, separators_of}
use Rattle.msr_packer.specs.Growing.{IsGrowing}
use Rattle.msr_packer.specs.declared.held.HeldSamples.{HeldSamples}
use Rattle.msr_packer.specs.declared.held.Piece.{Piece}
use Rattle.msr_packer.specs.declared.growing.GrowingRun.{GrowingRun}

-- All samples after the frontier were taken, so that its step is not decided. At most two longest runs are held, a
-- sample before them and one after.
pub record IsStreaming (held : HeldSamples) (growing : GrowingRun) : Type 0 where
  pub sound : IsSound held
  pub stays : Stays held.current (length held.samples.items)
  pub is_growing : IsGrowing (records_of held.form) held.samples.items (frontier_of held.current)
      (length held.samples.items) growing
  pub few : length held.samples.items ≤ 2 * most_any (records_of held.form) + 2

-- After these samples were pushed to a packer of these records, these runs and separators were given. It holds at most
-- two longest runs, a sample before them and one after.
pub record Streams (records : Records) (samples : List ℤ) (runs : List Run) (separators : List ℕ)
    (packer : Holding) : Type 0 where
  pub packs : Packs records samples runs separators packer
  pub behind : HoldsFew packer
  pub few : length packer.held ≤ 2 * most_any packer.records + 2

-- whatever samples follow, the pieces that were given begin their canonical packing
abbrev pub PiecesBeginAll : Type 0
PiecesBeginAll = (records : Records) (samples : List ℤ) (runs : List Run) (separators : List ℕ) (packer : Holding)
    → 256 ≤ records.bytes → Streams records samples runs separators packer → BeginsAll records samples runs separators

-- at most two longest runs of samples were pushed and not given
abbrev pub StreamLeavesFew : Type 0
StreamLeavesFew = (records : Records) (samples : List ℤ) (runs : List Run) (separators : List ℕ) (packer : Holding)
    → Streams records samples runs separators packer → LeavesFew records samples runs

-- The last pieces, of which there may be none, and the samples from the first of them on.
pub record AreLastPieces (records : Records) (samples : List ℤ) (runs : List Run) (separators : List ℕ)
    (pieces : List Piece) (rest : List ℤ) : Type 0 where
  pub canonical : IsCanonical records samples (runs ++ runs_of pieces) (separators ++ separators_of pieces)
  pub given : ℕ
  pub joined : Joins 0 runs given
  pub from_there : rest ≡ drop given samples
