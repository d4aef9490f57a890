-- The records that are decided by the samples so far, whatever samples and segments follow.
use Rattle.std.specs.Prelude.{◌≡◌, ℕ, List, [], ◌++◌, map, All, Option, None, Some}
use Rattle.std.specs.List.{flat_map}
use Rattle.std.specs.Option.{option_to_list}
use Rattle.msr_base.specs.declared.forms.Form.{Form}
use Rattle.msr_base.specs.Lengths.{bytes_of}
use Rattle.msr_words.specs.Fit.{records_of}
use Rattle.msr_words.specs.declared.kinds.Run.{Run}
use Rattle.msr_packer.specs.Blocks.{HoldsFew}
use Rattle.msr_packer.specs.HeldSamples.{BeginsAll, LeavesFew}
use Rattle.msr_rows.specs.declared.row.Row.{Row}
use Rattle.msr_segments.specs.declared.joiner.Segment.{Segment}
use Rattle.msr_record.specs.Opened.{Opened}
use Rattle.msr_record.specs.Output.{AreWritten, Cut, IsPacked, Packed, cuts_at, cuts_of, segment_of_packed}

-- the first runs of the packing of a segment that has not ended, whatever samples follow; after them stand at most
-- two longest runs
abbrev pub AreDecided : Form → Option Segment → List Run → List ℕ → Type 0
AreDecided form None runs separators = runs ≡ []
AreDecided form (Some segment) runs separators =
    BeginsAll (records_of form) segment.samples runs separators × LeavesFew (records_of form) segment.samples runs

abbrev pub cuts_so_far : Option Segment → List Run → List Cut
cuts_so_far None runs = []
cuts_so_far (Some segment) runs = cuts_at segment runs

-- The bytes are the records of these segments but for a last one that has not ended, and of the runs of it that are
-- decided.
pub record IsDecidedOutput (form : Form) (segments : List Segment) (bytes : List ℕ) : Type 0 where
  pub packed : List Packed
  pub last : Option Segment
  pub runs : List Run
  pub separators : List ℕ
  pub rows : List Row
  pub all : segments ≡ map segment_of_packed packed ++ option_to_list last
  pub packings : All (IsPacked form) packed
  pub decided : AreDecided form last runs separators
  pub records : AreWritten (bytes_of form.length) 1 (flat_map cuts_of packed ++ cuts_so_far last runs) rows bytes

-- the records that its samples decide are encoded: at most one longest run is held after the frontier
abbrev pub IsEncoded : Opened → Type 0
IsEncoded opened = HoldsFew opened.packer
