-- A segment whose samples still come, while its first records are written.
use Rattle.std.specs.Prelude.{◌≡◌, ℕ, ◌+◌, ◌<◌, ◌≤◌, ◌^◌, Bool, true, false, ℤ, List, [], ◌∷◌, ◌++◌, length, All, FitsSigned, IsTrue}
use Rattle.std.specs.Int.{w32}
use Rattle.std.specs.List.{flat_map}
use Rattle.msr_devices.specs.Device.{Device, Takes, IsCalm}
use Rattle.msr_header.specs.Reading.{is_quality}
use Rattle.msr_words.specs.declared.kinds.Run.{Run}
use Rattle.msr_base.specs.declared.forms.Form.{Form}
use Rattle.msr_words.specs.Fit.{Fits, records_of}
use Rattle.msr_base.specs.Lengths.{bytes_of}
use Rattle.msr_words.specs.Packing.{IsCanonical}
use Rattle.msr_words.specs.Groups.{AreGroupSizesIfKnown}
use Rattle.msr_words.specs.Segment.{differences, points}
use Rattle.msr_packer.specs.Blocks.{Holding, Packs, PacksLast, pushed}
use Rattle.msr_rows.specs.Correction.{is_pending}
use Rattle.msr_record.specs.Written.{IsWritableKey}
use Rattle.msr_rows.specs.declared.row.Key.{Key}
use Rattle.msr_rows.specs.declared.row.Row.{Row}
use Rattle.msr_segments.specs.Spans.{SpanIsInTime, span_of}
use Rattle.msr_segments.specs.Segments.{SegmentIsInTime}
use Rattle.msr_segments.specs.declared.joiner.Segment.{Segment}
use Rattle.msr_record.specs.Output.{Packed, IsPacked, AreWritten, number_after, cuts_at, cuts_of}
use Rattle.msr_record.specs.Writing.{AppendsRecordOfRun, AppendsRecords, Writing}

-- What an open segment shows: the form of its records, its key and start, the packer of its samples, and the
-- separators of the runs that were given.
pub record Opened : Type 0 where
  pub form : Form
  pub key : Key
  pub start : ℤ
  pub packer : Holding
  pub separators : List ℕ

abbrev pub opened_of : Key → ℤ → Form → Holding → List ℕ → Opened
opened_of key start form packer separators = record {
  form = form;
  key = key;
  start = start;
  packer = packer;
  separators = separators;
}

-- how many samples it has so far
abbrev pub count_of : Opened → ℕ
count_of opened = pushed opened.packer

-- a segment that begins, without a sample yet
abbrev pub empty_segment : Key → ℤ → Segment
empty_segment key start = record { key = key; start = start; samples = [] }

-- a segment with more samples after its own
abbrev pub longer_by : Segment → List ℤ → Segment
longer_by segment more = record { key = segment.key; start = segment.start; samples = segment.samples ++ more }

-- these runs and separators were given, of samples that others may follow, or of all
abbrev pub GivesRuns : Bool → Form → List ℤ → List Run → List ℕ → Holding → Type 0
GivesRuns false form samples runs separators packer = Packs (records_of form) samples runs separators packer
GivesRuns true form samples runs separators packer = PacksLast (records_of form) samples runs separators packer

-- The samples of this segment were pushed, all of them if it is whole, and its first runs were given.
pub record IsOpen (whole : Bool) (segment : Segment) (runs : List Run) (opened : Opened) : Type 0 where
  pub key : opened.key ≡ segment.key
  pub start : opened.start ≡ segment.start
  pub gives : GivesRuns whole opened.form segment.samples runs opened.separators opened.packer

-- some samples of a segment that can be written were pushed
pub record CanGoOn (whole : Bool) (opened : Opened) : Type 0 where
  pub segment : Segment
  pub runs : List Run
  pub is_open : IsOpen whole segment runs opened
  pub writable : IsWritableKey opened.key
  pub in_time : SegmentIsInTime segment

-- The samples that the packer shows are a run that has a record of the kind, and lie in a segment whose times are of
-- the supported years.
pub record CanEncode (size : ℕ) (key : Key) (start : ℤ) (packer : Holding) (run : Run) : Type 0 where
  pub quality : IsTrue (is_quality key.quality)
  pub normal : is_pending key.activity key.correction ≡ false
  pub count : ℕ
  pub inside : run.start < count
  pub in_time : SpanIsInTime (span_of key start count)
  pub some : 1 ≤ length packer.shown
  pub fits : Fits run.kind size (points packer.before packer.shown)
  pub sizes : AreGroupSizesIfKnown (differences packer.before packer.shown) packer.groups

-- Records of further runs of the segment stand after the old bytes, from this sequence number on to before the next.
pub record AppendsSome (whole : Bool) (segment : Segment) (runs : List Run) (opened : Opened) (number : ℕ)
    (old new : List ℕ) (next : ℕ) : Type 0 where
  pub more : List Run
  pub is_open : IsOpen whole segment (runs ++ more) opened
  pub appends : AppendsRecords (bytes_of opened.form.length) number (cuts_at segment more) old new next

-- If the segment is whole, these are the records of all its runs that were left.
pub record AppendsMore (whole : Bool) (segment : Segment) (runs : List Run) (opened : Opened) (number : ℕ)
    (old new : List ℕ) (next : ℕ) : Type 0 where
  pub some : AppendsSome whole segment runs opened number old new next
  pub all : whole ≡ true → IsCanonical (records_of opened.form) segment.samples (runs ++ some.more) opened.separators

-- From the one state of the sink to the other the records of these segments, and those of the first runs of the open
-- one, were written or wait.
pub record HasBegun (start now : Device) (writing : Writing) (packed : List Packed) (segment : Segment)
    (opened : Opened) : Type 0 where
  pub runs : List Run
  pub rows : List Row
  pub bytes : List ℕ
  pub taken : List ℕ
  pub form : opened.form ≡ writing.form
  pub is_open : IsOpen false segment runs opened
  pub samples : All (FitsSigned w32) segment.samples
  pub packings : All (IsPacked writing.form) packed
  pub records : AreWritten (bytes_of writing.form.length) 1 (flat_map cuts_of packed ++ cuts_at segment runs) rows bytes
  pub next : writing.number ≡ number_after 1 (flat_map cuts_of packed ++ cuts_at segment runs)
  pub takes : Takes start now taken
  pub whole : bytes ≡ taken ++ writing.waiting
  pub moved : now.moved ≡ start.moved + length taken
  pub short : 0 < length taken → now.moved < 2 ^ 64
  pub calm : IsCalm start now

-- One record more stands after the old bytes; or there is none, and all were given if the segment is whole.
abbrev pub EncodesNext : Bool → Segment → List Run → Opened → ℕ → List ℕ → List ℕ → Bool → Type 0
EncodesNext whole segment runs opened number old new true =
    (run : Run) × IsOpen whole segment (runs ++ run ∷ []) opened
    × AppendsRecordOfRun (bytes_of opened.form.length) number segment run old new
EncodesNext whole segment runs opened number old new false =
    IsOpen whole segment runs opened × (new ≡ old)
    × (whole ≡ true → IsCanonical (records_of opened.form) segment.samples runs opened.separators)
