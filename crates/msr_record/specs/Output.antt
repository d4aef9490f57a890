-- The output: the written records of segments, one after another (SEED Reference Manual 2.4, data record). Each
-- segment is cut into the runs of its one canonical packing; each run is a record.
use Rattle.std.specs.Prelude.{◌≡◌, ℕ, ◌+◌, ◌*◌, ◌≤◌, ◌==◌, if◌then◌else◌, ℤ, List, [], ◌∷◌, ◌++◌, length, All, map, slice_range, Some, true, FitsSigned}
use Rattle.std.specs.Int.{w32}
use Rattle.std.specs.List.{flat_map}
use Rattle.msr_time.specs.SampleRate.{IsRoundedNominal}
use Rattle.msr_words.specs.Fit.{records_of}
use Rattle.msr_words.specs.Packing.{IsPacking, IsLeast, IsSeparating, IsCanonical}
use Rattle.msr_base.specs.declared.forms.Form.{Form}
use Rattle.msr_base.specs.Lengths.{bytes_of}
use Rattle.msr_packer.specs.HeldSamples.{before_place}
use Rattle.msr_words.specs.declared.kinds.Run.{Run}
use Rattle.msr_rows.specs.Records.{IsRowOf, IsRecordOf, RowIsInTime}
use Rattle.msr_record.specs.Written.{IsWrittenRecord, IsWritableKey}
use Rattle.msr_rows.specs.declared.row.Row.{Row}
use Rattle.msr_segments.specs.Segments.{AreSegments, SegmentIsInTime}
use Rattle.msr_segments.specs.declared.joiner.Segment.{Segment}

-- a segment, the runs that it is cut into, and the samples that show that fewer do not suffice
pub record Packed : Type 0 where
  pub segment : Segment
  pub runs : List Run
  pub separators : List ℕ

abbrev pub segment_of_packed : Packed → Segment
segment_of_packed packed = packed.segment

-- The runs are a packing of the segment into records of that form, and no packing has fewer. No two of the
-- separators, which are as many as the runs, fit one record. Both are the one canonical choice.
pub record IsPacked (form : Form) (packed : Packed) : Type 0 where
  pub packing : IsPacking (records_of form) packed.segment.samples packed.runs
  pub least : IsLeast (records_of form) packed.segment.samples packed.runs
  pub separating : IsSeparating (records_of form) packed.segment.samples packed.separators
  pub as_many : length packed.runs ≡ length packed.separators
  pub canonical : IsCanonical (records_of form) packed.segment.samples packed.runs packed.separators

-- The row of a run: the segment's key, the rounded nominal instant of its first sample, counted from the
-- segment's start, and its samples.
pub record IsRowOfRun (segment : Segment) (run : Run) (row : Row) : Type 0 where
  pub key : row.key ≡ segment.key
  pub start : IsRoundedNominal segment.key.rate segment.start run.start row.start
  pub kind : row.kind ≡ run.kind
  pub samples : row.samples ≡ slice_range segment.samples run.start run.end

-- The bytes are the record of the run with the sequence number `number`, and are `size` bytes.
-- Whatever follows, they have that row; and if its own times are of the supported years, they are a
-- record without a fault, whose reverse constant agrees.
pub record IsRecordOfRun (size number : ℕ) (segment : Segment) (run : Run) (row : Row) (bytes : List ℕ) : Type 0 where
  pub of_run : IsRowOfRun segment run row
  pub size_is : length bytes ≡ size
  pub written : IsWrittenRecord bytes segment.key row.start number
      (before_place segment.samples run.start) row.samples run.kind size
  pub decodes : (rest : List ℕ) → IsRowOf (bytes ++ rest) row
  pub reads : (rest : List ℕ) → RowIsInTime row
      → IsRecordOf (bytes ++ rest) (record { length = size; row = Some row; reverse_agrees = true })

-- sequence numbers run from 1 to 999999, and then again from 1
abbrev pub next_number : ℕ → ℕ
next_number number = if number == 999_999 then 1 else number + 1

-- a segment and one of its runs
pub record Cut : Type 0 where
  pub segment : Segment
  pub run : Run

-- the cuts of a segment at its runs
abbrev pub cuts_at : Segment → List Run → List Cut
cuts_at segment runs = map (λ run. record { segment = segment; run = run }) runs

abbrev pub cuts_of : Packed → List Cut
cuts_of packed = cuts_at packed.segment packed.runs

-- the sequence number after those of these cuts
abbrev pub number_after : ℕ → List Cut → ℕ
number_after number [] = number
number_after number (cut ∷ cuts) = number_after (next_number number) cuts

-- The first of these cuts is a record.
pub record WritesFirst (size number : ℕ) (cut : Cut) (rows : List Row) (bytes : List ℕ) (other_rows : List Row)
    (rest : List ℕ) : Type 0 where
  pub row : Row
  pub first : List ℕ
  pub is_record : IsRecordOfRun size number cut.segment cut.run row first
  pub all_rows : rows ≡ row ∷ other_rows
  pub all_bytes : bytes ≡ first ++ rest

-- the bytes are the records of these cuts, one after another, from this sequence number on; these are their rows
abbrev pub AreWritten : ℕ → ℕ → List Cut → List Row → List ℕ → Type 0
AreWritten size number [] rows bytes = (rows ≡ []) × (bytes ≡ [])
AreWritten size number (cut ∷ cuts) rows bytes =
    (other_rows : List Row) × (rest : List ℕ) × WritesFirst size number cut rows bytes other_rows rest
    × AreWritten size (next_number number) cuts other_rows rest

-- The bytes are the output of these segments, each packed so, in records of that form; the rows are those of the
-- records.
pub record IsOutput (form : Form) (packed : List Packed) (rows : List Row) (bytes : List ℕ) : Type 0 where
  pub packings : All (IsPacked form) packed
  pub records : AreWritten (bytes_of form.length) 1 (flat_map cuts_of packed) rows bytes

-- the bytes are a prefix of the output of some first ones of these segments
pub record IsPrefixOfOutput (form : Form) (segments : List Segment) (bytes : List ℕ) : Type 0 where
  pub packed : List Packed
  pub others : List Segment
  pub rows : List Row
  pub tail : List ℕ
  pub some_first : segments ≡ map segment_of_packed packed ++ others
  pub output : IsOutput form packed rows (bytes ++ tail)

-- segments have at most one output
abbrev pub OneOutput : Type 0
OneOutput =
    (form : Form) (packed others : List Packed) (rows more : List Row) (bytes text : List ℕ)
    → map segment_of_packed packed ≡ map segment_of_packed others
    → IsOutput form packed rows bytes
    → IsOutput form others more text
    → (packed ≡ others) × (rows ≡ more) × (bytes ≡ text)

-- The rows of an output of the segments of some rows have the same segments, for every tolerance of at least a
-- microsecond.
abbrev pub OutputKeepsSegments : Type 0
OutputKeepsSegments =
    (form : Form) (tolerance : ℕ) (rows written : List Row) (packed : List Packed) (bytes : List ℕ) → 1 ≤ tolerance
    → AreSegments tolerance rows (map segment_of_packed packed)
    → All (λ (p : Packed). 1 ≤ length p.segment.samples) packed
    → IsOutput form packed written bytes
    → AreSegments tolerance written (map segment_of_packed packed)

-- an output has as many bytes as its records have in all
abbrev pub count_of_runs : List Packed → ℕ
count_of_runs [] = 0
count_of_runs (packed ∷ others) = length packed.runs + count_of_runs others

abbrev pub OutputHasSize : Type 0
OutputHasSize =
    (form : Form) (packed : List Packed) (rows : List Row) (bytes : List ℕ) → IsOutput form packed rows bytes
    → length bytes ≡ bytes_of form.length * count_of_runs packed

-- a segment that can be written: a key that can, samples of 32 bits, and times of the supported years
pub record IsWritableSegment (segment : Segment) : Type 0 where
  pub key : IsWritableKey segment.key
  pub samples : All (FitsSigned w32) segment.samples
  pub in_time : SegmentIsInTime segment

-- segments that can be written have an output in records of each form
abbrev pub SegmentsHaveOutput : Type 0
SegmentsHaveOutput =
    (form : Form) (segments : List Segment) → All IsWritableSegment segments
    → (packed : List Packed) × (rows : List Row) × (bytes : List ℕ)
    × (map segment_of_packed packed ≡ segments) × IsOutput form packed rows bytes

-- The records of whole segments, and then of the first runs of one segment's packing, are the prefix of an output,
-- whatever segments follow.
abbrev pub FirstRecordsArePrefix : Type 0
FirstRecordsArePrefix =
    (form : Form) (packed : List Packed) (segment : Segment) (runs others : List Run) (separators : List ℕ)
    (more : List Segment) (rows : List Row) (bytes : List ℕ)
    → All (IsPacked form) packed → IsWritableSegment segment
    → IsCanonical (records_of form) segment.samples (runs ++ others) separators
    → AreWritten (bytes_of form.length) 1 (flat_map cuts_of packed ++ cuts_at segment runs) rows bytes
    → IsPrefixOfOutput form (map segment_of_packed packed ++ segment ∷ more) bytes

-- the records of runs of a segment stay the records of its runs when samples follow
abbrev pub RecordsStay : Type 0
RecordsStay =
    (size number : ℕ) (segment : Segment) (more : List ℤ) (runs : List Run) (rows : List Row) (bytes : List ℕ)
    → All (λ run. (run.start ≤ run.end) × (run.end ≤ length segment.samples)) runs
    → AreWritten size number (cuts_at segment runs) rows bytes
    → AreWritten size number (cuts_at (record {
      key = segment.key;
      start = segment.start;
      samples = segment.samples ++ more;
    }) runs) rows bytes
