-- What was repacked is readable, with the segments of the input.
use Rattle.std.proofs.Common.{◌≡◌, ◌∙◌, ℕ, ◌^◌, ◌≤◌, lit<, List, [], ◌∷◌, ◌++◌, drop, length, length-append, map, arith, refl, sym, ap, Option, None, Some, IfNone, IfSome, Ok}
use Rattle.std.proofs.Math.Nat.{pow-le-pow_right}
use Rattle.std.proofs.lemmas.List.{drop_at}
use Rattle.std.specs.List.{flat_map}
use Rattle.msr_base.specs.Lengths.{bytes_of}
use Rattle.msr_base.specs.RecordLength.{IsRecordLength}
use Rattle.msr_header.specs.Reading.{header_of}
use Rattle.msr_header.specs.declared.header.Header.{Header}
use Rattle.msr_rows.specs.Records.{IsRecordOf, IsRowOf, RowIsInTime}
use Rattle.msr_rows.specs.declared.row.Record.{Record}
use Rattle.msr_rows.specs.declared.row.Row.{Row}
use Rattle.msr_rows.proofs.HeaderFacts.{one_header}
use Rattle.msr_rows.proofs.OneAnswer.{one_record, one_row}
use Rattle.msr_segments.proofs.DivisionLaws.{one_list}
use Rattle.msr_input.specs.Input.{BeginsWith, OneListOfRecords, rows_of_records}
use Rattle.msr_input.proofs.Records.{nothing_begins}
use Rattle.msr_record.specs.Output.{AreWritten, Cut, cuts_of, next_number, segment_of_packed}
use Rattle.msr_tool.specs.Repacked.{ReadableHasSegments, RepackedHasSegments}
use Rattle.msr_options.specs.Choice.{form_chosen}
use Rattle.msr_tool.proofs.ShownRows.{record_of, records_rows}
use Rattle.msr_tool.proofs.ShownLeast.{read_again}

pub repacked_segments : OneListOfRecords → RepackedHasSegments
repacked_segments law choice strict input written report records segments r readable before =
    let again = read_again law r readable before in (
      map (record_of (bytes_of choice.record_length)) r.rows,
      record {
        are_read = again.are_read strict;
        are_segments = record {
          parts = r.same_segments.parts;
          division = again.division;
          each = again.each;
        };
      },
    )

-- the row that the bytes begin with is in time if they begin with a record without a fault
in_time_by : (bytes : List ℕ) (o : Option Row) (h : Header) (row : Row) → header_of bytes ≡ Ok h
    → IfNone o (h.samples ≡ 0) → IfSome o (IsRowOf bytes) → IfSome o RowIsInTime → IsRowOf bytes row
    → RowIsInTime row
in_time_by bytes None h row read none some time is =
    let count = ap (λ (g : Header). g.samples) (one_header bytes h is.header read is.has_area.has_samples.read) in
    absurd (omega (arith, count, none, is.has_area.has_samples.some))
in_time_by bytes (Some other) h row read none some time is =
    rw (← one_row bytes other row some is) time

-- and that record is the one that was written
first_written : (bytes : List ℕ) (size : ℕ) (row : Row) (found : Record) → IsRowOf bytes row
    → (RowIsInTime row → IsRecordOf bytes (record_of size row)) → IsRecordOf bytes found → found ≡ record_of size row
first_written bytes size row found is reads read =
    one_record bytes found (record_of size row) read
    (reads (in_time_by bytes found.row read.header row read.read read.empty read.row read.in_time is))

some_bytes : (size : ℕ) (first rest : List ℕ) → IsRecordLength size → length first ≡ size → first ++ rest ≡ [] → ⊥
some_bytes size first rest is has none =
    let least : 2 ^ 8 ≤ 2 ^ is.exponent = pow-le-pow_right {n = 2} (lit< tt) {i = 8} {j = is.exponent} is.least in
    omega (arith, least, is.power, has, ap length none, length-append first rest)

-- the records that are read are those that were written
read_as_written : (size n : ℕ) (cuts : List Cut) (rows : List Row) (bytes : List ℕ) (records : List Record)
    → AreWritten size n cuts rows bytes → BeginsWith records bytes [] → records ≡ map (record_of size) rows
read_as_written size n [] rows bytes [] are begins = rw (are.0) refl
read_as_written size n [] rows bytes (found ∷ records) are begins =
    absurd (nothing_begins found (rw are.1 at begins.0))
read_as_written size n (cut ∷ cuts) rows bytes [] are begins =
    let w = are.2 in
    absurd (some_bytes size w.first are.1 w.is_record.written.power w.is_record.size_is (sym w.all_bytes ∙ begins))
read_as_written size n (cut ∷ cuts) rows bytes (found ∷ records) are begins =
    let w = are.2 in
    let same : found ≡ record_of size w.row = first_written (w.first ++ are.1) size w.row found
    (w.is_record.decodes are.1) (w.is_record.reads are.1) (rw w.all_bytes at begins.0) in
    let after : drop found.length bytes ≡ are.1 =
    rw (same, w.all_bytes) (drop_at w.first are.1 size w.is_record.size_is) in
    let others = read_as_written size (next_number n) cuts are.0 are.1 records are.3 (rw after at begins.1) in
    rw (same, others, w.all_rows) refl

pub readable_segments : ReadableHasSegments
readable_segments choice strict input written report found segments r readable =
    let size = bytes_of (form_chosen choice).length in
    let same : found ≡ map (record_of size) r.rows =
    read_as_written size 1 (flat_map cuts_of r.packed) r.rows written found r.output.records
    readable.are_read.begins in
    let rows : rows_of_records found ≡ r.rows = ap rows_of_records same ∙ records_rows size r.rows in
    let packed = one_list choice.tolerance r.rows segments (map segment_of_packed r.packed)
    (rw rows at readable.are_segments) r.same_segments in
    (r.records, rw packed r.readable)
