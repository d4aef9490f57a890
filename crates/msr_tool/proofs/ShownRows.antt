-- The rows of an output are in time, and its bytes begin with their records.
use Rattle.std.proofs.Common.{◌≡◌, ℕ, ◌+◌, ◌-◌, ◌<◌, ◌≤◌, List, [], ◌∷◌, ◌∙◌, length, drop, map, arith, refl, ap, length-take, length-drop, ℤ, Some, true}
use Rattle.std.specs.List.{flat_map}
use Rattle.std.specs.Prelude.{All, slice_range}
use Rattle.std.proofs.lemmas.List.{drop_at}
use Rattle.std.proofs.lemmas.List.Elements.{All-append, All-cons, All-head, All-map, All-nil, All-tail}
use Rattle.msr_time.specs.Instant.{IsInstant}
use Rattle.msr_base.specs.declared.forms.Form.{Form}
use Rattle.msr_rows.specs.Records.{IsInTime, RowIsInTime}
use Rattle.msr_rows.specs.declared.row.Row.{Row}
use Rattle.msr_rows.specs.declared.row.Record.{Record}
use Rattle.msr_segments.specs.declared.joiner.Segment.{Segment}
use Rattle.msr_report.specs.Proper.{IsProperLine}
use Rattle.msr_report.specs.declared.report.SegmentLine.{SegmentLine}
use Rattle.msr_input.specs.Input.{BeginsWith, rows_of_records}
use Rattle.msr_record.specs.Output.{Packed, IsPacked, IsRowOfRun, Cut, AreWritten, next_number, cuts_of, segment_of_packed}
use Rattle.msr_record.proofs.Times.{nominal_within}
use Rattle.msr_verdict.specs.Packed.{IsFull}
use Rattle.msr_tool.specs.Answer.{AreLinesOf}
use Rattle.msr_tool.specs.Shown.{EndsBeforeTheLast}

-- the segment begins in the supported years, and ends before their last microsecond
pub record IsWithin (segment : Segment) : Type 0 where
  pub start : IsInstant segment.start
  pub end : EndsBeforeTheLast segment

-- the run is some samples of such a segment
pub record IsCutWithin (cut : Cut) : Type 0 where
  pub some : cut.run.start < cut.run.end
  pub inside : cut.run.end ≤ length cut.segment.samples
  pub within : IsWithin cut.segment

-- the row has samples, and they are of the supported years
pub record IsSound (row : Row) : Type 0 where
  pub some : 1 ≤ length row.samples
  pub in_time : RowIsInTime row

-- the segments of a report's lines
pub lines_within : (packed : List Packed) (lines : List SegmentLine) → AreLinesOf packed lines
    → All IsProperLine lines → All EndsBeforeTheLast (map segment_of_packed packed)
    → All IsWithin (map segment_of_packed packed)
lines_within [] lines are proper before = All-nil IsWithin
lines_within (one ∷ packed) [] are proper before = absurd are
lines_within (one ∷ packed) (line ∷ lines) are proper before =
    let segments = map segment_of_packed packed in
    let start = rw are.0.start at (All-head IsProperLine line lines proper).start in
    All-cons IsWithin one.segment segments
    (record { start = start; end = All-head EndsBeforeTheLast one.segment segments before })
    (lines_within packed lines are.1 (All-tail IsProperLine line lines proper)
    (All-tail EndsBeforeTheLast one.segment segments before))

pub cuts_within : (form : Form) (packed : List Packed) → All (IsPacked form) packed
    → All IsWithin (map segment_of_packed packed) → All IsCutWithin (flat_map cuts_of packed)
cuts_within form [] packings within = All-nil IsCutWithin
cuts_within form (one ∷ packed) packings within =
    let packing = (All-head (IsPacked form) one packed packings).packing in
    let segments = map segment_of_packed packed in
    let its = All-head IsWithin one.segment segments within in
    All-append IsCutWithin (cuts_of one) (flat_map cuts_of packed)
    (All-map IsCutWithin (λ run. record { segment = one.segment; run = run }) one.runs
    (λ k d h. record { some = packing.none_empty k d h; inside = (packing.each_fits k d h).1; within = its }))
    (cuts_within form packed (All-tail (IsPacked form) one packed packings)
    (All-tail IsWithin one.segment segments within))

-- the row of a run has as many samples as the run
pub range_length : (samples : List ℤ) (a b : ℕ) → b ≤ length samples → length (slice_range samples a b) ≡ b - a
range_length samples a b inside = omega (arith, length-take (b - a) (drop a samples), length-drop a samples)

row_sound : (cut : Cut) (row : Row) → IsCutWithin cut → IsRowOfRun cut.segment cut.run row → IsSound row
row_sound cut row is of_run =
    let size : length row.samples ≡ cut.run.end - cut.run.start = ap length of_run.samples
    ∙ range_length cut.segment.samples cut.run.start cut.run.end is.inside in
    let few : cut.run.start + (length row.samples - 1) ≤ length cut.segment.samples - 1 =
    omega (arith, size, is.some, is.inside) in
    let end = is.within.end in
    let times = nominal_within cut.segment.key.rate cut.segment.start row.start end.last cut.run.start
    (length row.samples - 1)
    (length cut.segment.samples - 1) few of_run.start end.nominal is.within.start end.before in
    let time : IsInTime cut.segment.key.rate row.start (length row.samples) =
    record { last = times.0; nominal = times.1; first_in = times.2; last_in = times.3 } in
    record { some = omega (arith, size, is.some); in_time = rw of_run.key time }

pub rows_sound : (size n : ℕ) (cuts : List Cut) (rows : List Row) (bytes : List ℕ) → All IsCutWithin cuts
    → AreWritten size n cuts rows bytes → All IsSound rows
rows_sound size n [] rows bytes within are = rw are.0 (All-nil IsSound)
rows_sound size n (cut ∷ cuts) rows bytes within are =
    let w = are.2 in
    let first = row_sound cut w.row (All-head IsCutWithin cut cuts within) w.is_record.of_run in
    rw w.all_rows (All-cons IsSound w.row are.0 first
    (rows_sound size (next_number n) cuts are.0 are.1 (All-tail IsCutWithin cut cuts within) are.3))

-- the record that a row is written as
abbrev pub record_of : ℕ → Row → Record
record_of size row = record { length = size; row = Some row; reverse_agrees = true }

pub bytes_begin : (size n : ℕ) (cuts : List Cut) (rows : List Row) (bytes : List ℕ) → All IsCutWithin cuts
    → AreWritten size n cuts rows bytes → BeginsWith (map (record_of size) rows) bytes []
bytes_begin size n [] rows bytes within are = rw are.0 are.1
bytes_begin size n (cut ∷ cuts) rows bytes within are =
    let w = are.2 in
    let sound = row_sound cut w.row (All-head IsCutWithin cut cuts within) w.is_record.of_run in
    let rest = bytes_begin size (next_number n) cuts are.0 are.1 (All-tail IsCutWithin cut cuts within) are.3 in
    rw (w.all_rows, w.all_bytes)
    (w.is_record.reads are.1 sound.in_time, rw (drop_at w.first are.1 size w.is_record.size_is) rest)

pub records_full : (size : ℕ) (rows : List Row) → All (IsFull size) (map (record_of size) rows)
records_full size rows =
    All-map (IsFull size) (record_of size) rows (λ k d h. record { length_is = refl; some = refl })

pub records_rows : (size : ℕ) (rows : List Row) → rows_of_records (map (record_of size) rows) ≡ rows
records_rows size [] = refl
records_rows size (row ∷ rows) = ap (λ (r : List Row). row ∷ r) (records_rows size rows)
