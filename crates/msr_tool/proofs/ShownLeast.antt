-- What was repacked is readable and shown by its report.
use Rattle.std.proofs.Common.{◌≡◌, ℕ, Bool, false, ◌+◌, ◌-◌, ◌≤◌, List, [], ◌∷◌, ◌++◌, ◌∙◌, length, map, arith, refl, sym, ap, append_assoc}
use Rattle.std.specs.List.{flat_map}
use Rattle.std.proofs.lemmas.List.{map-append}
use Rattle.std.proofs.lemmas.List.Elements.{All-head}
use Rattle.std.specs.Prelude.{All}
use Rattle.std.specs.Option.{option_to_list}
use Rattle.msr_time.specs.SampleRate.{IsRoundedNominal}
use Rattle.msr_base.specs.Lengths.{bytes_of}
use Rattle.msr_rows.specs.declared.row.Row.{Row}
use Rattle.msr_rows.specs.declared.row.Record.{Record}
use Rattle.msr_segments.specs.Spans.{EndsOutOfRange}
use Rattle.msr_segments.specs.Segments.{Part, segment_of, segment_span, IsDivision, LastEndsOutOfRange}
use Rattle.msr_segments.specs.declared.joiner.Segment.{Segment}
use Rattle.msr_segments.proofs.Histories.{no_segments}
use Rattle.msr_input.specs.Input.{AreRead, IsReadable, NoneOverruns, OneListOfRecords, mismatch_count, rows_of_records}
use Rattle.msr_record.specs.Output.{cuts_of, segment_of_packed}
use Rattle.msr_record.proofs.Existing.{all_right}
use Rattle.msr_record.proofs.Times.{nominal_within}
use Rattle.msr_options.specs.Choice.{Choice, form_chosen}
use Rattle.msr_tool.specs.Settings.{settings_of}
use Rattle.msr_report.specs.declared.report.Report.{Report}
use Rattle.msr_tool.specs.Answer.{IsRepacked}
use Rattle.msr_tool.specs.Shown.{EndsBeforeTheLast, RepackedIsShown}
use Rattle.msr_tool.proofs.ShownRows.{IsSound, IsWithin, record_of, lines_within, cuts_within, rows_sound, bytes_begin, records_full, records_rows}
use Rattle.msr_tool.proofs.ShownPrefixes.{IsPrefixOf, last_of_prefix}
use Rattle.msr_tool.proofs.ShownParts.{are_shown}

-- a prefix of such a segment ends in the supported years
prefix_within : (prefix whole : Segment) → IsPrefixOf prefix whole → IsWithin whole
    → EndsOutOfRange (segment_span prefix) → ⊥
prefix_within prefix whole is within out =
    let rate = whole.key.rate in
    let few : (length prefix.samples - 1) + 0 ≤ length whole.samples - 1 = omega (arith, is.fewer) in
    let at : IsRoundedNominal rate whole.start (length prefix.samples - 1) out.instant =
    rw (← is.key, ← is.start) out.nominal in
    let times = nominal_within rate whole.start out.instant within.end.last (length prefix.samples - 1) 0
    (length whole.samples - 1) few at within.end.nominal within.start within.end.before in
    out.out times.2

-- no prefix of the rows ends out of range
none_ends : (tolerance : ℕ) (rows : List Row) (parts : List Part) (prefix rest : List Row)
    → IsDivision tolerance rows parts → All IsWithin (map segment_of parts) → rows ≡ prefix ++ rest
    → LastEndsOutOfRange tolerance prefix → ⊥
none_ends tolerance rows parts [] rest d within e out = no_segments tolerance out.segments out.last out.are_segments
none_ends tolerance rows parts (first ∷ prefix) rest d within e out =
    let one = last_of_prefix tolerance rows parts first prefix rest out.segments out.last d e out.are_segments in
    let before = map segment_of one.before in
    let after = map segment_of (one.part ∷ one.after) in
    let all : All IsWithin (before ++ after) =
    rw (← map-append segment_of one.before (one.part ∷ one.after), ← one.whole) within in
    let its = All-head IsWithin (segment_of one.part) (map segment_of one.after)
    (all_right IsWithin before after all) in
    prefix_within out.last (segment_of one.part) one.is_prefix its out.out_of_range

rows_append : (records more : List Record) → rows_of_records (records ++ more) ≡ rows_of_records records
    ++ rows_of_records more
rows_append [] more = refl
rows_append (found ∷ records) more = rw (
  rows_append records more,
  append_assoc (option_to_list found.row) (rows_of_records records) (rows_of_records more),
) refl

-- so no row of the records ends its segment out of range
none_overruns : (tolerance : ℕ) (records : List Record) (parts : List Part)
    → IsDivision tolerance (rows_of_records records) parts → All IsWithin (map segment_of parts)
    → NoneOverruns tolerance records
none_overruns tolerance records parts d within before after found row e has_row out =
    let split : records ≡ (before ++ found ∷ []) ++ after = e ∙ sym (append_assoc before (found ∷ []) after) in
    none_ends tolerance (rows_of_records records) parts (rows_of_records (before ++ found ∷ []))
    (rows_of_records after) d within (ap rows_of_records split ∙ rows_append (before ++ found ∷ []) after) out

-- the reverse constant of each record that is written agrees
all_agree : (size : ℕ) (rows : List Row) → mismatch_count (map (record_of size) rows) ≡ 0
all_agree size [] = refl
all_agree size (row ∷ rows) = omega (arith, all_agree size rows)

-- What was repacked is read as records of its rows, which are sound and fall into the same segments.
pub record IsReadAgain (choice : Choice) (written : List ℕ) (rows : List Row) (parts : List Part)
    (segments : List Segment) (found : List Record) : Type 0 where
  pub are_read : (strict : Bool) → AreRead (record { tolerance = choice.tolerance; strict = strict }) written found []
  pub division : IsDivision choice.tolerance (rows_of_records found) parts
  pub each : segments ≡ map segment_of parts
  pub sound : All IsSound rows

pub read_again : OneListOfRecords → {choice : Choice} {input written : List ℕ} {report : Report} {records : List Record}
    {segments : List Segment} (r : IsRepacked choice input written report)
    → IsReadable (settings_of choice) input records segments → All EndsBeforeTheLast segments
    → IsReadAgain choice written r.rows r.same_segments.parts segments
    (map (record_of (bytes_of choice.record_length)) r.rows)
read_again law {choice} {input} {written} {report} {records} {segments} r readable before =
    let size = bytes_of choice.record_length in
    let same = (law (settings_of choice) input records r.records segments
    (map segment_of_packed r.packed) readable r.readable).1 in
    let within = lines_within r.packed report.segments.items r.is_report.lines r.is_report.proper.lines
    (rw same at before) in
    let cuts = cuts_within (form_chosen choice) r.packed r.output.packings within in
    let division : IsDivision choice.tolerance (rows_of_records (map (record_of size) r.rows)) r.same_segments.parts =
    rw (records_rows size r.rows) r.same_segments.division in
    record {
      are_read = λ strict. record {
        begins = bytes_begin size 1 (flat_map cuts_of r.packed) r.rows written cuts r.output.records;
        in_range = none_overruns choice.tolerance (map (record_of size) r.rows) r.same_segments.parts division
            (rw r.same_segments.each at within);
        agree = λ is_strict. all_agree size r.rows;
      };
      division = division;
      each = same ∙ r.same_segments.each;
      sound = rows_sound size 1 (flat_map cuts_of r.packed) r.rows written cuts r.output.records;
    }

pub repacked_shown : OneListOfRecords → RepackedIsShown
repacked_shown law choice input written report records segments r readable before =
    let again = read_again law r readable before in
    let size = bytes_of choice.record_length in
    let shown = are_shown (form_chosen choice) 1 r.packed report.segments.items r.same_segments.parts r.rows written
    r.output.packings r.is_report.lines r.same_segments.each r.same_segments.division.whole again.sound
    r.output.records in
    record {
      records = map (record_of size) r.rows;
      parts = r.same_segments.parts;
      are_read = rw r.is_report.tolerance (again.are_read false);
      division = rw r.is_report.tolerance again.division;
      full = rw r.is_report.record_length (records_full size r.rows);
      shown = rw (r.is_report.record_length, r.is_report.kinds) shown;
    }
