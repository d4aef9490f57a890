-- What holds of the records so far and their segments: which are in range, which can be written, and why reading stops.
use Rattle.std.proofs.Common.{◌≡◌, ℕ, inl, inr, true, List, [], ◌∷◌, ◌++◌, refl, sym, ap, subst, ◌∙◌, arith, length-append, Option, Some, None, All, IfSome}
use Rattle.std.specs.Option.{option_to_list}
use Rattle.std.proofs.lemmas.List.{append-nil}
use Rattle.std.proofs.lemmas.List.Elements.{All-pop, All-push}
use Rattle.msr_rows.specs.Records.{IsRecordOf, IsRowOf, RowIsInTime}
use Rattle.msr_rows.specs.declared.row.Record.{Record}
use Rattle.msr_rows.specs.declared.row.Row.{Row}
use Rattle.msr_rows.specs.declared.fault.FaultKind.TheVariants.{TimeRange}
use Rattle.msr_rows.proofs.UnseenBytes.{record_fits, shown_record}
use Rattle.msr_rows.proofs.WritableRows.{row_is_writable}
use Rattle.msr_devices.specs.Device.{Device}
use Rattle.msr_devices.proofs.Chaining.{left_of}
use Rattle.msr_segments.specs.Spans.{Following, Overruns}
use Rattle.msr_segments.specs.Segments.{row_span, row_segment, with_row, LastEndsOutOfRange}
use Rattle.msr_segments.specs.Joining.{Joining, HasJoined, IsPush, following_of}
use Rattle.msr_segments.specs.declared.joiner.Segment.{Segment}
use Rattle.msr_segments.proofs.Divisions.{no_empty, cases_last}
use Rattle.msr_segments.proofs.StepLaws.{overruns_out}
use Rattle.msr_input.specs.Input.{Agrees, BeginsWith, NoneOverruns, HaveBegun, rows_of_records}
use Rattle.msr_input.specs.Records.{Position, HaveCome, HasGiven, RefusesRecord, StopsGiving}
use Rattle.msr_input.specs.Reading.{IsWritable, GaveReadable, StopsAfter, StopsAtFault, StopsReading}
use Rattle.msr_input.specs.declared.settings.Settings.{Settings}
use Rattle.msr_input.specs.declared.fault.Fault.{Fault}
use Rattle.msr_input.specs.declared.fault.ReadFault.{ReadFault}
use Rattle.msr_input.specs.declared.fault.ReadFault.TheVariants as fault
use Rattle.msr_input.proofs.Records.{rows_snoc}

-- no record is refused if there is none
pub none_overrun : (tolerance : ℕ) → NoneOverruns tolerance []
none_overrun tolerance before after found row e has_row out = no_empty before after found e

-- how a reader at this place reads
abbrev pub settings_at : Position → Joining → Settings
settings_at position joining = record { tolerance = joining.tolerance; strict = position.strict }

-- the records so far are read
pub stops_after : (settings : Settings) (s : Device) (records : List Record) (given : List Segment)
    → HasGiven settings.strict s records → NoneOverruns settings.tolerance records
    → HaveBegun settings.tolerance records given → StopsAfter settings s given
stops_after settings s records given has none begun = record {
  input = has.input;
  records = records;
  rest = has.rest;
  left = has.left;
  are_read = record { begins = has.begins; in_range = none; agree = has.agree };
  begun = begun;
}

-- the next record is refused by itself
refused_stops : (settings : Settings) (s : Device) (records : List Record) (given : List Segment) (f : Fault)
    → RefusesRecord settings.strict s records f → NoneOverruns settings.tolerance records
    → HaveBegun settings.tolerance records given → StopsAtFault settings s given f
refused_stops settings s records given f refused none begun = record {
  input = refused.given.input;
  records = records;
  left = refused.given.left;
  first = record {
    rest = refused.given.rest;
    are_read = record { begins = refused.given.begins; in_range = none; agree = refused.given.agree };
    some_left = refused.some_left;
    refused = inl refused.refused;
    offset_is = refused.offset_is;
  };
  begun = begun;
}

-- no further record was given
pub stops_reading : (settings : Settings) (s a : Device) (records : List Record) (given : List Segment)
    (why : ReadFault) → StopsGiving settings.strict s a records why → NoneOverruns settings.tolerance records
    → HaveBegun settings.tolerance records given → StopsReading settings s a given why
stops_reading settings s a records given (fault.Input f) stop none begun =
    (refused_stops settings s records given f stop.0 none begun, stop.1)
stops_reading settings s a records given fault.Read stop none begun =
    (stops_after settings s records given stop.0 none begun, stop.1)
stops_reading settings s a records given fault.Memory stop none begun =
    (stops_after settings s records given stop.0 none begun, stop.1)

in_option : (P : Row → Type 0) (option : Option Row) (row : Row) → option ≡ Some row → IfSome option P → P row
in_option P option row e h = let Q : Option Row → Type 0 = λ o. IfSome o P in subst Q e h

pub rows_with : (records : List Record) (found : Record) (row : Row) → found.row ≡ Some row
    → rows_of_records (records ++ found ∷ []) ≡ rows_of_records records ++ row ∷ []
rows_with records found row has_row =
    rows_snoc records found ∙ ap (λ (option : Option Row). rows_of_records records ++ option_to_list option) has_row

pub rows_without : (records : List Record) (found : Record) → found.row ≡ None
    → rows_of_records (records ++ found ∷ []) ≡ rows_of_records records
rows_without records found none =
    rows_snoc records found ∙ ap (λ (option : Option Row). rows_of_records records ++ option_to_list option) none
    ∙ append-nil (rows_of_records records)

-- the row ends the segment that was begun last out of range
pub record OverrunsWith (old : Following) (row : Option Row) : Type 0 where
  pub the_row : Row
  pub has_row : row ≡ Some the_row
  pub overruns : Overruns old (row_span the_row)

-- the row of the next record ends its segment out of range
pub overrun_stops : (s a : Device) (position : Position) (joining : Joining) (records : List Record)
    (ended given : List Segment) (found : Record) (f : Fault) → HaveCome s a position records
    → NoneOverruns joining.tolerance records → HasJoined joining (rows_of_records records) ended
    → IsRecordOf position.waiting found → Agrees position.strict found
    → f.offset ≡ position.offset → f.kind ≡ TimeRange → OverrunsWith (following_of joining) found.row
    → HaveBegun joining.tolerance records given → StopsAtFault (settings_at position joining) s given f
overrun_stops s a position joining records ended given found f come none joined is agrees offset kind o begun =
    let left = left_of a in
    let input = come.begins left.0 left.1 in
    let fits = record_fits position.waiting found is in
    let time : RowIsInTime o.the_row = in_option RowIsInTime found.row o.the_row o.has_row is.in_time in
    let out = (overruns_out joining (rows_of_records records) ended o.the_row joined time).0 o.overruns in
    record {
      input = input.0;
      records = records;
      left = input.1;
      first = record {
        rest = position.waiting ++ left.0;
        are_read = record { begins = input.2; in_range = none; agree = come.agree };
        some_left = omega (arith, fits.0, fits.1, length-append position.waiting left.0);
        refused = inr (
          kind,
          record {
            found = found;
            row = o.the_row;
            has_row = o.has_row;
            is_record = shown_record position.waiting left.0 found is;
            agrees = agrees;
            out_of_range = subst (λ (rows : List Row). LastEndsOutOfRange joining.tolerance rows)
                (sym (rows_with records found o.the_row o.has_row)) out;
          },
        );
        offset_is = offset ∙ come.offset;
      };
      begun = begun;
    }

pub push_writable : (old new : Joining) (given : List Segment) (row : Row) (ended : Option Segment)
    → All IsWritable (given ++ option_to_list old.current) → IsWritable (row_segment row)
    → IsPush old row ended new → All IsWritable ((given ++ option_to_list ended) ++ option_to_list new.current)
push_writable old new given row ended all writable (inl k) =
    let before = subst (λ (current : Option Segment). All IsWritable (given ++ option_to_list current)) k.current all in
    let parts = All-pop IsWritable (given ++ k.segment ∷ []) given (Some k.segment) refl before in
    let first : IsWritable k.segment = parts.1 in
    let longer : IsWritable (with_row k.segment row) = record {
      quality = first.quality;
      normal = first.normal;
      in_time = k.in_time;
      some = omega (arith, first.some, length-append k.segment.samples row.samples);
    } in
    rw (k.none, k.after, append-nil given) (All-push IsWritable given (with_row k.segment row) parts.0 longer)
push_writable old new given row ended all writable (inr k) =
    rw (k.ended, k.after) (All-push IsWritable (given ++ option_to_list old.current) (row_segment row) all writable)

-- the row of a record, as a segment
pub row_writable : (bytes : List ℕ) (found : Record) (row : Row) → IsRecordOf bytes found → found.row ≡ Some row
    → IsWritable (row_segment row)
row_writable bytes found row is has_row =
    let writable = row_is_writable bytes row (in_option (IsRowOf bytes) found.row row has_row is.row) in
    record {
      quality = writable.0;
      normal = writable.1;
      in_time = in_option RowIsInTime found.row row has_row is.in_time;
      some = writable.2;
    }

pub in_range_more : (old : Joining) (records : List Record) (given : List Segment) (found : Record)
    → NoneOverruns old.tolerance records → HasJoined old (rows_of_records records) given
    → IfSome found.row RowIsInTime → ((row : Row) → found.row ≡ Some row
    → Overruns (following_of old) (row_span row) → ⊥) → NoneOverruns old.tolerance (records ++ found ∷ [])
in_range_more old records given found none joined in_time no_overrun before after other row e has_row out =
    elim (cases_last records before after found other e) [
      | inl w ↦
          let has = subst (λ (r : Record). r.row ≡ Some row) (sym w.2) has_row in
          let out1 = subst (λ (r : Record). LastEndsOutOfRange old.tolerance (rows_of_records (before ++ r ∷ [])))
          (sym w.2) out in
          let out2 = subst (λ (rs : List Record). LastEndsOutOfRange old.tolerance
          (rows_of_records (rs ++ found ∷ []))) (sym w.1) out1 in
          let out3 = subst (λ (rows : List Row). LastEndsOutOfRange old.tolerance rows)
          (rows_with records found row has) out2 in
          no_overrun row has ((overruns_out old (rows_of_records records) given row joined
          (in_option RowIsInTime found.row row has in_time)).1 out3)
      | inr w ↦ none before w.0 other row w.2 has_row out
    ]

-- if all came that the source had, what came is all of it
pub readable_at_end : (s a : Device) (position : Position) (joining : Joining) (records : List Record)
    (given : List Segment) → HaveCome s a position records → position.waiting ≡ [] → position.ended ≡ true
    → NoneOverruns joining.tolerance records → HasJoined joining (rows_of_records records) given
    → GaveReadable s (settings_at position joining) (given ++ option_to_list joining.current) position.counts
readable_at_end s a position joining records given come none_wait ended none joined =
    let input = come.begins [] (come.end ended) in
    record {
      input = input.0;
      records = records;
      left = input.1;
      readable = record {
        are_read = record {
          begins = subst (λ (bytes : List ℕ). BeginsWith records input.0 bytes)
              (append-nil position.waiting ∙ none_wait) input.2;
          in_range = none;
          agree = come.agree;
        };
        are_segments = joined.segments;
      };
      counted = come.counts;
    }
