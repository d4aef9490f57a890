-- How a record more changes a side, and what is known when its input has ended.
use Rattle.std.proofs.Common.{◌≡◌, ◌^◌, ◌<◌, ◌≤◌, true, false, List, [], ◌∷◌, ◌++◌, length, refl, sym, ap, ◌∙◌, arith, length-append, Option, Some, None, IfSome, pos}
use Rattle.std.specs.Option.{option_to_list}
use Rattle.std.proofs.lemmas.List.{append-nil, length-map}
use Rattle.std.proofs.lemmas.Bool.{both_ways}
use Rattle.msr_rows.specs.declared.row.Record.{Record}
use Rattle.msr_rows.specs.declared.row.Row.{Row}
use Rattle.msr_devices.specs.Device.{Device}
use Rattle.msr_devices.proofs.Chaining.{left_of}
use Rattle.msr_segments.specs.Spans.{IsInBounds}
use Rattle.msr_segments.specs.Segments.{row_segment}
use Rattle.msr_segments.specs.declared.follow.Step.{Step}
use Rattle.msr_segments.specs.declared.follow.Step.TheVariants.{Begins, Joins}
use Rattle.msr_segments.proofs.Histories.{joined_none}
use Rattle.msr_segments.proofs.StepLaws.{stand_together}
use Rattle.msr_input.specs.Input.{rows_of_records}
use Rattle.msr_input.specs.Reading.{IsWritable}
use Rattle.msr_input.specs.Records.{HaveCome, Position, left_with}
use Rattle.msr_input.specs.Rows.{RowReading, HasReadRows, ReadsNone, StepsTo, answer_told, row_settings, row_told}
use Rattle.msr_input.specs.Steps.{CanJoin}
use Rattle.msr_input.specs.declared.settings.Settings.{Settings}
use Rattle.msr_input.specs.declared.row_reader.NextRow.{NextRow}
use Rattle.msr_input.proofs.Histories.{rows_with, rows_without}
use Rattle.msr_input.proofs.Records.{few_records}
use Rattle.msr_compare.specs.Seen.{Sight, first_following}
use Rattle.msr_compare.specs.Symbols.{Symbol, Holds, row_symbols}
use Rattle.msr_compare.specs.Sides.{Standing, HasTaken, IsNew, TakesNext, weight}
use Rattle.msr_compare.proofs.Draining.{draining, tolerance_is}
use Rattle.msr_compare.proofs.Sides.{grown, grown_symbols, no_move, tallied_more}

-- each record has a byte at least, and a source fewer than 2^64
few_come : {start now : Device} {position : Position} {records : List Record} → HaveCome start now position records
    → length records < 2 ^ 64
few_come {now = now} {position} {records} come =
    let left = left_of now in
    let input = come.begins left.0 left.1 in
    let few = few_records records input.0 (position.waiting ++ left.0) input.2 in
    let moved = come.moved in
    let short = come.short in
    grind (arith, few, moved, short)

-- a side with another reading
abbrev pub read_on : Standing → RowReading → Standing
read_on side reading = record { reading = reading; tally = side.tally; ahead = side.ahead; ended = side.ended }

-- one record more came: without a row, or with one
pub taken_one : {was seen : Sight} {settings : Settings} {start a b : Device} {side new : Standing}
    {reading : RowReading} {done : List Symbol} (told : Option NextRow) (found : Record)
    (h : HasTaken was settings start a side done) → seen reading.following (h.records ++ found ∷ [])
    → side.ended ≡ false → side.ahead ≡ [] → row_told told ≡ found.row
    → HasReadRows start b reading (h.records ++ found ∷ []) (h.answers ++ answer_told told)
    → row_settings reading ≡ row_settings side.reading → StepsTo side.reading.following told reading.following
    → IfSome told (λ next. CanJoin next.row × IsWritable (row_segment next.row))
    → IfSome told (λ _. IsInBounds reading.following.current)
    → TakesNext told (read_on side reading) new → HasTaken seen settings start b new done
taken_one {side = side} None found h is_seen going none row read same step can bounds takes =
    let rows = rows_without h.records found (sym row) in
    let size = length-append h.records (found ∷ []) in
    rw takes (record {
      records = h.records ++ found ∷ [];
      answers = h.answers ++ [];
      read = read;
      is_seen = is_seen;
      settings_are = same ∙ h.settings_are;
      bounded = h.bounded;
      joining = h.joining;
      given = h.given;
      joined = rw rows h.joined;
      stands = step ∙ h.stands;
      symbols = h.symbols;
      tallied = record {
        segments_are = h.tallied.segments_are;
        samples_are = h.tallied.samples_are;
        few_segments = omega (arith, h.tallied.few_segments, size);
        few_samples = omega (arith, h.tallied.few_samples, size);
        few_count = h.tallied.few_count;
        at_open = h.tallied.at_open;
        greatest = rw rows h.tallied.greatest;
      };
      end = λ e. absurd (both_ways side.ended going e);
    })
taken_one {side = side} {new} {reading} {done} (Some next) found h is_seen going none row read same step can bounds takes =
    let tolerance = tolerance_is (draining h) in
    let g = grown next.row next.step side.reading.following reading.following h.joined h.stands step in
    let given = h.given ++ option_to_list g.ended in
    let before = rw (← tolerance) at h.tallied in
    let tallied = tallied_more next.step found g (sym row) h.joined before (omega (arith, tolerance, h.bounded)) bounds
    (few_come read.came) can.0.few takes.tallies in
    record {
      records = h.records ++ found ∷ [];
      answers = h.answers ++ next.step ∷ [];
      read = rw takes.reading read;
      is_seen = rw takes.reading is_seen;
      settings_are = ap row_settings takes.reading ∙ same ∙ h.settings_are;
      bounded = h.bounded;
      joining = g.joining;
      given = given;
      joined = rw (rows_with h.records found next.row (sym row)) g.joined;
      stands = ap (λ (r : RowReading). r.following) takes.reading ∙ g.stands;
      symbols = grown_symbols next.step g ∙ ap (λ (l : List Symbol). l ++ row_symbols next.step next.row)
          (h.symbols ∙ ap (λ (l : List Symbol). done ++ l) none ∙ append-nil done)
          ∙ ap (λ (l : List Symbol). done ++ l) (sym takes.ahead);
      tallied = rw (← tolerance) tallied;
      end = λ e. absurd (both_ways new.ended (takes.ended ∙ going) e);
    }

-- no record is left
pub taken_end : {seen : Sight} {settings : Settings} {start a b : Device} {side : Standing} {reading : RowReading}
    {done : List Symbol} (h : HasTaken seen settings start a side done) → ReadsNone start b reading h.records h.answers
    → row_settings reading ≡ row_settings side.reading
    → HasTaken seen settings start b
    (record { reading = reading; tally = side.tally; ahead = side.ahead; ended = true }) done
taken_end {reading = reading} h all same =
    let stands = stand_together reading.following h.joining (rows_of_records h.records) h.answers h.given
    all.read.followed h.joined
    (ap (λ (s : Settings). s.tolerance) (same ∙ h.settings_are) ∙ sym (tolerance_is (draining h))) in
    record {
      records = h.records;
      answers = h.answers;
      read = all.read;
      is_seen = rw (h.stands ∙ sym stands) at h.is_seen;
      settings_are = same ∙ h.settings_are;
      bounded = h.bounded;
      joining = h.joining;
      given = h.given;
      joined = h.joined;
      stands = stands;
      symbols = h.symbols;
      tallied = h.tallied;
      end = λ e. record { none_wait = all.none_wait; ended = all.ended };
    }

-- a side before the first record
pub taken_first : (settings : Settings) (start : Device) (reading : RowReading) → HasReadRows start start reading [] []
    → reading.following ≡ first_following settings
    → reading.position.strict ≡ settings.strict → settings.tolerance ≤ 1_000_000
    → IsNew settings start (record {
      reading = reading;
      tally = record { start = pos 0; count = 0; segments = 0; samples = 0; moved = 0 };
      ahead = [];
      ended = false;
    })
taken_first settings start reading read following strict bounded = record {
  taken = record {
    records = [];
    answers = [];
    read = read;
    is_seen = tt;
    settings_are = rw (following, strict) refl;
    bounded = bounded;
    joining = record { tolerance = settings.tolerance; current = None };
    given = [];
    joined = joined_none settings.tolerance;
    stands = following;
    symbols = refl;
    tallied = record {
      segments_are = refl;
      samples_are = refl;
      few_segments = omega arith;
      few_samples = omega arith;
      few_count = omega arith;
      at_open = λ segment e. absurd cc;
      greatest = no_move settings.tolerance;
    };
    end = λ e. absurd cc;
  };
  none = refl;
  following = following;
}

-- of which that is known
pub seen_first : {seen : Sight} {settings : Settings} {start : Device} {side : Standing} → IsNew settings start side
    → seen (first_following settings) [] → HasTaken seen settings start start side []
seen_first n is_seen =
    let h = n.taken in
    record {
      records = h.records;
      answers = h.answers;
      read = h.read;
      is_seen = rw (n.following, n.none) is_seen;
      settings_are = h.settings_are;
      bounded = h.bounded;
      joining = h.joining;
      given = h.given;
      joined = h.joined;
      stands = h.stands;
      symbols = h.symbols;
      tallied = h.tallied;
      end = h.end;
    }

few_symbols : (answer : Step) (row : Row) → length row.samples ≤ 65_535 → length (row_symbols answer row) ≤ 65_536
few_symbols Begins row few = omega (arith, few, length-map row.samples Holds)
few_symbols Joins row few = omega (arith, few, length-map row.samples Holds)

-- less is left to compare after a record
pub weighs_less : (a b : Device) (old new : Standing) (reading : RowReading) (told : Option NextRow)
    → left_with b reading.position.waiting < left_with a old.reading.position.waiting → old.ended ≡ false
    → TakesNext told (read_on old reading) new
    → IfSome told (λ next. CanJoin next.row × IsWritable (row_segment next.row)) → old.ahead ≡ []
    → weight b new ≤ weight a old
weighs_less a b old new reading None less going takes can none = rw (takes, going, none) (omega (arith, less))
weighs_less a b old new reading (Some next) less going takes can none =
    let few = few_symbols next.step next.row can.0.few in
    rw (takes.ended, takes.reading, takes.ahead, going, none) (omega (arith, less, few))

pub ends_as : (old new : Standing) (told : Option NextRow) → TakesNext told old new → new.ended ≡ old.ended
ends_as old new None takes = ap (λ (s : Standing). s.ended) takes
ends_as old new (Some next) takes = takes.ended
