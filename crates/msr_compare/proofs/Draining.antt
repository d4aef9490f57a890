-- Reading an input to its end, without its samples.
use Rattle.std.proofs.Common.{◌≡◌, ℕ, arith, Bool, true, false, List, [], ◌∷◌, ◌++◌, refl, sym, ap, subst, ◌∙◌, append_assoc, Option, Some, None, map}
use Rattle.std.specs.Option.{option_to_list}
use Rattle.std.proofs.lemmas.List.{append-nil}
use Rattle.std.proofs.lemmas.Bool.{both_ways}
use Rattle.msr_rows.specs.declared.row.Record.{Record}
use Rattle.msr_devices.specs.Device.{Device, CanCountCall, CountsFew, IsSteady}
use Rattle.msr_devices.proofs.Chaining.{left_of, steady_can_count, steady_then_few}
use Rattle.msr_segments.specs.Spans.{Following, TakesStep}
use Rattle.msr_segments.specs.Segments.{IsDivision, segment_of}
use Rattle.msr_segments.specs.Joining.{Joining, HasJoined, following_of}
use Rattle.msr_segments.specs.declared.follow.Step.{Step}
use Rattle.msr_segments.specs.declared.joiner.Segment.{Segment}
use Rattle.msr_segments.proofs.StepLaws.{stand_together}
use Rattle.msr_input.specs.Input.{NoneOverruns, rows_of_records}
use Rattle.msr_input.specs.Outlines.{outline_span}
use Rattle.msr_input.specs.Reading.{StopsReading}
use Rattle.msr_input.specs.Rows.{RowReading, HasReadRows, ReadsNone, ReadsOutline, ReadsToEnd, StepsTo, StopsRows, answer_told, row_settings, row_told}
use Rattle.msr_input.specs.declared.settings.Settings.{Settings}
use Rattle.msr_input.specs.declared.fault.ReadFault.{ReadFault}
use Rattle.msr_input.specs.declared.fault.ReadFault.TheVariants as fault
use Rattle.msr_input.specs.declared.row_reader.NextOutline.{NextOutline}
use Rattle.msr_input.specs.declared.row_reader.NextRow.{NextRow}
use Rattle.msr_input.proofs.Histories.{rows_with, rows_without}
use Rattle.msr_compare.specs.Seen.{Sight, nothing_seen}
use Rattle.msr_compare.specs.Symbols.{Symbol, symbols_of, row_symbols}
use Rattle.msr_compare.specs.Sides.{Standing, HasSource, HasTaken, IsAtEnd, IsDrained}
use Rattle.msr_compare.proofs.Sides.{grown, grown_symbols}

-- Some records came, whose segments have these symbols, and maybe more after them.
pub record Draining (settings : Settings) (start now : Device) (reading : RowReading) (symbols : List Symbol) : Type 0 where
  pub records : List Record
  pub answers : List Step
  pub read : HasReadRows start now reading records answers
  pub settings_are : row_settings reading ≡ settings
  pub joining : Joining
  pub given : List Segment
  pub joined : HasJoined joining (rows_of_records records) given
  pub stands : reading.following ≡ following_of joining
  pub more : List Symbol
  pub symbols_are : symbols_of (given ++ option_to_list joining.current) ≡ symbols ++ more

-- The same, and the records were seen.
pub record SeenDraining (seen : Sight) (settings : Settings) (start now : Device) (reading : RowReading)
    (symbols : List Symbol) : Type 0 where
  pub drains : Draining settings start now reading symbols
  pub is_seen : seen reading.following drains.records

abbrev pub draining : {seen : Sight} {settings : Settings} {start now : Device} {side : Standing} {done : List Symbol}
    → HasTaken seen settings start now side done → Draining settings start now side.reading (done ++ side.ahead)
draining {side = side} {done = done} h = record {
  records = h.records;
  answers = h.answers;
  read = h.read;
  settings_are = h.settings_are;
  joining = h.joining;
  given = h.given;
  joined = h.joined;
  stands = h.stands;
  more = [];
  symbols_are = h.symbols ∙ sym (append-nil (done ++ side.ahead));
}

-- the tolerance of a reader is that of the settings
pub tolerance_is : {settings : Settings} {start now : Device} {reading : RowReading} {symbols : List Symbol}
    (d : Draining settings start now reading symbols) → d.joining.tolerance ≡ settings.tolerance
tolerance_is d = sym (ap (λ (f : Following). f.tolerance) d.stands) ∙ ap (λ (s : Settings). s.tolerance) d.settings_are

-- a row more
pub drains_row : {settings : Settings} {start a b : Device} {old new : RowReading} {symbols : List Symbol}
    {next : NextOutline} (d : Draining settings start a old symbols)
    → ReadsOutline start b new d.records d.answers next → row_settings new ≡ row_settings old
    → TakesStep old.following (outline_span next.row) next.step new.following → Draining settings start b new symbols
drains_row {old = old} {new} {symbols} {next} d outline same step =
    let row = outline.row in
    let span = rw outline.outline_is at step in
    let g = grown row next.step old.following new.following d.joined d.stands span in
    let given = d.given ++ option_to_list g.ended in
    record {
      records = outline.reads.after;
      answers = d.answers ++ next.step ∷ [];
      read = outline.reads.read;
      settings_are = same ∙ d.settings_are;
      joining = g.joining;
      given = given;
      joined = rw outline.reads.rows g.joined;
      stands = g.stands;
      more = d.more ++ row_symbols next.step row;
      symbols_are = grown_symbols next.step g ∙ ap (λ (l : List Symbol). l ++ row_symbols next.step row) d.symbols_are
          ∙ append_assoc symbols d.more (row_symbols next.step row);
    }

-- a record more, which was told of and seen
pub drains_record : {was seen : Sight} {settings : Settings} {start a b : Device} {old new : RowReading}
    {symbols : List Symbol} (told : Option NextRow) (found : Record) (s : SeenDraining was settings start a old symbols)
    → row_told told ≡ found.row
    → HasReadRows start b new (s.drains.records ++ found ∷ []) (s.drains.answers ++ answer_told told)
    → row_settings new ≡ row_settings old → StepsTo old.following told new.following
    → seen new.following (s.drains.records ++ found ∷ []) → SeenDraining seen settings start b new symbols
drains_record None found s row read same step is_seen =
    let d = s.drains in
    record {
      drains = record {
        records = d.records ++ found ∷ [];
        answers = d.answers ++ [];
        read = read;
        settings_are = same ∙ d.settings_are;
        joining = d.joining;
        given = d.given;
        joined = rw (rows_without d.records found (sym row)) d.joined;
        stands = step ∙ d.stands;
        more = d.more;
        symbols_are = d.symbols_are;
      };
      is_seen = is_seen;
    }
drains_record {old = old} {new} {symbols} (Some next) found s row read same step is_seen =
    let d = s.drains in
    let g = grown next.row next.step old.following new.following d.joined d.stands step in
    record {
      drains = record {
        records = d.records ++ found ∷ [];
        answers = d.answers ++ next.step ∷ [];
        read = read;
        settings_are = same ∙ d.settings_are;
        joining = g.joining;
        given = d.given ++ option_to_list g.ended;
        joined = rw (rows_with d.records found next.row (sym row)) g.joined;
        stands = g.stands;
        more = d.more ++ row_symbols next.step next.row;
        symbols_are = grown_symbols next.step g
            ∙ ap (λ (l : List Symbol). l ++ row_symbols next.step next.row) d.symbols_are
            ∙ append_assoc symbols d.more (row_symbols next.step next.row);
      };
      is_seen = is_seen;
    }

-- there is no memory for what is seen; nothing is given of what was begun
pub no_memory : {settings : Settings} {start now : Device} {reading : RowReading} {records : List Record}
    {answers : List Step} → HasReadRows start now reading records answers → row_settings reading ≡ settings
    → StopsReading settings start now [] fault.Memory
no_memory {now = now} {reading} {records} read are =
    let left = left_of now in
    let came = read.came.begins left.0 left.1 in
    let tolerance = ap (λ (s : Settings). s.tolerance) are in
    let parts = read.followed.ended ++ option_to_list read.followed.last in (
      record {
        input = came.0;
        records = records;
        rest = reading.position.waiting ++ left.0;
        left = came.1;
        are_read = record {
          begins = came.2;
          in_range = subst (λ (t : ℕ). NoneOverruns t records) tolerance read.in_range;
          agree = rw (ap (λ (s : Settings). s.strict) are) at read.came.agree;
        };
        begun = record {
          others = map segment_of parts;
          are_segments = record {
            parts = parts;
            division = subst (λ (t : ℕ). IsDivision t (rows_of_records records) parts) tolerance read.followed.division;
            each = refl;
          };
        };
      },
      read.came.steady,
    )

-- why no further row came; nothing is given of what was begun
pub drains_no_more : {settings : Settings} {start a : Device} {old : RowReading} {symbols : List Symbol} (b : Device)
    (why : ReadFault) (d : Draining settings start a old symbols)
    → StopsRows (row_settings old) start b d.records why → StopsReading settings start b [] why
drains_no_more {start = start} b why d stops =
    subst (λ (s : Settings). StopsReading s start b [] why) d.settings_are (stops [] (record {
      others = d.given ++ option_to_list d.joining.current;
      are_segments = rw (ap (λ (f : Following). f.tolerance) d.stands) d.joined.segments;
    }))

-- no row is left, and the reader has come to the end
abbrev pub drained : {seen : Sight} {settings : Settings} {start a b : Device} {old new : RowReading}
    {symbols : List Symbol} {answers : List Step} (ended : Bool) (d : Draining settings start a old symbols)
    (records : List Record)
    → HasReadRows start b new records answers → rows_of_records records ≡ rows_of_records d.records
    → row_settings new ≡ row_settings old → IsAtEnd new → (ended ≡ true → d.more ≡ []) → seen new.following records
    → IsDrained seen settings start b ended symbols
drained {new = new} ended d records read rows same over whole is_seen =
    let came = read.came.begins [] (read.came.end over.ended) in
    let are = same ∙ d.settings_are in
    record {
      input = came.0;
      left = came.1;
      all = record {
        records = records;
        segments = d.given ++ option_to_list d.joining.current;
        readable = record {
          are_read = record {
            begins = rw over.none_wait at came.2;
            in_range = subst (λ (t : ℕ). NoneOverruns t records) (ap (λ (s : Settings). s.tolerance) are) read.in_range;
            agree = rw (ap (λ (s : Settings). s.strict) are) at read.came.agree;
          };
          are_segments = rw (← rows, tolerance_is d) at d.joined.segments;
        };
        following = new.following;
        tolerance_is = ap (λ (s : Settings). s.tolerance) are;
        is_seen = is_seen;
      };
      more = d.more;
      symbols_are = d.symbols_are;
      whole = whole;
      steady = read.came.steady;
    }

pub drains_to_end : {seen : Sight} {settings : Settings} {start a b : Device} {old new : RowReading} {ended : Bool}
    {symbols : List Symbol} (d : Draining settings start a old symbols) → ended ≡ false
    → ReadsToEnd start b new d.records d.answers → row_settings new ≡ row_settings old
    → ((following : Following) (records : List Record) → seen following records)
    → IsDrained seen settings start b ended symbols
drains_to_end {new = new} {ended} d going all same any =
    drained ended d all.none.after all.none.read all.none.rows same
    (record { none_wait = all.none_wait; ended = all.ended }) (λ e. absurd (both_ways ended going e))
    (any new.following all.none.after)

-- no record is left, and all were seen
pub drains_seen : {seen : Sight} {settings : Settings} {start a b : Device} {old new : RowReading} {ended : Bool}
    {symbols : List Symbol} (s : SeenDraining seen settings start a old symbols) → ended ≡ false
    → ReadsNone start b new s.drains.records s.drains.answers → row_settings new ≡ row_settings old
    → IsDrained seen settings start b ended symbols
drains_seen {old = old} {new} {ended} s going all same =
    let d = s.drains in
    let stands = stand_together new.following d.joining (rows_of_records d.records) d.answers d.given all.read.followed
    d.joined (ap (λ (o : Settings). o.tolerance) (same ∙ d.settings_are) ∙ sym (tolerance_is d)) in
    drained ended d d.records all.read refl same (record { none_wait = all.none_wait; ended = all.ended })
    (λ e. absurd (both_ways ended going e)) (rw (d.stands ∙ sym stands) at s.is_seen)

-- the input had ended before
abbrev pub drained_before : {seen : Sight} {settings : Settings} {start now : Device} {side : Standing}
    {done : List Symbol} → HasTaken seen settings start now side done → side.ended ≡ true
    → IsDrained seen settings start now side.ended (done ++ side.ahead)
drained_before {side = side} h ended =
    drained side.ended (draining h) h.records h.read refl refl (h.end ended) (λ e. refl) h.is_seen

-- whatever was seen
pub unseen : {seen : Sight} {settings : Settings} {start now : Device} {side : Standing} {done : List Symbol}
    → HasTaken seen settings start now side done → HasTaken nothing_seen settings start now side done
unseen h = record {
  records = h.records;
  answers = h.answers;
  read = h.read;
  is_seen = tt;
  settings_are = h.settings_are;
  bounded = h.bounded;
  joining = h.joining;
  given = h.given;
  joined = h.joined;
  stands = h.stands;
  symbols = h.symbols;
  tallied = h.tallied;
  end = h.end;
}

pub has_begun : {seen : Sight} {settings : Settings} {start now : Device} {side : Standing} {done : List Symbol}
    → HasTaken seen settings start now side done → CanCountCall start → HasSource now side
has_begun {settings = settings} {start} {done = done} taken can =
    record { settings = settings; start = start; done = done; taken = unseen taken; can = can }

-- Some records came from a source that could count calls.
pub record IsDraining (now : Device) (reading : RowReading) : Type 0 where
  pub settings : Settings
  pub start : Device
  pub symbols : List Symbol
  pub drains : Draining settings start now reading symbols
  pub can : CanCountCall start

pub is_draining : {now : Device} {side : Standing} → HasSource now side → IsDraining now side.reading
is_draining {side = side} h = record {
  settings = h.settings;
  start = h.start;
  symbols = h.done ++ side.ahead;
  drains = draining h.taken;
  can = h.can;
}

pub can_count : {now : Device} {side : Standing} → HasSource now side → CanCountCall now
can_count {now} h = steady_can_count h.start now h.taken.read.came.steady h.can

pub still_draining : {a b : Device} {old new : RowReading} (d : IsDraining a old)
    → Draining d.settings d.start b new d.symbols → IsDraining b new
still_draining d drains =
    record { settings = d.settings; start = d.start; symbols = d.symbols; drains = drains; can = d.can }

pub steady_few : {a b : Device} → IsSteady a b → CountsFew a b
steady_few {a} {b} steady =
    steady_then_few a b b steady (record { failures = omega arith; interruptions = omega arith })
