-- What a reader of rows has read, step by step, and why it stops.
use Rattle.std.proofs.Common.{◌≡◌, ℕ, ◌≤◌, ◌∷◌, ◌++◌, [], List, map, refl, sym, ap, subst, ◌∙◌, Option, Some, None, IfSome, MatchOption}
use Rattle.std.specs.Prelude.{IsSomeAnd, option_map}
use Rattle.std.specs.Option.{option_to_list}
use Rattle.std.proofs.lemmas.List.{append-nil, map-append}
use Rattle.msr_rows.specs.Records.{IsRecordOf, RowIsInTime}
use Rattle.msr_rows.specs.declared.row.Record.{Record}
use Rattle.msr_rows.specs.declared.row.Row.{Row}
use Rattle.msr_devices.specs.Device.{Device}
use Rattle.msr_segments.specs.declared.span.Span.{Span}
use Rattle.msr_segments.specs.declared.follow.Step.{Step}
use Rattle.msr_segments.specs.declared.follow.Step.TheVariants.{Begins, Joins}
use Rattle.msr_segments.specs.declared.joiner.Segment.{Segment}
use Rattle.msr_segments.specs.Spans.{Following, Overruns, TakesStep}
use Rattle.msr_segments.specs.Segments.{Part, segment_of, part_span, row_segment, row_span, IsDivision}
use Rattle.msr_segments.specs.Joining.{Joining, HasJoined, HasFollowed, following_of}
use Rattle.msr_segments.proofs.Histories.{followed_none, followed_step}
use Rattle.msr_input.specs.Input.{Agrees, NoneOverruns, HaveBegun, rows_of_records}
use Rattle.msr_input.specs.Records.{Position, HaveCome, StopsGiving}
use Rattle.msr_input.specs.Reading.{GaveReadable, IsWritable, StopsReading, room_with}
use Rattle.msr_input.specs.Outlines.{outline_of, row_outline, outline_span}
use Rattle.msr_input.specs.Rows.{RowReading, HasReadRows, ReadsNoRow, ReadsOne, ReadsOutline, ReadsRecord, ReadsRow, ReadsToEnd, StepsTo, StopsRows, AllRowsAreReadable, answer_told, next_outline, next_row, row_settings, row_told}
use Rattle.msr_input.specs.Steps.{CanJoin, FollowsIfAny, IsGiven, IsJudged, IsRecordAhead, StopsFollowing}
use Rattle.msr_input.specs.declared.outline.Outline.{Outline}
use Rattle.msr_input.specs.declared.outline.RowOutline.{RowOutline}
use Rattle.msr_input.specs.declared.settings.Settings.{Settings}
use Rattle.msr_input.specs.declared.fault.ReadFault.{ReadFault}
use Rattle.msr_input.specs.declared.fault.ReadFault.TheVariants as fault
use Rattle.msr_input.specs.declared.row_reader.NextOutline.{NextOutline}
use Rattle.msr_input.specs.declared.row_reader.NextRecord.{NextRecord}
use Rattle.msr_input.specs.declared.row_reader.NextRow.{NextRow}
use Rattle.msr_input.proofs.Histories.{OverrunsWith, in_range_more, none_overrun, overrun_stops, readable_at_end, row_writable, rows_with, rows_without, stops_reading}

-- a joiner of the same rows, at the follower's place
record Stands (following : Following) (rows : List Row) : Type 0 where
  joining : Joining
  given : List Segment
  joined : HasJoined joining rows given
  stands : following ≡ following_of joining

stands_at : (following : Following) (rows : List Row) (ended : List Part) (last : Option Part)
    → IsDivision following.tolerance rows (ended ++ option_to_list last)
    → following.current ≡ option_map part_span last → (last ≡ None → rows ≡ []) → Stands following rows
stands_at following rows ended None division current begun = record {
  joining = record { tolerance = following.tolerance; current = None };
  given = map segment_of ended;
  joined = record {
    segments = record { parts = ended ++ []; division = division; each = sym (map-append segment_of ended []) };
    begun = λ e. begun refl;
  };
  stands = ap (λ (at : Option Span). record { tolerance = following.tolerance; current = at }) current;
}
stands_at following rows ended (Some p) division current begun = record {
  joining = record { tolerance = following.tolerance; current = Some (segment_of p) };
  given = map segment_of ended;
  joined = record {
    segments = record {
      parts = ended ++ p ∷ [];
      division = division;
      each = sym (map-append segment_of ended (p ∷ []));
    };
    begun = λ e. absurd cc;
  };
  stands = ap (λ (at : Option Span). record { tolerance = following.tolerance; current = at }) current;
}

stands_so : (following : Following) (rows : List Row) (answers : List Step) → HasFollowed following rows answers
    → Stands following rows
stands_so following rows answers followed =
    stands_at following rows followed.ended followed.last followed.division followed.current followed.begun

same_tolerance : (following : Following) (rows : List Row) (at : Stands following rows)
    → following.tolerance ≡ at.joining.tolerance
same_tolerance following rows at = ap (λ (f : Following). f.tolerance) at.stands

pub same_row_settings : (a b : RowReading) → a.following ≡ b.following → a.position.strict ≡ b.position.strict
    → row_settings a ≡ row_settings b
same_row_settings a b following strict = rw (following, strict) refl

-- before the first record
pub rows_none : (start : Device) (position : Position) (tolerance : ℕ) → HaveCome start start position []
    → HasReadRows start start (record {
      position = position;
      following = record { tolerance = tolerance; current = None };
    }) [] []
rows_none start position tolerance come = record
    { came = come; in_range = none_overrun tolerance; followed = followed_none tolerance }

-- after bytes were read ahead
pub rows_come : (s a b : Device) (reading : RowReading) (new : Position) (records : List Record)
    (answers : List Step) → HasReadRows s a reading records answers → HaveCome s b new records
    → HasReadRows s b (record { position = new; following = reading.following }) records answers
rows_come s a b reading new records answers has come =
    record { came = come; in_range = has.in_range; followed = has.followed }

-- no further record was given
pub rows_stop : (settings : Settings) (s a : Device) (records : List Record) (why : ReadFault)
    → StopsGiving settings.strict s a records why → NoneOverruns settings.tolerance records
    → StopsRows settings s a records why
rows_stop settings s a records why stop none =
    λ given begun. stops_reading settings s a records given why stop none begun

-- a row lies where its outline does
overruns_row : (following : Following) (row : Option Row)
    → IsSomeAnd (option_map row_outline row) (λ at. Overruns following (outline_span at)) → OverrunsWith following row
overruns_row following None over = absurd over
overruns_row following (Some row) over = record { the_row = row; has_row = refl; overruns = over }

-- the row of the next record ends its segment out of range
pub follow_stops : (s a : Device) (reading : RowReading) (records : List Record) (answers : List Step)
    (found : Record) (why : ReadFault) → HasReadRows s a reading records answers
    → IsRecordOf reading.position.waiting found → Agrees reading.position.strict found
    → StopsFollowing reading.following (option_map row_outline found.row) reading.position.offset why
    → StopsRows (row_settings reading) s a records why
follow_stops s a reading records answers found (fault.Input f) has is agrees stop = λ given begun.
    let at = stands_so reading.following (rows_of_records records) answers has.followed in
    let same = same_tolerance reading.following (rows_of_records records) at in
    let over : OverrunsWith (following_of at.joining) found.row =
    subst (λ (f : Following). OverrunsWith f found.row) at.stands (overruns_row reading.following found.row stop.2) in
    let none = subst (λ (t : ℕ). NoneOverruns t records) same has.in_range in
    let begun-at = subst (λ (t : ℕ). HaveBegun t records given) same begun in
    let stops = overrun_stops s a reading.position at.joining records at.given given found f has.came none
    at.joined is agrees stop.0 stop.1 over begun-at in
    subst (λ (t : ℕ). StopsReading (record { tolerance = t; strict = reading.position.strict }) s a given
    (fault.Input f)) (sym same) (stops, has.came.steady)
follow_stops s a reading records answers found fault.Read has is agrees stop = absurd stop
follow_stops s a reading records answers found fault.Memory has is agrees stop = absurd stop

in_range_followed : (following : Following) (records : List Record) (answers : List Step) (found : Record)
    → NoneOverruns following.tolerance records → HasFollowed following (rows_of_records records) answers
    → IfSome found.row RowIsInTime → ((row : Row) → found.row ≡ Some row → Overruns following (row_span row) → ⊥)
    → NoneOverruns following.tolerance (records ++ found ∷ [])
in_range_followed following records answers found none followed in_time within =
    let at = stands_so following (rows_of_records records) answers followed in
    let same = same_tolerance following (rows_of_records records) at in
    let none-at = subst (λ (t : ℕ). NoneOverruns t records) same none in
    let more = in_range_more at.joining records at.given found none-at at.joined in_time
    (λ row e over. within row e (subst (λ (f : Following). Overruns f (row_span row)) (sym at.stands) over)) in
    subst (λ (t : ℕ). NoneOverruns t (records ++ found ∷ [])) (sym same) more

step_tolerance : (old new : Following) (row : Span) (answer : Step) → TakesStep old row answer new
    → new.tolerance ≡ old.tolerance
step_tolerance old new row Begins k = ap (λ (f : Following). f.tolerance) k.after
step_tolerance old new row Joins k = ap (λ (f : Following). f.tolerance) k.after

-- after a record without a row
passed_none : (s a : Device) (old new : Position) (before : Following) (records : List Record)
    (answers : List Step) (found : Record) → HasReadRows s a
    (record { position = old; following = before }) records answers → IsRecordOf old.waiting found
    → found.row ≡ None → HaveCome s a new (records ++ found ∷ [])
    → HasReadRows s a (record { position = new; following = before }) (records ++ found ∷ []) answers
passed_none s a old new before records answers found has is none come = record {
  came = come;
  in_range = in_range_followed before records answers found has.in_range has.followed is.in_time
      (λ row e over. let no : ◌≡◌ {A = Option Row} None (Some row) = sym none ∙ e in cc);
  followed = subst (λ (all : List Row). HasFollowed before all answers) (sym (rows_without records found none))
      has.followed;
}

-- after one with a row
passed_row : (s a : Device) (old new : Position) (before after : Following) (records : List Record)
    (answers : List Step) (found : Record) (row : Row) (answer : Step)
    → HasReadRows s a (record { position = old; following = before }) records answers
    → IsRecordOf old.waiting found → found.row ≡ Some row → TakesStep before (row_span row) answer after
    → (Overruns before (row_span row) → ⊥) → HaveCome s a new (records ++ found ∷ [])
    → HasReadRows s a (record { position = new; following = after }) (records ++ found ∷ []) (answers ++ answer ∷ [])
passed_row s a old new before after records answers found row answer has is some step within come =
    let none = in_range_followed before records answers found has.in_range has.followed is.in_time (λ other e over.
    (let same : other ≡ row = (let both : ◌≡◌ {A = Option Row} (Some other) (Some row) = sym e ∙ some in cc) in
    within (subst (λ (r : Row). Overruns before (row_span r)) same over))) in
    record {
      came = come;
      in_range = subst (λ (t : ℕ). NoneOverruns t (records ++ found ∷ []))
          (sym (step_tolerance before after (row_span row) answer step)) none;
      followed = subst (λ (all : List Row). HasFollowed after all (answers ++ answer ∷ []))
          (sym (rows_with records found row some))
          (followed_step before after (rows_of_records records) answers row answer has.followed step);
    }

passed_so : (s a : Device) (old new : Position) (before after : Following) (records : List Record)
    (answers : List Step) (found : Record) (row : Option Row) (step : Option Step)
    → HasReadRows s a (record { position = old; following = before }) records answers
    → IsRecordOf old.waiting found → found.row ≡ row → FollowsIfAny before (option_map row_outline row) step after
    → HaveCome s a new (records ++ found ∷ []) → HasReadRows s a
    (record { position = new; following = after }) (records ++ found ∷ []) (answers ++ option_to_list step)
passed_so s a old new before after records answers found None step has is none follows come =
    rw (follows.0, follows.1, append-nil answers) (passed_none s a old new before records answers found has is none come)
passed_so s a old new before after records answers found (Some row) step has is some follows come =
    subst (λ (told : Option Step). HasReadRows s a (record { position = new; following = after })
    (records ++ found ∷ []) (answers ++ option_to_list told)) (sym follows.told) (passed_row s a old new before after
    records answers found row follows.answer has is some follows.is_step follows.in_range come)

-- after a record was passed
pub rows_passed : (s a : Device) (old new : Position) (before after : Following) (records : List Record)
    (answers : List Step) (found : Record) (step : Option Step)
    → HasReadRows s a (record { position = old; following = before }) records answers
    → IsRecordOf old.waiting found → FollowsIfAny before (option_map row_outline found.row) step after
    → HaveCome s a new (records ++ found ∷ []) → HasReadRows s a
    (record { position = new; following = after }) (records ++ found ∷ []) (answers ++ option_to_list step)
rows_passed s a old new before after records answers found step has is follows come =
    passed_so s a old new before after records answers found found.row step has is refl follows come

-- what is told of the record's row
told_row : (old new : Following) (row : Option Row) (step : Option Step)
    → FollowsIfAny old (option_map row_outline row) step new → row_told (next_row step row) ≡ row
told_row old new None step follows = rw follows.0 refl
told_row old new (Some row) step follows = rw follows.told refl

told_answer : (old new : Following) (row : Option Row) (step : Option Step)
    → FollowsIfAny old (option_map row_outline row) step new → option_to_list step ≡ answer_told (next_row step row)
told_answer old new None step follows = rw follows.0 refl
told_answer old new (Some row) step follows = rw follows.told refl

-- exactly that record was read
pub reads_one : (s a : Device) (position : Position) (before : Following) (reading : RowReading)
    (records : List Record) (answers : List Step) (outline : Outline) (found : Record) (step : Option Step)
    → IsRecordAhead position outline found → FollowsIfAny before outline.row step reading.following
    → HasReadRows s a reading (records ++ found ∷ []) (answers ++ option_to_list step)
    → ReadsOne s a reading records answers (record { length = outline.length; row = next_row step found.row })
reads_one s a position before reading records answers outline found step given follows has =
    let row = ap (λ (o : Outline). o.row) given.outline_is in
    let at = subst (λ (r : Option RowOutline). FollowsIfAny before r step reading.following) row follows in
    record {
      found = found;
      length_is = ap (λ (o : Outline). o.length) given.outline_is;
      row_is = told_row before reading.following found.row step at;
      read = subst (λ (told : List Step). HasReadRows s a reading (records ++ found ∷ []) (answers ++ told))
          (told_answer before reading.following found.row step at) has;
    }

-- what a reader of rows shows after a record, by what its row did
abbrev pub ReadsOn : Device → Device → RowReading → List Record → List Step → Option NextRow → Type 0
ReadsOn s a reading records answers next = MatchOption next (ReadsNoRow s a reading records answers)
    (ReadsRow s a reading records answers)

reads_on_so : (s a : Device) (reading : RowReading) (records : List Record) (answers : List Step) (found : Record)
    (next : Option NextRow) → row_told next ≡ found.row
    → HasReadRows s a reading (records ++ found ∷ []) (answers ++ answer_told next)
    → ReadsOn s a reading records answers next
reads_on_so s a reading records answers found None row has = record {
  after = records ++ found ∷ [];
  rows = rows_without records found (sym row);
  read = rw (append-nil answers) at has;
}
reads_on_so s a reading records answers found (Some next) row has = record {
  after = records ++ found ∷ [];
  rows = rows_with records found next.row (sym row);
  read = has;
}

pub reads_on : (s a : Device) (reading : RowReading) (records : List Record) (answers : List Step)
    (next : NextRecord) → ReadsOne s a reading records answers next → ReadsRecord s a reading records answers next
reads_on s a reading records answers next one =
    reads_on_so s a reading records answers one.found next.row one.row_is one.read

-- a record's row can be joined and written
abbrev pub CanBeTaken : NextRow → Type 0
CanBeTaken next = CanJoin next.row × IsWritable (row_segment next.row)

row_given_so : (bytes : List ℕ) (found : Record) (row : Option Row) (step : Option Step) → IsRecordOf bytes found
    → found.row ≡ row → IfSome row CanJoin → IfSome (next_row step row) CanBeTaken
row_given_so bytes found row None is e can = tt
row_given_so bytes found None (Some answer) is e can = tt
row_given_so bytes found (Some row) (Some answer) is e can = (can, row_writable bytes found row is e)

pub row_given : (bytes : List ℕ) (found : Record) (step : Option Step) → IsRecordOf bytes found
    → IfSome found.row CanJoin → IfSome (next_row step found.row) CanBeTaken
row_given bytes found step is can = row_given_so bytes found found.row step is refl can

-- the record that was read has this outline
pub next_of : (position : Position) (outline : Outline)
    → IsJudged (λ found. outline ≡ outline_of found) position.strict position.waiting
    → (found : Record) × IsRecordAhead position outline found
next_of position outline judged = (
  judged.found,
  record {
    outline_is = judged.stands_for;
    is_record = judged.is_record;
    can_join = judged.can_join;
    agrees = judged.agrees;
  },
)

-- a record that was read with its samples is the one that the bytes begin with
pub next_read : (position : Position) (found : Record) (outline : Outline)
    → IsJudged (λ other. found ≡ other) position.strict position.waiting → outline ≡ outline_of found
    → IsRecordAhead position outline found
next_read position found outline judged same = record {
  outline_is = same;
  is_record = subst (λ (it : Record). IsRecordOf position.waiting it) (sym judged.stands_for) judged.is_record;
  can_join = subst (λ (it : Record). IfSome it.row CanJoin) (sym judged.stands_for) judged.can_join;
  agrees = subst (λ (it : Record). Agrees position.strict it) (sym judged.stands_for) judged.agrees;
}

-- and the room is that for it
pub room_told : (position : Position) (found : Record) (outline : Outline) (before : ℕ)
    → IsGiven (λ other. found ≡ other) position.strict position.waiting position.room before
    → outline ≡ outline_of found → position.room ≤ room_with outline.length before
room_told position found outline before given same =
    let size : outline.length ≡ given.judged.found.length = ap (λ (o : Outline). o.length) same
    ∙ ap (λ (it : Record). it.length) given.judged.stands_for in
    subst (λ (n : ℕ). position.room ≤ room_with n before) (sym size) given.room_is

-- a row was told, by its outline
outline_told_so : (s a : Device) (bytes : List ℕ) (reading : RowReading) (records : List Record)
    (answers : List Step) (found : Record) (row : Option Row) (step : Option Step) (next : NextOutline)
    → IsRecordOf bytes found → found.row ≡ row → next_outline step (option_map row_outline row) ≡ Some next
    → ReadsOn s a reading records answers (next_row step row) → ReadsOutline s a reading records answers next
outline_told_so s a bytes reading records answers found None None next is e told reads = absurd cc
outline_told_so s a bytes reading records answers found None (Some answer) next is e told reads = absurd cc
outline_told_so s a bytes reading records answers found (Some row) None next is e told reads = absurd cc
outline_told_so s a bytes reading records answers found (Some row) (Some answer) next is e told reads =
    let same : ◌≡◌ {A = NextOutline} (record { step = answer; row = row_outline row }) next = cc in
    let outline : ReadsOutline s a reading records answers (record { step = answer; row = row_outline row }) =
    record { row = row; outline_is = refl; writable = row_writable bytes found row is e; reads = reads } in
    subst (λ (n : NextOutline). ReadsOutline s a reading records answers n) same outline

pub outline_told : (s a : Device) (position : Position) (reading : RowReading) (records : List Record)
    (answers : List Step) (outline : Outline) (found : Record) (step : Option Step) (next : NextOutline)
    → IsRecordAhead position outline found → next_outline step outline.row ≡ Some next
    → ReadsOn s a reading records answers (next_row step found.row) → ReadsOutline s a reading records answers next
outline_told s a position reading records answers outline found step next given told reads =
    let same = ap (λ (o : Outline). next_outline step o.row) given.outline_is in
    outline_told_so s a position.waiting reading records answers found found.row step next given.is_record refl
    (sym same ∙ told) reads

-- none was told
outline_none_so : (s a : Device) (reading : RowReading) (records : List Record) (answers : List Step)
    (row : Option Row) (step : Option Step) → next_outline step (option_map row_outline row) ≡ None
    → ReadsOn s a reading records answers (next_row step row) → ReadsNoRow s a reading records answers
outline_none_so s a reading records answers row None told reads = reads
outline_none_so s a reading records answers None (Some answer) told reads = reads
outline_none_so s a reading records answers (Some row) (Some answer) told reads = absurd cc

pub outline_none : (s a : Device) (position : Position) (reading : RowReading) (records : List Record)
    (answers : List Step) (outline : Outline) (found : Record) (step : Option Step) → IsRecordAhead position outline found
    → next_outline step outline.row ≡ None → ReadsOn s a reading records answers (next_row step found.row)
    → ReadsNoRow s a reading records answers
outline_none s a position reading records answers outline found step given told reads =
    let same = ap (λ (o : Outline). next_outline step o.row) given.outline_is in
    outline_none_so s a reading records answers found.row step (sym same ∙ told) reads

-- and the follower stays where it is
pub outline_stays : (old new : Following) (row : Option RowOutline) (step : Option Step) → FollowsIfAny old row step new
    → next_outline step row ≡ None → new ≡ old
outline_stays old new None step follows told = follows.1
outline_stays old new (Some row) step follows told =
    let some : next_outline (Some follows.answer) (Some row) ≡ None =
    subst (λ (s : Option Step). next_outline s (Some row) ≡ None) follows.told told in
    absurd cc

pub outline_bounds : (P : Type 0) (row : Option RowOutline) (step : Option Step) (next : NextOutline)
    → next_outline step row ≡ Some next → IfSome step (λ answer. P) → P
outline_bounds P row None next told holds = absurd cc
outline_bounds P row (Some answer) next told holds = holds

-- after records without rows the same holds
pub stops_behind : (settings : Settings) (s a b : Device) (reading : RowReading) (records : List Record)
    (answers : List Step) (why : ReadFault) (none : ReadsNoRow s a reading records answers)
    → StopsRows settings s b none.after why → StopsRows settings s b records why
stops_behind settings s a b reading records answers why none stops = λ given begun.
    stops given (record { others = begun.others; are_segments = rw none.rows begun.are_segments })

pub none_behind : (s a b : Device) (reading new : RowReading) (records : List Record) (answers : List Step)
    (none : ReadsNoRow s a reading records answers) → ReadsNoRow s b new none.after answers
    → ReadsNoRow s b new records answers
none_behind s a b reading new records answers none more =
    record { after = more.after; rows = more.rows ∙ none.rows; read = more.read }

pub row_behind : (s a b : Device) (reading new : RowReading) (records : List Record) (answers : List Step)
    (next : NextRow) (none : ReadsNoRow s a reading records answers) → ReadsRow s b new none.after answers next
    → ReadsRow s b new records answers next
row_behind s a b reading new records answers next none more = record {
  after = more.after;
  rows = more.rows ∙ ap (λ (rows : List Row). rows ++ next.row ∷ []) none.rows;
  read = more.read;
}

pub outline_behind : (s a b : Device) (reading new : RowReading) (records : List Record) (answers : List Step)
    (next : NextOutline) (none : ReadsNoRow s a reading records answers)
    → ReadsOutline s b new none.after answers next → ReadsOutline s b new records answers next
outline_behind s a b reading new records answers next none more = record {
  row = more.row;
  outline_is = more.outline_is;
  writable = more.writable;
  reads = row_behind s a b reading new records answers (record { step = next.step; row = more.row }) none more.reads;
}

pub all_rows_are_readable : AllRowsAreReadable
all_rows_are_readable start now reading records answers joining given end joined same =
    let none = subst (λ (t : ℕ). NoneOverruns t end.none.after) (sym same) end.none.read.in_range in
    let all = subst (λ (rows : List Row). HasJoined joining rows given) (sym end.none.rows) joined in
    subst (λ (t : ℕ). GaveReadable start (record { tolerance = t; strict = reading.position.strict })
    (given ++ option_to_list joining.current) reading.position.counts) same
    (readable_at_end start now reading.position joining end.none.after given end.none.read.came end.none_wait
    end.ended none all)

pub end_behind : (s a b : Device) (reading new : RowReading) (records : List Record) (answers : List Step)
    (none : ReadsNoRow s a reading records answers) → ReadsToEnd s b new none.after answers
    → ReadsToEnd s b new records answers
end_behind s a b reading new records answers none end = record {
  none = none_behind s a b reading new records answers none end.none;
  none_wait = end.none_wait;
  ended = end.ended;
}

-- what a record does with a follower, by what is told of its row
pub steps_to : (old new : Following) (row : Option Row) (step : Option Step)
    → FollowsIfAny old (option_map row_outline row) step new → StepsTo old (next_row step row) new
steps_to old new None step follows = rw follows.0 follows.1
steps_to old new (Some row) step follows = rw follows.told follows.is_step
