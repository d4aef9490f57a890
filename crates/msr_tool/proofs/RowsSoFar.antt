-- The rows so far, and the segments that a joiner at the follower's place makes of them.
use Rattle.std.proofs.Common.{◌≡◌, List, [], ◌∷◌, ◌++◌, ◌∙◌, arith, append_assoc, refl, sym, ap, All, Option, Some, None, IfSome, MatchOption}
use Rattle.std.proofs.lemmas.List.{append-nil}
use Rattle.std.specs.Option.{option_to_list}
use Rattle.msr_rows.specs.declared.row.Record.{Record}
use Rattle.msr_rows.specs.declared.row.Row.{Row}
use Rattle.msr_segments.specs.declared.follow.Step.{Step}
use Rattle.msr_segments.specs.declared.follow.Step.TheVariants.{Begins, Joins}
use Rattle.msr_segments.specs.declared.joiner.Segment.{Segment}
use Rattle.msr_segments.specs.Spans.{Following, IsInBounds, TakesStep}
use Rattle.msr_segments.specs.Segments.{AreSegments, row_segment, row_span}
use Rattle.msr_segments.specs.Joining.{Joining, HasJoined, IsPushTold, following_of}
use Rattle.msr_segments.proofs.Histories.{joined_none}
use Rattle.msr_segments.proofs.StepLaws.{pushes_grow, steps_push}
use Rattle.msr_devices.specs.Device.{Device}
use Rattle.msr_base.specs.declared.counts.Counts.{Counts}
use Rattle.msr_input.specs.Input.{HaveBegun, rows_of_records}
use Rattle.msr_input.specs.Reading.{GaveReadable, IsWritable, StopsAfter, StopsReading}
use Rattle.msr_input.specs.Rows.{RowReading, HasReadRows, ReadsNoRow, ReadsRow, ReadsToEnd, StepsTo, StopsRows, row_settings}
use Rattle.msr_input.specs.declared.settings.Settings.{Settings}
use Rattle.msr_input.specs.declared.fault.ReadFault.{ReadFault}
use Rattle.msr_input.specs.Steps.{CanJoin}
use Rattle.msr_input.specs.declared.row_reader.NextRow.{NextRow}
use Rattle.msr_input.proofs.RecordsThatCame.{come_given}
use Rattle.msr_input.proofs.Histories.{push_writable, stops_after}
use Rattle.msr_input.proofs.Rows.{all_rows_are_readable}
use Rattle.msr_tool.specs.Writing.{all_with, current_after, current_with, ended_by, ended_with, longer_current}

-- A joiner of the rows so far stands where the follower does: these segments have ended, and it has the last one.
pub record RowsSoFar (settings : Settings) (source0 source : Device) (reading : RowReading) (given : List Segment)
    (joining : Joining) : Type 0 where
  pub records : List Record
  pub answers : List Step
  pub has_read : HasReadRows source0 source reading records answers
  pub joined : HasJoined joining (rows_of_records records) given
  pub stands : reading.following ≡ following_of joining
  pub in_bounds : IsInBounds reading.following.current
  pub same : row_settings reading ≡ settings
  pub writable : All IsWritable (given ++ option_to_list joining.current)

-- before the first row
pub no_rows : (settings : Settings) (source0 : Device) (reading : RowReading)
    → HasReadRows source0 source0 reading [] [] → reading.following
    ≡ record { tolerance = settings.tolerance; current = None } → reading.position.strict ≡ settings.strict
    → RowsSoFar settings source0 source0 reading [] (record { tolerance = settings.tolerance; current = None })
no_rows settings source0 reading has follows strict = record {
  records = [];
  answers = [];
  has_read = has;
  joined = joined_none settings.tolerance;
  stands = follows;
  in_bounds = rw follows (λ segment e. absurd cc);
  same = rw (follows, strict) refl;
  writable = λ k d h. absurd (omega arith);
}

-- what a joiner does with the row, by the follower's answer
push_told : (answer : Step) (old : Joining) (row : Row) (ended : Option Segment) (new : Joining)
    → IsPushTold answer old row ended new
    → (ended ≡ ended_by answer old.current) × (new.current ≡ current_after answer old.current row)
push_told Begins old row ended new k = (k.ended, ap (λ (joining : Joining). joining.current) k.after)
push_told Joins old row ended new k = (
  k.none,
  ap (λ (joining : Joining). joining.current) k.after
      ∙ sym (ap (λ (current : Option Segment). longer_current current row.samples) k.current),
)

-- one record more
pub record RecordMore (settings : Settings) (source0 source : Device) (reading : RowReading) (given : List Segment)
    (joining : Joining) (next : Option NextRow) : Type 0 where
  pub new : Joining
  pub rows : RowsSoFar settings source0 source reading (given ++ option_to_list (ended_with next joining.current)) new
  pub current : new.current ≡ current_with next joining.current

module _ {settings : Settings} {source0 source : Device} {reading : RowReading} {given : List Segment}
    {joining : Joining} (u : RowsSoFar settings source0 source reading given joining) where
  pub row_more : (source' : Device) (reading' : RowReading) (next : NextRow)
      → ReadsRow source0 source' reading' u.records u.answers next
      → TakesStep reading.following (row_span next.row) next.step reading'.following
      → row_settings reading' ≡ row_settings reading → IsInBounds reading'.following.current
      → IsWritable (row_segment next.row) → RecordMore settings source0 source' reading' given joining (Some next)
  row_more source' reading' next reads step still bounds writable =
      let push = steps_push joining next.row next.step reading'.following (rw u.stands at step) in
      let told = push_told next.step joining next.row push.1 push.0 push.2 in
      let is_push = rw told.0 at push.3 in
      let ended = ended_by next.step joining.current in
      record {
        new = push.0;
        rows = record {
          records = reads.after;
          answers = u.answers ++ next.step ∷ [];
          has_read = reads.read;
          joined = rw reads.rows
              (pushes_grow joining push.0 (rows_of_records u.records) given next.row ended u.joined is_push);
          stands = push.4;
          in_bounds = bounds;
          same = still ∙ u.same;
          writable = push_writable joining push.0 given next.row ended u.writable writable is_push;
        };
        current = told.1;
      }

  pub record_more : (source' : Device) (reading' : RowReading) (next : Option NextRow)
      → MatchOption next (ReadsNoRow source0 source' reading' u.records u.answers)
      (ReadsRow source0 source' reading' u.records u.answers)
      → StepsTo reading.following next reading'.following → row_settings reading' ≡ row_settings reading
      → IfSome next (λ row. IsInBounds reading'.following.current)
      → IfSome next (λ found. CanJoin found.row × IsWritable (row_segment found.row))
      → RecordMore settings source0 source' reading' given joining next
  record_more source' reading' None reads step still bounds row = record {
    new = joining;
    rows = rw (append-nil given) (record {
      records = reads.after;
      answers = u.answers;
      has_read = reads.read;
      joined = rw reads.rows u.joined;
      stands = step ∙ u.stands;
      in_bounds = rw step u.in_bounds;
      same = still ∙ u.same;
      writable = u.writable;
    });
    current = refl;
  }
  record_more source' reading' (Some next) reads step still bounds row =
      row_more source' reading' next reads step still bounds row.1

  -- all segments so far, with the one that has not ended
  begun_all : HaveBegun reading.following.tolerance u.records (given ++ option_to_list joining.current)
  begun_all = rw u.stands (record {
    others = [];
    are_segments = rw (append-nil (given ++ option_to_list joining.current)) u.joined.segments;
  })

  pub rows_begun : AreSegments settings.tolerance (rows_of_records u.records) (given ++ option_to_list joining.current)
  rows_begun = rw (← u.same, u.stands) u.joined.segments

  -- they are read
  pub rows_read : StopsAfter settings source0 (given ++ option_to_list joining.current)
  rows_read = rw (← u.same)
      (stops_after (row_settings reading) source0 u.records (given ++ option_to_list joining.current)
      (come_given source0 source reading.position u.records u.has_read.came) u.has_read.in_range begun_all)

  pub given_read : StopsAfter settings source0 given
  given_read = record {
    input = rows_read.input;
    records = rows_read.records;
    rest = rows_read.rest;
    left = rows_read.left;
    are_read = rows_read.are_read;
    begun = record {
      others = option_to_list joining.current ++ rows_read.begun.others;
      are_segments = rw (← append_assoc given (option_to_list joining.current) rows_read.begun.others)
          rows_read.begun.are_segments;
    };
  }

  -- why no row was given
  pub rows_stop : (source' : Device) (why : ReadFault) → StopsRows (row_settings reading) source0 source' u.records why
      → StopsReading settings source0 source' (given ++ option_to_list joining.current) why
  rows_stop source' why stops =
      rw (← u.same) (stops (given ++ option_to_list joining.current) begun_all)

  -- the input has ended, and with it the last segment
  pub rows_end : (source' : Device) (reading' : RowReading) (counts : Counts)
      → ReadsToEnd source0 source' reading' u.records u.answers → row_settings reading' ≡ row_settings reading
      → counts ≡ reading'.position.counts
      → GaveReadable source0 settings (given ++ option_to_list joining.current) counts
  rows_end source' reading' counts end still same_counts =
      let same_tolerance : joining.tolerance ≡ reading'.following.tolerance =
      sym (ap (λ (f : Following). f.tolerance) u.stands) ∙ sym (ap (λ (s : Settings). s.tolerance) still) in
      rw (same_counts, ← u.same, ← still) (all_rows_are_readable source0 source' reading' u.records u.answers joining
      given end u.joined same_tolerance)

pub more_read : {settings : Settings} {source0 source : Device} {reading : RowReading} (given : List Segment)
    (joining : Joining) (next : Option NextRow) → RecordMore settings source0 source reading given joining next
    → StopsAfter settings source0 (given ++ all_with next joining.current)
more_read given joining next m =
    rw (← m.current, ← append_assoc given (option_to_list (ended_with next joining.current)) _) (rows_read m.rows)
