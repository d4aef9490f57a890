-- The state of listing between two rows, and what is answered when it stops.
use Rattle.std.proofs.Common.{◌≡◌, inl, inr, All, ℕ, ◌<◌, List, [], ◌∷◌, ◌++◌, ◌∙◌, length, length-append, refl, sym, ap, Ok, Err, Option, Some, None, IfSome}
use Rattle.std.proofs.lemmas.List.{append-nil}
use Rattle.std.proofs.lemmas.List.Elements.{All-pop}
use Rattle.std.specs.Prelude.{option_map}
use Rattle.std.specs.Option.{option_to_list}
use Rattle.msr_rows.specs.declared.row.Row.{Row}
use Rattle.msr_segments.specs.declared.follow.Step.{Step}
use Rattle.msr_segments.specs.declared.follow.Step.TheVariants.{Begins, Joins}
use Rattle.msr_segments.specs.declared.joiner.Segment.{Segment}
use Rattle.msr_segments.specs.declared.span.Span.{Span}
use Rattle.msr_segments.specs.Spans.{Following, IsInBounds, TakesStep}
use Rattle.msr_segments.specs.Segments.{segment_span}
use Rattle.msr_segments.specs.Joining.{Joining}
use Rattle.msr_devices.specs.Device.{Device}
use Rattle.msr_options.specs.declared.task.ListForm.{ListForm}
use Rattle.msr_base.specs.declared.counts.Counts.{Counts}
use Rattle.msr_input.specs.Outlines.{outline_span, row_outline}
use Rattle.msr_input.specs.Reading.{GaveReadable, IsWritable, StopsAfter, StopsReading}
use Rattle.msr_input.specs.Rows.{RowReading, ReadsOutline, row_settings}
use Rattle.msr_input.specs.declared.settings.Settings.{Settings}
use Rattle.msr_input.specs.declared.fault.ReadFault.{ReadFault}
use Rattle.msr_input.specs.declared.fault.ReadFault.TheVariants as read
use Rattle.msr_input.specs.declared.row_reader.NextOutline.{NextOutline}
use Rattle.msr_tool.specs.Fault.{fault_of_reading}
use Rattle.msr_tool.specs.Listing.{AreListLines, IsListed, IsListStopped, IsListedTo, ListAnswers, last_line, listed_of}
use Rattle.msr_tool.specs.ListWriting.{Lister, HasListed, HasListedAll, HasListedPrefix, StopsListing, StopsListingAll, IsOpenInBounds, open_after}
use Rattle.msr_tool.specs.Writing.{current_after, ended_by}
use Rattle.msr_tool.specs.declared.fault.ToolFault.{ToolFault}
use Rattle.msr_tool.specs.declared.fault.ToolFault.TheVariants as fault
use Rattle.msr_tool.proofs.Lines.{stops_by}
use Rattle.msr_tool.proofs.Listed.{prefix_wider}
use Rattle.msr_tool.proofs.RowsSoFar.{RowsSoFar, RecordMore, row_more}
use Rattle.msr_tool.proofs.StoppedRepacks.{IsAnswered}

-- A joiner of the rows so far says what was begun and what has ended.
pub record UnderList (form : ListForm) (settings : Settings) (source0 source sink0 sink : Device) (reading : RowReading)
    (lister : Lister) : Type 0 where
  pub given : List Segment
  pub joining : Joining
  pub rows : RowsSoFar settings source0 source reading given joining
  pub same_form : lister.form ≡ form
  pub listed : HasListed form sink0 sink lister.waiting lister.before given
  pub last : lister.last ≡ option_map listed_of joining.current
  pub few_wait : length lister.waiting < 65536

bounds_of : (given : List Segment) (at : Option Span) (current : Option Segment) → IsInBounds at
    → All IsWritable (given ++ option_to_list current) → at ≡ option_map segment_span current
    → IfSome (option_map listed_of current) IsOpenInBounds
bounds_of given at None bounds writable e = tt
bounds_of given at (Some segment) bounds writable e =
    let w = (All-pop IsWritable (given ++ segment ∷ []) given (Some segment) refl writable).1 in
    record { in_time = w.in_time; some = w.some; few = (bounds (segment_span segment) e).1 }

-- the segment that was begun last is in bounds
pub last_in_bounds : {form : ListForm} {settings : Settings} {source0 source sink0 sink : Device}
    {reading : RowReading} {lister : Lister} → UnderList form settings source0 source sink0 sink reading lister
    → IfSome lister.last IsOpenInBounds
last_in_bounds {reading = reading} u =
    rw u.last (bounds_of u.given reading.following.current u.joining.current u.rows.in_bounds u.rows.writable
    (ap (λ (f : Following). f.current) u.rows.stands))

-- what the line of the segment that was begun last tells, after a row
open_told : (answer : Step) (current : Option Segment) (row : Row)
    → open_after answer (option_map listed_of current) (row_outline row)
    ≡ option_map listed_of (current_after answer current row)
open_told Begins current row = refl
open_told Joins None row = refl
open_told Joins (Some before) row = rw (length-append before.samples row.samples) refl

-- the rows with the next one, of which its outline was told
pub outline_more : {settings : Settings} {source0 source source' : Device} {reading reading' : RowReading}
    {given : List Segment} {joining : Joining} {next : NextOutline}
    (u : RowsSoFar settings source0 source reading given joining)
    (reads : ReadsOutline source0 source' reading' u.records u.answers next)
    → TakesStep reading.following (outline_span next.row) next.step reading'.following
    → row_settings reading' ≡ row_settings reading → IsInBounds reading'.following.current
    → RecordMore settings source0 source' reading' given joining
    (Some (record { step = next.step; row = reads.row }))
outline_more {source' = source'} {reading' = reading'} {next = next} u reads step still bounds =
    row_more u source' reading' (record { step = next.step; row = reads.row }) reads.reads
    (rw reads.outline_is at step) still bounds reads.writable

-- after the next row
pub under_more : {form : ListForm} {settings : Settings} {source0 source' sink0 sink' : Device} {reading' : RowReading}
    {lister' : Lister} (lister : Lister) (given : List Segment) (joining : Joining) (next : NextOutline) (row : Row)
    → next.row ≡ row_outline row → lister.last ≡ option_map listed_of joining.current
    → RecordMore settings source0 source' reading' given joining
    (Some (record { step = next.step; row = row }))
    → lister.form ≡ form → lister'.form ≡ lister.form → HasListed lister.form sink0 sink' lister'.waiting lister'.before
    (given ++ option_to_list (ended_by next.step joining.current))
    → lister'.last ≡ open_after next.step lister.last next.row → length lister'.waiting < 65536
    → UnderList form settings source0 source' sink0 sink' reading' lister'
under_more lister given joining next row outline was m same_form still listed last few_wait = record {
  given = given ++ option_to_list (ended_by next.step joining.current);
  joining = m.new;
  rows = m.rows;
  same_form = still ∙ same_form;
  listed = rw same_form at listed;
  last = last ∙ (rw (was, outline, m.current) (open_told next.step joining.current row));
  few_wait = few_wait;
}

module _ (form : ListForm) (settings : Settings) (source0 sink0 sink : Device) (given : List Segment) where
  stopped : StopsAfter settings source0 given → HasListedPrefix form sink0 sink given
      → IsAnswered (ListAnswers form settings) source0 sink0 sink (Err fault.Read)
  stopped h prefix =
      let wide = prefix_wider h.begun.others prefix in
      let is : IsListStopped form settings h.input wide.taken = search in
      (h.input, wide.taken, h.left, wide.takes, is)

  -- no further segment is read
  pub list_read_failed : (source : Device) (why : ReadFault) → StopsReading settings source0 source given why
      → HasListedPrefix form sink0 sink given
      → IsAnswered (ListAnswers form settings) source0 sink0 sink (Err (fault_of_reading why))
  list_read_failed source (read.Input found) h prefix =
      let wide = prefix_wider h.0.begun.others prefix in
      let is : IsListedTo form settings h.0.input wide.taken found = search in
      (h.0.input, wide.taken, h.0.left, wide.takes, is)
  list_read_failed source read.Read h prefix = stopped h.0 prefix
  list_read_failed source read.Memory h prefix = stopped h.0 prefix

  -- a line is not written
  pub list_write_failed : (found : ToolFault) → StopsAfter settings source0 given
      → StopsListing form sink0 sink given found
      → IsAnswered (ListAnswers form settings) source0 sink0 sink (Err found)
  list_write_failed found after =
      stops_by _ _ sink0 sink (λ found. IsAnswered (ListAnswers form settings) source0 sink0 sink (Err found))
      (λ h. let s = stopped after h.0 in (s.0, s.1, s.2, s.3, inl s.4)) (λ h. stopped after h.0) found

module _ (form : ListForm) (settings : Settings) (source0 sink0 sink : Device) (segments : List Segment)
    (counts : Counts) (gave : GaveReadable source0 settings segments counts) where
  -- some of an input that was read to its end
  after_end : StopsAfter settings source0 segments
  after_end = record {
    input = gave.input;
    records = gave.records;
    rest = [];
    left = gave.left;
    are_read = gave.readable.are_read;
    begun = record { others = []; are_segments = rw (append-nil segments) gave.readable.are_segments };
  }

  -- what is listed by these lines
  listed : (text written : List ℕ) → AreListLines form segments text → written ≡ text ++ last_line form counts
      → IsListed form settings gave.input written counts
  listed text written lines whole = record {
    records = gave.records;
    segments = segments;
    text = text;
    readable = gave.readable;
    lines = lines;
    are_counts = gave.counted;
    whole = whole;
  }

  -- the last lines are not written
  pub list_all_failed : (found : ToolFault) → StopsListingAll form sink0 sink segments counts found
      → IsAnswered (ListAnswers form settings) source0 sink0 sink (Err found)
  list_all_failed = stops_by _ _ sink0 sink
      (λ found. IsAnswered (ListAnswers form settings) source0 sink0 sink (Err found))
      (λ h. (
        gave.input,
        h.0.taken,
        gave.left,
        h.0.takes,
        inr (record { counts = counts; tail = h.0.tail; listed = listed h.0.text _ h.0.lines (sym h.0.whole) }),
      ))
      (λ h. stopped form settings source0 sink0 sink segments after_end h.0)

  -- all was written
  pub list_done : HasListedAll form sink0 sink segments counts
      → IsAnswered (ListAnswers form settings) source0 sink0 sink (Ok counts)
  list_done h = (gave.input, h.text ++ last_line form counts, gave.left, h.takes, listed h.text _ h.lines refl)
