-- Segments written one after another, and their lines.
use Rattle.std.proofs.Common.{◌≡◌, ◌≤◌, false, List, [], ◌∷◌, ◌++◌, ◌∙◌, map, length, refl, sym, ap, arith, append_assoc, All, Option, Some, None, IfSome, ◌+◌}
use Rattle.std.specs.Prelude.{option_map}
use Rattle.std.specs.Option.{option_to_list}
use Rattle.std.proofs.lemmas.List.{map-append, append-nil}
use Rattle.std.proofs.lemmas.List.Elements.{All-push}
use Rattle.msr_base.specs.declared.forms.Form.{Form}
use Rattle.msr_rows.specs.declared.row.Row.{Row}
use Rattle.msr_segments.specs.declared.joiner.Segment.{Segment}
use Rattle.msr_segments.specs.declared.span.Span.{Span}
use Rattle.msr_segments.specs.Spans.{Following, IsInBounds, JoinsSegment, SpanIsInTime, longer}
use Rattle.msr_segments.specs.Segments.{row_segment, row_span, segment_span}
use Rattle.msr_devices.specs.Device.{Device, HasFailed, IsCalm, IsSteady}
use Rattle.msr_report.specs.declared.report.SegmentLine.{SegmentLine}
use Rattle.msr_report.specs.Proper.{IsProperLine, records_in}
use Rattle.msr_input.specs.Reading.{IsWritable}
use Rattle.msr_input.specs.Rows.{StepsTo}
use Rattle.msr_input.specs.Steps.{CanJoin}
use Rattle.msr_input.specs.declared.row_reader.NextRow.{NextRow}
use Rattle.msr_report_reader.specs.Content.{IsContentLine, content_line}
use Rattle.msr_record.specs.Opened.{Opened, CanGoOn, HasBegun, count_of}
use Rattle.msr_record.specs.Output.{Packed, segment_of_packed, count_of_runs}
use Rattle.msr_record.specs.Writing.{Writing, IsLineOf, HasWritten, HasWrittenAll, HasWrittenPrefix, WritesSegment, StopsWriting}
use Rattle.msr_devices.specs.declared.fault.DeviceFault.{DeviceFault}
use Rattle.msr_devices.specs.declared.fault.DeviceFault.TheVariants as write
use Rattle.msr_tool.specs.Fault.{fault_of_writing}
use Rattle.msr_record.specs.Decided.{IsEncoded}
use Rattle.msr_record.proofs.OpenSegments.{packs_count, refused_now, writable_now}
use Rattle.msr_record.proofs.DecidedRecords.{HasWrittenDecided, begun_decided, written_decided}
use Rattle.msr_tool.specs.Writing.{Lined, HasLined, LinesMore, StandsWritten, GoesOn, CanGrow, CanTakeRow, StopsLining, StopsSink}
use Rattle.msr_tool.specs.Answer.{AreLinesOf}
use Rattle.msr_tool.specs.declared.fault.ToolFault.{ToolFault}
use Rattle.msr_tool.specs.declared.fault.ToolFault.TheVariants.{Memory}
use Rattle.msr_tool.specs.declared.fault.ToolFault.TheVariants as fault

pub lines_snoc : (packed : List Packed) (lines : List SegmentLine) (more : Packed) (line : SegmentLine)
    → AreLinesOf packed lines → IsLineOf more line → AreLinesOf (packed ++ more ∷ []) (lines ++ line ∷ [])
lines_snoc [] lines more line are is = rw are (is, refl)
lines_snoc (one ∷ packed) [] more line are is = absurd are
lines_snoc (one ∷ packed) (its ∷ lines) more line are is = (are.0, lines_snoc packed lines more line are.1 is)

-- as many records as the segments have runs
pub records_of_lines : (packed : List Packed) (lines : List SegmentLine) → AreLinesOf packed lines
    → records_in lines ≡ count_of_runs packed
records_of_lines [] lines are = rw are refl
records_of_lines (one ∷ packed) [] are = absurd are
records_of_lines (one ∷ packed) (its ∷ lines) are = omega (arith, are.0.records, records_of_lines packed lines are.1)

pub same_more : (packed : List Packed) (more : Packed) (segment : Segment) → more.segment ≡ segment
    → map segment_of_packed (packed ++ more ∷ []) ≡ map segment_of_packed packed ++ segment ∷ []
same_more packed more segment same = rw (map-append segment_of_packed packed (more ∷ []), same) refl

-- a prefix of the output of some segments is one of more segments
pub prefix_more : {form : Form} {start now : Device} {segments : List Segment} (others : List Segment)
    → HasWrittenPrefix form start now segments → HasWrittenPrefix form start now (segments ++ others)
prefix_more others h = record {
  taken = h.taken;
  takes = h.takes;
  prefix = record {
    packed = h.prefix.packed;
    others = h.prefix.others ++ others;
    rows = h.prefix.rows;
    tail = h.prefix.tail;
    some_first = ap (λ (s : List Segment). s ++ others) h.prefix.some_first
        ∙ append_assoc (map segment_of_packed h.prefix.packed) h.prefix.others others;
    output = h.prefix.output;
  };
}

-- what was written so far is a prefix of the output of all segments
prefix_of : {start now : Device} {writing : Writing} {packed : List Packed} {rows : List Row}
    → HasWritten start now writing packed rows → HasWrittenPrefix writing.form start now (map segment_of_packed packed)
prefix_of {writing = writing} {packed = packed} {rows = rows} h = record {
  taken = h.taken;
  takes = h.takes;
  prefix = record {
    packed = packed;
    others = [];
    rows = rows;
    tail = writing.waiting;
    some_first = sym (append-nil (map segment_of_packed packed));
    output = rw (← h.whole) h.output;
  };
}

pub stops_lining : (form : Form) (start now : Device) (segments : List Segment) (fault : DeviceFault)
    → StopsWriting form start now segments fault → StopsLining form start now segments (fault_of_writing fault)
stops_lining form start now segments write.Failed h = h
stops_lining form start now segments write.Memory h = h

-- there is no memory for the line
pub stops_pushing : {start now : Device} {writing : Writing} {packed : List Packed} {segment : Segment}
    {line : SegmentLine} {form : Form} → writing.form ≡ form → WritesSegment start now writing packed segment line
    → StopsLining form start now (map segment_of_packed packed ++ segment ∷ []) Memory
stops_pushing {packed = packed} {segment = segment} same_form h = (
  rw (← same_more packed h.more segment h.same, ← same_form) (prefix_of h.written),
  h.written.calm.steady,
)

-- what is so of a segment that goes on is so of its line
pub line_proper : {start now : Device} {writing : Writing} {packed : List Packed} {segment : Segment}
    {line : SegmentLine} {opened : Opened} → WritesSegment start now writing packed segment line
    → CanGoOn false opened → opened.key ≡ segment.key → opened.start ≡ segment.start → IsProperLine line
line_proper h can same_key same_start =
    let key = h.is_line.key ∙ ap (λ (s : Segment). s.key) h.same ∙ sym same_key in
    let at = h.is_line.start ∙ ap (λ (s : Segment). s.start) h.same ∙ sym same_start ∙ can.is_open.start in
    record { quality = rw key can.writable.quality; start = rw at can.in_time.first_in }

-- ---- a segment ends

pub lines_more : {start now : Device} {writing : Writing} (old : List SegmentLine) {new : List SegmentLine}
    {packed : List Packed} {segment : Segment} {line : SegmentLine} → AreLinesOf packed old
    → All IsContentLine (map content_line old) → WritesSegment start now writing packed segment line
    → IsContentLine (content_line line) → new ≡ old ++ line ∷ []
    → LinesMore start now (record { writing = writing; lines = new; last = None }) packed (segment ∷ []) None
lines_more old {packed = packed} {segment = segment} {line = line} are contents h is_content pushed = record {
  all = packed ++ h.more ∷ [];
  same = same_more packed h.more segment h.same;
  after = record {
    written = (h.rows, h.written);
    are_lines = rw pushed (lines_snoc packed old h.more line are h.is_line);
    contents = rw (pushed, map-append content_line old (line ∷ []))
        (All-push IsContentLine (map content_line old) (content_line line) contents is_content);
  };
}

-- the segment that was begun last
pub record Last (start now : Device) (writing : Writing) (packed : List Packed) (current : Option Segment)
    (opened : Opened) : Type 0 where
  pub segment : Segment
  pub is : current ≡ Some segment
  pub begun : HasBegun start now writing packed segment opened

pub last_begun : (start now : Device) (writing : Writing) (packed : List Packed) (current : Option Segment)
    (opened : Opened) → StandsWritten start now writing packed current (Some opened)
    → Last start now writing packed current opened
last_begun start now writing packed None opened h = absurd h
last_begun start now writing packed (Some segment) opened h = record { segment = segment; is = refl; begun = h }

-- ---- a segment begins

pub grows_new : (opened : Opened) (row : Row) → count_of opened ≡ 0 → opened.key ≡ row.key
    → opened.start ≡ row.start → IsWritable (row_segment row) → length row.samples ≤ 65_535
    → CanGrow (length row.samples) opened
grows_new opened row none key start writable few =
    let count : count_of opened + length row.samples ≡ length row.samples = omega (arith, none) in
    record { number = omega (arith, none, few); in_time = rw (key, start, count) writable.in_time }

-- what stops a sink is that it failed, or that memory was refused
pub stops_by : (failed refused : Type 0) (start now : Device) (P : ToolFault → Type 0)
    → (failed × HasFailed start now → P fault.Write) → (refused × IsSteady start now → P fault.Memory)
    → (found : ToolFault) → StopsSink failed refused start now found → P found
stops_by failed refused start now P write memory (fault.Input other) h = absurd h
stops_by failed refused start now P write memory (fault.Report line) h = absurd h
stops_by failed refused start now P write memory fault.Read h = absurd h
stops_by failed refused start now P write memory fault.Write h = write h
stops_by failed refused start now P write memory fault.Memory h = memory h

-- when it stops, a prefix of the output of more segments was written
pub stops_wider : (form : Form) (start now : Device) (segments others : List Segment) (found : ToolFault)
    → StopsLining form start now segments found → StopsLining form start now (segments ++ others) found
stops_wider form start now segments others =
    stops_by _ _ start now (λ found. StopsLining form start now (segments ++ others) found)
    (λ h. (prefix_more others h.0, h.1)) (λ h. (prefix_more others h.0, h.1))

-- nothing waits, so that all was written
pub written_now : {start now : Device} {w : Writing} {packed : List Packed} {rows : List Row} → w.waiting ≡ []
    → HasWritten start now w packed rows → HasWrittenAll start now w packed rows
written_now none h =
    let whole = rw none at h.whole ∙ append-nil h.taken in
    record {
      bytes = h.taken;
      output = rw (← whole) h.output;
      takes = h.takes;
      short = grind (arith, h.moved, h.short);
      calm = h.calm;
    }

-- ---- when a segment goes on

stands_by : (start now : Device) (w : Writing) (packed : List Packed) (P : Option Segment → Type 0)
    (current : Option Segment) (last : Option Opened)
    → ((rows : List Row) → last ≡ None → HasWritten start now w packed rows → P None)
    → ((segment : Segment) (opened : Opened) → last ≡ Some opened → HasBegun start now w packed segment opened
    → P (Some segment)) → StandsWritten start now w packed current last → P current
stands_by start now w packed P None None none begun h = none h.0 refl h.1
stands_by start now w packed P None (Some opened) none begun h = absurd h
stands_by start now w packed P (Some segment) None none begun h = absurd h
stands_by start now w packed P (Some segment) (Some opened) none begun h = begun segment opened refl h

-- a row that joins a segment is in time
begun_grows : {start now : Device} {w : Writing} {packed : List Packed} (segment : Segment) (opened : Opened)
    (at : Option Span) (joined : Span) (row : Row) → HasBegun start now w packed segment opened
    → at ≡ Some (segment_span segment) → IsInBounds at → at ≡ Some joined
    → SpanIsInTime (longer joined (row_span row)) → length row.samples ≤ 65_535 → CanGrow (length row.samples) opened
begun_grows segment opened at joined row h is bounds some in_time few =
    let both : ◌≡◌ {A = Option Span} (Some joined) (Some (segment_span segment)) = sym some ∙ is in
    let same : joined ≡ segment_span segment = cc in
    let count : count_of opened ≡ length segment.samples =
    packs_count opened.form segment.samples h.runs opened.separators opened.packer h.is_open.gives in
    let most = (bounds (segment_span segment) is).1 in
    let long : SpanIsInTime (longer (segment_span segment) (row_span row)) = rw same at in_time in
    record { number = omega (arith, count, most, few); in_time = rw (h.is_open.key, h.is_open.start, count) long }

module _ {start now : Device} {lined : Lined} {packed : List Packed} {current : Option Segment}
    (h : HasLined start now lined packed current) where
  -- what is so between two segments, and in the middle of one, is so
  pub lined_by : (P : Option Segment → Type 0)
      → ((rows : List Row) → lined.last ≡ None → HasWritten start now lined.writing packed rows → P None)
      → ((segment : Segment) (opened : Opened) → lined.last ≡ Some opened
      → HasBegun start now lined.writing packed segment opened → P (Some segment)) → P current
  lined_by P none begun = stands_by start now lined.writing packed P current lined.last none begun h.written

  pub calm_lined : IsCalm start now
  calm_lined = lined_by (λ at. IsCalm start now) (λ rows none wrote. wrote.calm) (λ segment opened is begun. begun.calm)

  -- what was written so far is a prefix of the output of all segments, with the one that has not ended
  pub prefix_lined : IfSome lined.last (GoesOn lined.writing.form)
      → HasWrittenPrefix lined.writing.form start now (map segment_of_packed packed ++ option_to_list current)
  prefix_lined goes = lined_by
      (λ at. HasWrittenPrefix lined.writing.form start now (map segment_of_packed packed ++ option_to_list at))
      (λ rows none wrote. rw (append-nil (map segment_of_packed packed)) (prefix_of wrote))
      (λ segment opened is begun. let on : GoesOn lined.writing.form opened = rw is at goes in
      (refused_now start now lined.writing packed segment opened
      (writable_now opened on.can segment begun.runs begun.is_open begun.samples) begun).0)

  -- if nothing waits, all records that are decided were written
  pub lined_decided : IfSome lined.last IsEncoded → lined.writing.waiting ≡ []
      → HasWrittenDecided lined.writing.form start now (map segment_of_packed packed ++ option_to_list current)
  lined_decided encoded none = lined_by
      (λ at. HasWrittenDecided lined.writing.form start now (map segment_of_packed packed ++ option_to_list at))
      (λ rows between wrote. rw (append-nil (map segment_of_packed packed))
      (written_decided start now lined.writing packed rows wrote none))
      (λ segment opened is begun. begun_decided start now lined.writing packed segment opened begun
      (rw is at encoded) none)

  -- a row that joins can be taken
  pub can_take_row : (old new : Following) (next : Option NextRow) → old.current ≡ option_map segment_span current
      → IsInBounds old.current → StepsTo old next new
      → IfSome next (λ found. CanJoin found.row × IsWritable (row_segment found.row))
      → IfSome next (CanTakeRow lined.last)
  can_take_row old new None is bounds k row = tt
  can_take_row old new (Some next) is bounds k row = record {
    joins = λ joins.
        let at : JoinsSegment old (row_span next.row) new = rw joins at k in
        lined_by
        (λ at. old.current ≡ option_map segment_span at → IfSome lined.last (CanGrow (length next.row.samples)))
        (λ rows none wrote same. rw none tt)
        (λ segment opened last begun same. rw last (begun_grows segment opened old.current at.segment next.row begun
        same bounds at.current at.in_time row.0.few)) is;
    writable = row.1;
    few = row.0.few;
  }
