-- The state of repacking between two rows.
use Rattle.std.proofs.Common.{◌≡◌, ◌⊎◌, inl, inr, ℕ, ◌*◌, ◌^◌, ◌<◌, ◌≤◌, List, [], ◌∷◌, ◌++◌, ◌∙◌, length, map, All, refl, Ok, Err, IsErrOf, IfSome, arith}
use Rattle.std.proofs.Math.Nat.{mul-le-mul_right}
use Rattle.std.proofs.lemmas.List.Elements.{All-cons, All-head, All-nil, All-tail}
use Rattle.std.specs.Option.{option_to_list}
use Rattle.msr_base.specs.Lengths.{bytes_of}
use Rattle.msr_segments.specs.declared.joiner.Segment.{Segment}
use Rattle.msr_segments.specs.Joining.{Joining}
use Rattle.msr_devices.specs.Device.{Device, IsCalm}
use Rattle.msr_devices.proofs.Chaining.{left_of, steady_sound}
use Rattle.msr_base.specs.declared.counts.Counts.{Counts}
use Rattle.msr_report.specs.declared.report.Report.{Report}
use Rattle.msr_report.specs.declared.report.SegmentLine.{SegmentLine}
use Rattle.msr_report.specs.Proper.{IsProperLine}
use Rattle.msr_report_reader.specs.Content.{IsFirst}
use Rattle.msr_input.specs.Input.{rows_of_records}
use Rattle.msr_input.specs.Reading.{GaveReadable, HoldsRecord, IsWritable, StopsReading}
use Rattle.msr_input.specs.Records.{HaveComeShort}
use Rattle.msr_input.specs.Rows.{RowReading}
use Rattle.msr_input.specs.declared.fault.ReadFault.{ReadFault}
use Rattle.msr_input.specs.declared.fault.ReadFault.TheVariants as read
use Rattle.msr_record.specs.Output.{Packed, OutputKeepsSegments, OutputHasSize, segment_of_packed, count_of_runs}
use Rattle.msr_record.specs.Decided.{IsEncoded}
use Rattle.msr_options.specs.Choice.{Choice, form_chosen, record_size}
use Rattle.msr_tool.specs.Settings.{settings_of}
use Rattle.msr_tool.specs.Writing.{Lined, GoesOn, HasLined, LinesAll}
use Rattle.msr_tool.specs.Answer.{Answers, AreLinesOf}
use Rattle.msr_tool.specs.Fault.{fault_of_reading}
use Rattle.msr_tool.specs.KeepingUp.{HasKeptUp}
use Rattle.msr_tool.specs.declared.fault.ToolFault.TheVariants as fault
use Rattle.msr_tool.proofs.Lines.{lined_decided, records_of_lines}
use Rattle.msr_tool.proofs.RowsSoFar.{RowsSoFar, rows_begun}
use Rattle.msr_tool.proofs.StoppedRepacks.{IsAnswered}

pub record UnderWay (choice : Choice) (source0 source sink0 sink : Device) (reading : RowReading)
    (so_far : Lined) : Type 0 where
  pub packed : List Packed
  pub joining : Joining
  pub rows : RowsSoFar (settings_of choice) source0 source reading (map segment_of_packed packed) joining
  pub lined : HasLined sink0 sink so_far packed joining.current
  pub goes_on : IfSome so_far.last (GoesOn so_far.writing.form)
  pub encoded : IfSome so_far.last IsEncoded
  pub form : so_far.writing.form ≡ form_chosen choice
  pub calm : IsCalm sink0 sink

abbrev HasSome : Packed → Type 0
HasSome packed = 1 ≤ length packed.segment.samples

-- what reading says of each segment is so of each line
proper_lines : (packed : List Packed) (lines : List SegmentLine) → All IsWritable (map segment_of_packed packed)
    → AreLinesOf packed lines → All IsProperLine lines
proper_lines [] lines writable are = rw are (All-nil IsProperLine)
proper_lines (one ∷ packed) [] writable are = absurd are
proper_lines (one ∷ packed) (its ∷ lines) writable are =
    let head : IsWritable one.segment = All-head IsWritable one.segment (map segment_of_packed packed) writable in
    All-cons IsProperLine its lines
    (record { quality = rw are.0.key head.quality; start = rw are.0.start head.in_time.first_in })
    (proper_lines packed lines (All-tail IsWritable one.segment (map segment_of_packed packed) writable) are.1)

some_samples : (packed : List Packed) → All IsWritable (map segment_of_packed packed) → All HasSome packed
some_samples [] writable = All-nil HasSome
some_samples (one ∷ packed) writable =
    All-cons HasSome one packed (All-head IsWritable one.segment (map segment_of_packed packed) writable).some
    (some_samples packed (All-tail IsWritable one.segment (map segment_of_packed packed) writable))

few_runs : (size runs bytes : ℕ) → 256 ≤ size → bytes ≡ size * runs → bytes < 2 ^ 64 → runs < 2 ^ 64
few_runs size runs bytes some are short =
    let most : 256 * runs ≤ size * runs = mul-le-mul_right runs some in
    omega arith

-- all was read and written
pub done : (choice : Choice) (source0 sink0 sink : Device) (segments : List Segment) (lines : List SegmentLine)
    (counts : Counts) (report : Report) →
    GaveReadable source0 (settings_of choice) segments counts → All IsWritable segments
    → LinesAll (form_chosen choice) sink0 sink segments lines →
    1 ≤ choice.tolerance → choice.tolerance ≤ 1_000_000 → 256 ≤ record_size choice → OutputKeepsSegments → OutputHasSize →
    report.length ≡ choice.record_length → report.kinds ≡ choice.kinds → report.tolerance ≡ choice.tolerance
    → report.counts ≡ counts
    → report.segments.items ≡ lines → IsFirst (bytes_of report.length) report.tolerance report.counts
    → IsAnswered (Answers choice) source0 sink0 sink (Ok report)
done choice source0 sink0 sink segments lines counts report gave can wrote least most some keeps has_size
    same_length same_kinds same_tolerance same_counts same_lines is_first =
    let form = wrote.writing.form in
    let all = wrote.packed in
    let bytes = wrote.written.bytes in
    let writable : All IsWritable (map segment_of_packed all) = rw wrote.same can in
    let count : length bytes ≡ bytes_of form.length * count_of_runs all =
    has_size form all wrote.rows bytes wrote.written.output in (
      gave.input,
      bytes,
      gave.left,
      wrote.written.takes,
      record {
        records = gave.records;
        packed = all;
        rows = wrote.rows;
        readable = rw wrote.same gave.readable;
        output = rw (← wrote.same_form) wrote.written.output;
        same_segments = keeps form choice.tolerance (rows_of_records gave.records) wrote.rows all bytes least
            (rw wrote.same gave.readable.are_segments) (some_samples all writable) wrote.written.output;
        is_report = record {
          record_length = same_length;
          kinds = same_kinds;
          tolerance = same_tolerance;
          counts = same_counts ∙ gave.counted;
          lines = rw same_lines wrote.are_lines;
          proper = record {
            least = rw same_tolerance least;
            most = rw same_tolerance most;
            lines = rw same_lines (proper_lines all lines writable wrote.are_lines);
            records = rw (same_lines, records_of_lines all lines wrote.are_lines)
                (few_runs (bytes_of form.length) (count_of_runs all) (length bytes) (rw wrote.same_form some) count
                wrote.written.short);
          };
          is_content = record { first = is_first; segments = rw same_lines wrote.contents };
        };
      },
    )

-- ---- when what is decided is written before each read

-- the next record is at hand, or nothing waits to be written
abbrev pub IsReady : RowReading → Lined → Type 0
IsReady reading so_far = HoldsRecord reading.position.waiting ⊎ (so_far.writing.waiting ≡ [])

read_fault : (why : ReadFault) → IsErrOf {T = Report} (Err (fault_of_reading why)) fault.Read → why ≡ read.Read
read_fault (read.Input other) e = absurd cc
read_fault read.Read e = refl
read_fault read.Memory e = absurd cc

module _ {choice : Choice} {source0 source source' sink0 sink : Device} {reading : RowReading}
    {so_far : Lined} (reading' : RowReading) (u : UnderWay choice source0 source sink0 sink reading so_far) where
  -- a reader that fails when nothing waits
  kept_up_so : so_far.writing.waiting ≡ [] → HaveComeShort source0 source' u.rows.records reading'.position.waiting
      → (HoldsRecord reading'.position.waiting → ⊥) → HasKeptUp choice source0 source' sink0 sink
  kept_up_so none came short =
      let left = left_of source' in
      let begun = came.begins left.0 left.1 in
      let wrote = lined_decided u.lined u.encoded none in
      record {
        input = begun.0;
        records = u.rows.records;
        waiting = reading'.position.waiting;
        rest = left.0;
        segments = map segment_of_packed u.packed ++ option_to_list u.joining.current;
        written = wrote.bytes;
        left = begun.1;
        are_read = rw (← u.rows.same) (record {
          begins = begun.2;
          in_range = u.rows.has_read.in_range;
          agree = u.rows.has_read.came.agree;
        });
        came = came.moved;
        none_whole = short;
        are_segments = rows_begun u.rows;
        takes = wrote.takes;
        went = wrote.went;
        decided = rw (← u.form) wrote.decided;
      }

  -- when a read failed, nothing waited
  pub kept_up : (why : ReadFault) → IsReady reading so_far
      → IsErrOf {T = Report} (Err (fault_of_reading why)) fault.Read → StopsReading (settings_of choice) source0 source'
      (map segment_of_packed u.packed ++ option_to_list u.joining.current) why
      → (HoldsRecord reading.position.waiting → source' ≡ source)
      → (why ≡ read.Read → HaveComeShort source0 source' u.rows.records reading'.position.waiting)
      → (why ≡ read.Read → HoldsRecord reading'.position.waiting → ⊥) → HasKeptUp choice source0 source' sink0 sink
  kept_up why (inl holds) e stops unread came short =
      let failed = rw (read_fault why e) at stops in
      absurd (steady_sound source0 source u.rows.has_read.came.steady (rw (unread holds) at failed.1))
  kept_up why (inr none) e stops unread came short =
      let is = read_fault why e in
      kept_up_so none (came is) (short is)
