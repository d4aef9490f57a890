use Rattle.std.proofs.Common.{inl, inr, ◌∙◌, ◌++◌, [], None, map, refl, ap, subst, rules}
use Rattle.std.proofs.lemmas.Result.{err_from_is_err_and}
use Rattle.std.specs.Option.{option_to_list}
use Rattle.msr_base.specs.Lengths.{bytes_of}
use Rattle.msr_base.specs.declared.forms.Form.{Form}
use Rattle.msr_segments.specs.Spans.{Following}
use Rattle.msr_report_reader.specs.Content.{IsFirst}
use Rattle.msr_report_reader.proofs.Ranges.{is_length}
use Rattle.msr_devices.proofs.Chaining.{calm_same, steady_can_count}
use Rattle.msr_record.specs.Output.{segment_of_packed}
use Rattle.msr_tool.specs.Settings.{settings_of}
use Rattle.msr_tool.specs.Writing.{StopsLining}
use Rattle.msr_tool.proofs.Lines.{calm_lined, can_take_row, prefix_lined}
use Rattle.msr_tool.proofs.RowsSoFar.{RecordMore, more_read, no_rows, record_more, rows_end, rows_read, rows_stop}
use Rattle.msr_tool.proofs.StoppedRepacks.{all_ends, ok_unread, read_ends, read_failed, write_ends, write_failed, write_unread}
use Rattle.msr_tool.proofs.RepackUnderWay.{UnderWay, done, kept_up}
use Rattle.msr_tool.proofs.repacking.repack_records.Given as given
use Rattle.msr_tool.proofs.repacking.repack_records.Goals as goal
use Rattle.msr_tool.proofs.repacking.repack_records.Goals.{After-must_flush, After-take}

pub records-init : goal.records-init
records-init g c =
    record {
      under = record {
        packed = [];
        joining = record { tolerance = c.args.options.tolerance; current = None };
        rows = no_rows (settings_of c.args.options) (g.R.Source.device c.args.source.now) c.args.reader.now
            c.requires.reader.0 c.requires.reader.1 c.requires.reader.2;
        lined = c.requires.writer.3;
        goes_on = rw c.requires.writer.0 tt;
        form = c.requires.writer.1;
        calm = calm_same (g.W.Sink.device c.args.sink.now);
        encoded = rw c.requires.writer.0 tt;
      };
      ready = λ is_before_reads. inr c.requires.writer.2;
    }

-- one more record is read
one_read : (g : given.Over) (c : After-take g)
    → RecordMore (settings_of c.args.options) (g.R.Source.device c.args.source.now)
    (g.R.Source.device c.next_record.new.source) c.next_record.new.self
    (map segment_of_packed c.records.invariant.under.packed) c.records.invariant.under.joining c.in-Some.next.row
one_read g c =
    let u = c.records.invariant.under in
    let reads = rw c.in-Some.is at (c.in_ok-next.ensures.read _ _ _ u.rows.has_read) in
    let step = rw c.in-Some.is at c.in_ok-next.ensures.step in
    let bounds = rw c.in-Some.is at c.in_ok-next.ensures.in_bounds in
    let row = rw c.in-Some.is at c.in_ok-next.ensures.row in
    record_more u.rows _ _ c.in-Some.next.row reads step c.next_record.ensures.settings bounds row

-- and its samples are written
one_taken : (g : given.Over) (c : After-must_flush g)
    → RecordMore (settings_of c.args.options) (g.R.Source.device c.args.source.now)
    (g.R.Source.device c.next_record.new.source) c.next_record.new.self
    (map segment_of_packed c.records.invariant.under.packed) c.records.invariant.under.joining c.in-Some.next.row
    → UnderWay c.args.options (g.R.Source.device c.args.source.now) (g.R.Source.device c.next_record.new.source)
    (g.W.Sink.device c.args.sink.now) (g.W.Sink.device c.take.new.sink) c.next_record.new.self c.take.new.self
one_taken g c m =
    let u = c.records.invariant.under in
    let wrote = c.in_ok-take.ensures.written _ _ _ u.lined in
    record {
      packed = wrote.all;
      joining = m.new;
      rows = rw wrote.same m.rows;
      lined = rw m.current wrote.after;
      goes_on = c.in_ok-take.ensures.last;
      encoded = c.in_ok-take.ensures.encoded u.encoded;
      form = rw c.in_ok-take.ensures.form u.form;
      calm = calm_lined wrote.after;
    }

pub returns-in_err-next : goal.returns-in_err-next
returns-in_err-next g c =
    let p = err_from_is_err_and c.from_residual.result c.from_residual.ensures.1 in
    let u = c.records.invariant.under in
    let given = map segment_of_packed u.packed ++ option_to_list u.joining.current in
    let why = c.in_err-next.field-0.0 in
    let stops = rows_stop u.rows _ why (c.in_err-next.ensures.read _ _ _ u.rows.has_read) in
    let prefix = rw u.form at (prefix_lined u.lined u.goes_on) in
    rw (p.1, p.2) (
      read_ends u.rows.has_read.came.steady u.calm.steady (settings_of c.args.options) given why
          c.next_record.ensures.few stops (read_failed c.args.options _ _ _ given _ why stops prefix),
      λ is_before_reads e. kept_up c.next_record.new.self u why
          (c.records.invariant.ready is_before_reads) e stops c.in_err-next.ensures.unread
          (λ read. c.in_err-next.ensures.failed _ _ _ u.rows.has_read (rw read refl))
          (λ read. c.in_err-next.ensures.awaited (rw read refl)),
    )

pub take-requires-clause-count : goal.take-requires-clause-count
take-requires-clause-count g c = steady_can_count _ _ c.records.invariant.under.calm.steady c.requires.count.1

pub take-requires-clause-row : goal.take-requires-clause-row
take-requires-clause-row g c =
    let u = c.records.invariant.under in
    let step = rw c.in-Some.is at c.in_ok-next.ensures.step in
    let row = rw c.in-Some.is at c.in_ok-next.ensures.row in
    can_take_row u.lined c.records.reader.following c.next_record.new.self.following c.in-Some.next.row
    (ap (λ (f : Following). f.current) u.rows.stands) u.rows.in_bounds step row

pub returns-in_err-take : goal.returns-in_err-take
returns-in_err-take g c =
    let p = err_from_is_err_and c.from_residual-in_err-take.result c.from_residual-in_err-take.ensures.1 in
    let u = c.records.invariant.under in
    let m = one_read g (goal.at.returns-in_err-take g c).After-take in
    let stops = rw u.form at (c.in_err-take.ensures.written _ _ _ u.lined) in
    let after = more_read _ u.joining c.in-Some.next.row m in
    rw (p.1, p.2) (
      write_ends m.rows.has_read.came.steady u.calm.steady _ _ c.in_err-take.field-0.0 c.take.ensures.few stops
          (write_failed c.args.options _ _ _ _ _ after stops),
      λ is_before_reads. write_unread _ _ _ _ _ stops,
    )

pub returns-in_err-flush : goal.returns-in_err-flush
returns-in_err-flush g c =
    let p = err_from_is_err_and c.from_residual-in_err-flush.result c.from_residual-in_err-flush.ensures.1 in
    let at = goal.at.returns-in_err-flush g c in
    let taken = one_taken g at.After-must_flush (one_read g at.After-take) in
    let why = c.in_err-flush.field-0.0 in
    let given = map segment_of_packed taken.packed ++ option_to_list taken.joining.current in
    let stops = subst (λ (form : Form). StopsLining form (g.W.Sink.device c.args.sink.now)
    (g.W.Sink.device c.flush.new.sink) given why) taken.form (c.in_err-flush.ensures.written _ _ _ taken.lined) in
    rw (p.1, p.2) (
      write_ends taken.rows.has_read.came.steady taken.calm.steady _ _ why c.flush.ensures.few stops
          (write_failed c.args.options _ _ _ _ why (rows_read taken.rows) stops),
      λ is_before_reads. write_unread _ _ _ _ why stops,
    )

pub flush-requires-clause-count : goal.flush-requires-clause-count
flush-requires-clause-count g c =
    let at = goal.at.flush-requires-clause-count g c in
    let taken = one_taken g at.After-must_flush (one_read g at.After-take) in
    steady_can_count _ _ taken.calm.steady c.requires.count.1

pub records-preserved-in-Continue-branch-4 : goal.records-preserved-in-Continue-branch-4
records-preserved-in-Continue-branch-4 g c =
    let at = goal.at.records-preserved-in-Continue-branch-4 g c in
    let taken = one_taken g at.After-must_flush (one_read g at.After-take) in
    let wrote = c.in_ok-flush.ensures.written _ _ _ taken.lined in
    rw c.give_back.ensures (record {
      under = record {
        packed = taken.packed;
        joining = taken.joining;
        rows = taken.rows;
        lined = wrote;
        goes_on = rw (c.flush.ensures.last, c.flush.ensures.form) taken.goes_on;
        encoded = rw c.flush.ensures.last taken.encoded;
        form = c.flush.ensures.form ∙ taken.form;
        calm = calm_lined wrote;
      };
      ready = λ is_before_reads. inr c.in_ok-flush.ensures.none_wait;
    })

pub records-preserved : goal.records-preserved
records-preserved g c =
    let at = goal.at.records-preserved g c in
    let taken = one_taken g at.After-must_flush (one_read g at.After-take) in
    let holds = rw c.give_back.ensures at c.must_flush.ensures.before_reads in
    rw c.give_back.ensures (record { under = taken; ready = λ is_before_reads. inl ((holds is_before_reads).0 c.if-must_flush.false) })

pub finish-requires-clause-count : goal.finish-requires-clause-count
finish-requires-clause-count g c = steady_can_count _ _ c.records.invariant.under.calm.steady c.requires.count.1

pub returns-in_err-segments : goal.returns-in_err-segments
returns-in_err-segments g c =
    let p = err_from_is_err_and c.from_residual-in_err-segments.result c.from_residual-in_err-segments.ensures.1 in
    let u = c.records.invariant.under in
    let end = rw c.in_default.is at (c.in_ok-next.ensures.read _ _ _ u.rows.has_read) in
    let stops = rw u.form at (c.in_err-segments.ensures.written _ _ _ u.lined) in
    rw (p.1, p.2) (
      write_ends end.none.read.came.steady u.calm.steady _ _ c.in_err-segments.field-0.0 c.finish.ensures.few stops
          (write_failed c.args.options _ _ _ _ _ (rows_read u.rows) stops),
      λ is_before_reads. write_unread _ _ _ _ _ stops,
    )

pub returns : goal.returns
returns g c =
    let u = c.records.invariant.under in
    let end = rw c.in_default.is at (c.in_ok-next.ensures.read _ _ _ u.rows.has_read) in
    let gave = rows_end u.rows _ _ _ end c.next_record.ensures.settings c.counts-counts.ensures in
    let wrote = rw u.form at (c.in_ok-segments.ensures.written _ _ _ u.lined) in
    let is_first : IsFirst (bytes_of c.length.result) c.tolerance.result c.counts-counts.result =
    search (rules, is_length, c.tolerance.ensures.in_range) in (
      all_ends end.none.read.came.steady wrote.written.calm.steady _
          (done c.args.options _ _ _ _ _ c.counts-counts.result _ gave u.rows.writable wrote
          (rw c.tolerance.ensures.same at c.tolerance.ensures.in_range.0)
          (rw c.tolerance.ensures.same at c.tolerance.ensures.in_range.1) c.length.ensures.least
          c.output_keeps_segments.ensures c.output_has_size.ensures
          c.length.ensures.same (ap (λ (form : Form). form.kinds) c.form.ensures) c.tolerance.ensures.same refl refl
          is_first),
      λ is_before_reads. ok_unread _ _,
    )
