use Rattle.std.proofs.Common.{◌++◌, [], Option, None, ap, refl}
use Rattle.std.proofs.lemmas.Result.{err_from_is_err_and}
use Rattle.std.specs.Option.{option_to_list}
use Rattle.msr_devices.proofs.Chaining.{steady_can_count}
use Rattle.msr_segments.specs.declared.span.Span.{Span}
use Rattle.msr_input.specs.Rows.{row_settings}
use Rattle.msr_tool.proofs.Listed.{prefix_listed}
use Rattle.msr_tool.proofs.RowsSoFar.{given_read, no_rows, rows_end, rows_stop}
use Rattle.msr_tool.proofs.StoppedRepacks.{all_ends, read_ends, write_ends}
use Rattle.msr_tool.proofs.ListUnderWay.{outline_more, under_more, last_in_bounds, list_read_failed, list_write_failed, list_all_failed, list_done}
use Rattle.msr_tool.proofs.list.list_rows.Goals as goal

pub rows-init : goal.rows-init
rows-init g c =
    let r = c.requires.reader in
    let w = c.requires.writer in
    let follows = ap (λ (current : Option Span). record
    { tolerance = c.args.reader.now.following.tolerance; current = current }) r.1 in
    record {
      given = [];
      joining = record { tolerance = c.args.reader.now.following.tolerance; current = None };
      rows = no_rows (row_settings c.args.reader.now) (g.R.Source.device c.args.source.now) c.args.reader.now r.0
          follows refl;
      same_form = refl;
      listed = w.2;
      last = w.0;
      few_wait = w.1;
    }

pub returns-in_err-next : goal.returns-in_err-next
returns-in_err-next g c =
    let p = err_from_is_err_and c.from_residual.result c.from_residual.ensures.1 in
    let u = c.rows.invariant in
    let given = u.given ++ option_to_list u.joining.current in
    let why = c.in_err-next.field-0.0 in
    let stops = rows_stop u.rows _ why (c.in_err-next.ensures.read _ _ _ u.rows.has_read) in
    let prefix = prefix_listed u.listed (option_to_list u.joining.current) in
    rw (p.1, p.2) (read_ends u.rows.has_read.came.steady u.listed.calm.steady (row_settings c.args.reader.now) given why
    c.next_outline.ensures.few stops (list_read_failed _ _ _ _ _ given _ why stops prefix))

pub take-requires-clause-count : goal.take-requires-clause-count
take-requires-clause-count g c = steady_can_count _ _ c.rows.invariant.listed.calm.steady c.requires.count.1

pub take-requires-clause-last : goal.take-requires-clause-last
take-requires-clause-last g c = last_in_bounds c.rows.invariant

pub returns-in_err-take : goal.returns-in_err-take
returns-in_err-take g c =
    let p = err_from_is_err_and c.from_residual-in_err-take.result c.from_residual-in_err-take.ensures.1 in
    let u = c.rows.invariant in
    let listed = rw (← u.same_form) at u.listed in
    let reads = rw c.in-Some.is at (c.in_ok-next.ensures.read _ _ _ u.rows.has_read) in
    let m = outline_more u.rows reads (rw c.in-Some.is at c.in_ok-next.ensures.step)
    c.next_outline.ensures.settings (rw c.in-Some.is at c.in_ok-next.ensures.in_bounds) in
    let stops = rw u.same_form at (c.in_err-take.ensures.written _ u.given u.joining.current listed u.last) in
    rw (p.1, p.2) (write_ends reads.reads.read.came.steady u.listed.calm.steady _ _ c.in_err-take.field-0.0
    c.take.ensures.few stops (list_write_failed _ _ _ _ _ _ _ (given_read m.rows) stops))

pub rows-preserved : goal.rows-preserved
rows-preserved g c =
    let u = c.rows.invariant in
    let listed = rw (← u.same_form) at u.listed in
    let reads = rw c.in-Some.is at (c.in_ok-next.ensures.read _ _ _ u.rows.has_read) in
    let m = outline_more u.rows reads (rw c.in-Some.is at c.in_ok-next.ensures.step)
    c.next_outline.ensures.settings (rw c.in-Some.is at c.in_ok-next.ensures.in_bounds) in
    under_more c.rows.writer u.given u.joining c.in-Some.next reads.row reads.outline_is u.last m
    u.same_form c.in_ok-take.ensures.form
    (c.in_ok-take.ensures.written _ u.given u.joining.current listed u.last)
    c.in_ok-take.ensures.last c.in_ok-take.ensures.few_wait

pub finish-requires-clause-count : goal.finish-requires-clause-count
finish-requires-clause-count g c = steady_can_count _ _ c.rows.invariant.listed.calm.steady c.requires.count.1

pub finish-requires-clause-last : goal.finish-requires-clause-last
finish-requires-clause-last g c = last_in_bounds c.rows.invariant

pub returns-in_err-finish : goal.returns-in_err-finish
returns-in_err-finish g c =
    let p = err_from_is_err_and c.from_residual-in_err-finish.result c.from_residual-in_err-finish.ensures.1 in
    let u = c.rows.invariant in
    let listed = rw (← u.same_form) at u.listed in
    let end = rw c.in_default.is at (c.in_ok-next.ensures.read _ _ _ u.rows.has_read) in
    let gave = rows_end u.rows _ _ _ end c.next_outline.ensures.settings c.counts-counts.ensures in
    let stops = rw u.same_form at (c.in_err-finish.ensures.written _ u.given u.joining.current listed u.last) in
    rw (p.1, p.2) (write_ends end.none.read.came.steady u.listed.calm.steady _ _ c.in_err-finish.field-0.0
    c.finish.ensures.few stops (list_all_failed _ _ _ _ _ _ _ gave _ stops))

pub returns : goal.returns
returns g c =
    let u = c.rows.invariant in
    let listed = rw (← u.same_form) at u.listed in
    let end = rw c.in_default.is at (c.in_ok-next.ensures.read _ _ _ u.rows.has_read) in
    let gave = rows_end u.rows _ _ _ end c.next_outline.ensures.settings c.counts-counts.ensures in
    let all = rw u.same_form at (c.in_ok-finish.ensures.written _ u.given u.joining.current listed u.last) in
    all_ends end.none.read.came.steady all.calm.steady _ (list_done _ _ _ _ _ _ _ gave all)
