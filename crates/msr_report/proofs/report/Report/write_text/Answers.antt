use Rattle.std.proofs.Common.{◌≡◌, ◌+◌, ap, ◌∙◌, arith, length}
use Rattle.std.proofs.lemmas.List.{take_all}
use Rattle.std.proofs.lemmas.Result.{err_from_is_err_and}
use Rattle.msr_devices.proofs.Chaining.{calm_calm, calm_same, steady_can_count, steady_then_few}
use Rattle.msr_report.specs.Proper.{records_in}
use Rattle.msr_report.proofs.Written.{calm_few, failure_tells, memory_tells, written_tells, nothing_taken, written_next, written_front_of, written_end, end_front, end_whole, records_next, records_take}
use Rattle.msr_report.proofs.report.Report.write_text.Goals as goal

pub returns-in_err-push_first_lines-clause-text : goal.returns-in_err-push_first_lines-clause-text
returns-in_err-push_first_lines-clause-text g c =
    let p = err_from_is_err_and c.from_residual.result c.from_residual.ensures.1 in
    rw p.1 (nothing_taken (g.W.Sink.device c.args.sink.now) c.args.self.now c.requires.report)

pub returns-in_err-push_segment-clause-text : goal.returns-in_err-push_segment-clause-text
returns-in_err-push_segment-clause-text g c =
    let p = err_from_is_err_and c.from_residual-in_err-push_segment.result
    c.from_residual-in_err-push_segment.ensures.1 in
    rw p.1 (written_front_of _ _ c.args.self.now c.loop-line.line-index _ c.requires.report
    c.loop-line.invariant.written)

pub returns-in_err-flush_full-clause-text : goal.returns-in_err-flush_full-clause-text
returns-in_err-flush_full-clause-text g c =
    let p = err_from_is_err_and c.from_residual-in_err-flush_full.result c.from_residual-in_err-flush_full.ensures.1 in
    let put = c.in_ok-push_segment.ensures in
    let next = written_next _ _ _ c.args.self.now c.loop-line.line-index c.line-item.result _ put.0 _ _
    (omega (arith, c.loop-line-test.true)) (rw c.deref-line-items.ensures.value at
    (c.line-item.is)) c.loop-line.invariant.written put.1.0 put.1.1 c.in_err-flush_full.ensures.passes in
    rw p.1 (written_front_of _ _ c.args.self.now (c.loop-line.line-index + 1) _ c.requires.report next)

pub returns-in_err-flush_full-clause-write : goal.returns-in_err-flush_full-clause-write
returns-in_err-flush_full-clause-write g c =
    failure_tells c.from_residual-in_err-flush_full.result (g.W.Sink.device c.args.sink.now) (g.W.Sink.device c.loop-line.sink)
    (g.W.Sink.device c.flush_full.new.sink) c.loop-line.invariant.calm c.in_err-flush_full.ensures.failed
    c.from_residual-in_err-flush_full.ensures.1

pub returns-in_err-flush_full-clause-few : goal.returns-in_err-flush_full-clause-few
returns-in_err-flush_full-clause-few g c =
    steady_then_few (g.W.Sink.device c.args.sink.now) (g.W.Sink.device c.loop-line.sink)
    (g.W.Sink.device c.flush_full.new.sink) c.loop-line.invariant.calm.steady c.flush_full.ensures.few

pub returns-in_err-push_first_lines-clause-write : goal.returns-in_err-push_first_lines-clause-write
returns-in_err-push_first_lines-clause-write g c =
    memory_tells c.from_residual.result (g.W.Sink.device c.args.sink.now) (g.W.Sink.device c.args.sink.now)
    (calm_same (g.W.Sink.device c.args.sink.now)) c.from_residual.ensures.1

pub returns-in_err-push_first_lines-clause-few : goal.returns-in_err-push_first_lines-clause-few
returns-in_err-push_first_lines-clause-few g c =
    calm_few (g.W.Sink.device c.args.sink.now) (g.W.Sink.device c.args.sink.now) (calm_same (g.W.Sink.device c.args.sink.now))

pub returns-in_err-push_segment-clause-write : goal.returns-in_err-push_segment-clause-write
returns-in_err-push_segment-clause-write g c =
    memory_tells c.from_residual-in_err-push_segment.result (g.W.Sink.device c.args.sink.now) (g.W.Sink.device c.loop-line.sink)
    c.loop-line.invariant.calm c.from_residual-in_err-push_segment.ensures.1

pub returns-in_err-push_segment-clause-few : goal.returns-in_err-push_segment-clause-few
returns-in_err-push_segment-clause-few g c =
    calm_few (g.W.Sink.device c.args.sink.now) (g.W.Sink.device c.loop-line.sink) c.loop-line.invariant.calm

pub returns-in_err-push_end_line-clause-write : goal.returns-in_err-push_end_line-clause-write
returns-in_err-push_end_line-clause-write g c =
    memory_tells c.from_residual-in_err-push_end_line.result (g.W.Sink.device c.args.sink.now) (g.W.Sink.device c.loop-line.sink)
    c.loop-line.invariant.calm c.from_residual-in_err-push_end_line.ensures.1

pub returns-in_err-push_end_line-clause-few : goal.returns-in_err-push_end_line-clause-few
returns-in_err-push_end_line-clause-few g c =
    calm_few (g.W.Sink.device c.args.sink.now) (g.W.Sink.device c.loop-line.sink) c.loop-line.invariant.calm

pub returns-in_err-flush-clause-write : goal.returns-in_err-flush-clause-write
returns-in_err-flush-clause-write g c =
    failure_tells c.from_residual-in_err-flush.result (g.W.Sink.device c.args.sink.now) (g.W.Sink.device c.loop-line.sink)
    (g.W.Sink.device c.flush.new.sink) c.loop-line.invariant.calm c.in_err-flush.ensures.failed
    c.from_residual-in_err-flush.ensures.1

pub returns-in_err-flush-clause-few : goal.returns-in_err-flush-clause-few
returns-in_err-flush-clause-few g c =
    steady_then_few (g.W.Sink.device c.args.sink.now) (g.W.Sink.device c.loop-line.sink)
    (g.W.Sink.device c.flush.new.sink) c.loop-line.invariant.calm.steady c.flush.ensures.few

pub returns-clause-write : goal.returns-clause-write
returns-clause-write g c =
    written_tells _ (g.W.Sink.device c.args.sink.now) (g.W.Sink.device c.flush.new.sink)
    (calm_calm _ _ _ c.loop-line.invariant.calm c.in_ok-flush.ensures.calm)

pub returns-clause-calm : goal.returns-clause-calm
returns-clause-calm g c = calm_calm _ _ _ c.loop-line.invariant.calm c.in_ok-flush.ensures.calm

pub returns-clause-few : goal.returns-clause-few
returns-clause-few g c =
    calm_few (g.W.Sink.device c.args.sink.now) (g.W.Sink.device c.flush.new.sink)
    (calm_calm _ _ _ c.loop-line.invariant.calm c.in_ok-flush.ensures.calm)

pub flush_full-requires : goal.flush_full-requires
flush_full-requires g c =
    steady_can_count (g.W.Sink.device c.args.sink.now) (g.W.Sink.device c.loop-line.sink)
    c.loop-line.invariant.calm.steady c.requires.count

pub flush-requires : goal.flush-requires
flush-requires g c =
    steady_can_count (g.W.Sink.device c.args.sink.now) (g.W.Sink.device c.loop-line.sink)
    c.loop-line.invariant.calm.steady c.requires.count

pub overflow_add-records : goal.overflow_add-records
overflow_add-records g c =
    let lines = c.args.self.now.segments.items in
    omega (
      arith,
      c.loop-line.invariant.records,
      c.requires.report.records,
      records_next lines
          c.loop-line.line-index c.line-item.result (omega
          (arith, c.loop-line-test.true, c.deref-line-items.ensures.len)) (rw c.deref-line-items.ensures.value at
          (c.line-item.is)),
      records_take (c.loop-line.line-index + 1) lines,
    )

pub loop-line-preserved : goal.loop-line-preserved
loop-line-preserved g c =
    let put = c.in_ok-push_segment.ensures in
    let lines = c.args.self.now.segments.items in
    record {
      written = written_next _ _ _ c.args.self.now c.loop-line.line-index c.line-item.result _ put.0 _ _
          (omega (arith, c.loop-line-test.true)) (rw c.deref-line-items.ensures.value at
          (c.line-item.is)) c.loop-line.invariant.written put.1.0 put.1.1 c.in_ok-flush_full.ensures.passes;
      calm = calm_calm _ _ _ c.loop-line.invariant.calm c.in_ok-flush_full.ensures.calm;
      records = omega (
        arith,
        c.loop-line.invariant.records,
        records_next lines c.loop-line.line-index
            c.line-item.result (omega (arith, c.loop-line-test.true, c.deref-line-items.ensures.len))
            (rw c.deref-line-items.ensures.value at (c.line-item.is)),
      );
    }

pub returns-in_err-push_end_line-clause-text : goal.returns-in_err-push_end_line-clause-text
returns-in_err-push_end_line-clause-text g c =
    let p = err_from_is_err_and c.from_residual-in_err-push_end_line.result
    c.from_residual-in_err-push_end_line.ensures.1 in
    rw p.1 (written_front_of _ _ c.args.self.now c.loop-line.line-index _ c.requires.report
    c.loop-line.invariant.written)

pub returns-in_err-flush-clause-text : goal.returns-in_err-flush-clause-text
returns-in_err-flush-clause-text g c =
    let p = err_from_is_err_and c.from_residual-in_err-flush.result c.from_residual-in_err-flush.ensures.1 in
    let all = take_all c.loop-line.line-index c.args.self.now.segments.items (omega (arith, c.loop-line-test.false)) in
    let count : c.len-segments.result ≡ length c.args.self.now.segments.items =
    omega (arith, c.len-segments.ensures, c.args.self.now.segments.ok.0) in
    rw p.1 (end_front _ _ c.args.self.now _
    (written_end _ _ _ c.args.self.now _ _ _ _ c.len-segments.result c.loop-line.records all count
    (c.loop-line.invariant.records
    ∙ ap records_in all) c.loop-line.invariant.written c.in_ok-push_end_line.ensures c.in_err-flush.ensures.passes))

pub returns-clause-text : goal.returns-clause-text
returns-clause-text g c =
    let all = take_all c.loop-line.line-index c.args.self.now.segments.items (omega (arith, c.loop-line-test.false)) in
    let count : c.len-segments.result ≡ length c.args.self.now.segments.items =
    omega (arith, c.len-segments.ensures, c.args.self.now.segments.ok.0) in
    end_whole _ _ c.args.self.now _ c.in_ok-flush.ensures.empty
    (written_end _ _ _ c.args.self.now _ _ _ _ c.len-segments.result c.loop-line.records all count
    (c.loop-line.invariant.records
    ∙ ap records_in all) c.loop-line.invariant.written c.in_ok-push_end_line.ensures c.in_ok-flush.ensures.passes)
