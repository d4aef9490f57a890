use Rattle.std.proofs.Common.{◌≡◌, ap, rules, true, false}
use Rattle.std.proofs.lemmas.Result.{err_from_is_err_and}
use Rattle.msr_devices.specs.ReadBuffer.{Window}
use Rattle.msr_devices.proofs.Chaining.{steady_can_count, steady_then_few}
use Rattle.msr_report_reader.proofs.StoppedSources.{finished, finished_tells, judged_tells, reading_fault, reading_filled, reading_none, reading_taken, rests, steady_few, stopped, stopped_tells, taken_less}
use Rattle.msr_report_reader.proofs.Steps.{taken_within}
use Rattle.msr_report_reader.proofs.reading.read_report.Goals as goal

pub returns-in_err-count-clause-answer : goal.returns-in_err-count-clause-answer
returns-in_err-count-clause-answer g c =
    let p = err_from_is_err_and c.from_residual.result c.from_residual.ensures.1 in
    rw (p.1, p.2) (reading_fault (g.Q.Source.device c.args.source.now)
    (g.Q.Source.device c.reading.source) c.reading.draft c.reading.buffer c.bytes.result.now c.in_err-count.field-0.0
    c.reading.invariant c.bytes.ensures c.in_err-count.ensures)

pub reading-preserved-in-Consumed : goal.reading-preserved-in-Consumed
reading-preserved-in-Consumed g c =
    let taken = rw (c.in-Consumed.is, c.bytes.ensures) at c.in_ok-count.ensures in
    reading_taken (g.Q.Source.device c.args.source.now) (g.Q.Source.device c.reading.source) c.reading.draft
    c.step.new.self c.reading.buffer c.consume.new.self c.in-Consumed.count c.reading.invariant taken
    (ap (λ (w : Window). w.bytes) c.consume.ensures) (ap (λ (w : Window). w.ended) c.consume.ensures)

pub reading-preserved : goal.reading-preserved
reading-preserved g c =
    let open_before : c.reading.buffer.ended ≡ false = search rules in
    reading_filled (g.Q.Source.device c.args.source.now) (g.Q.Source.device c.reading.source)
    (g.Q.Source.device c.fill.new.source) c.reading.draft c.step.new.self c.reading.buffer c.fill.new.self
    c.saturating_add-want.result c.reading.invariant open_before
    (rests c.reading.draft c.step.new.self c.bytes.result.now c.in_ok-count.field-0 c.in-Cut.is c.in_ok-count.ensures)
    c.in_ok-fill-in-Cut.ensures.filled

pub returns-in_err-fill-in-Cut : goal.returns-in_err-fill-in-Cut
returns-in_err-fill-in-Cut g c =
    let open_before : c.reading.buffer.ended ≡ false = search rules in
    let calm = c.reading.invariant.calm open_before in
    let p = err_from_is_err_and c.from_residual-in_err-fill-in-Cut.result
    c.from_residual-in_err-fill-in-Cut.ensures.1 in
    rw (p.1, p.2) (record {
      answer = stopped (g.Q.Source.device c.args.source.now) c.in_err-fill-in-Cut.field-0.0;
      read = stopped_tells (g.Q.Source.device c.args.source.now) (g.Q.Source.device c.reading.source)
          (g.Q.Source.device c.fill.new.source) c.saturating_add-want.result c.reading.buffer c.fill.new.self
          c.in_err-fill-in-Cut.field-0.0 calm c.in_err-fill-in-Cut.ensures.filled;
      few = steady_then_few (g.Q.Source.device c.args.source.now) (g.Q.Source.device c.reading.source)
          (g.Q.Source.device c.fill.new.source) calm.steady c.fill.ensures.few;
    })

pub reading-init : goal.reading-init
reading-init g c =
    reading_none (g.Q.Source.device c.args.source.now) c.new-draft.result c.new-buffer.result c.new-draft.ensures
    c.new-buffer.ensures

pub fill-requires : goal.fill-requires
fill-requires g c =
    steady_can_count (g.Q.Source.device c.args.source.now) (g.Q.Source.device c.reading.source)
    c.reading.invariant.steady c.requires

pub consume-requires : goal.consume-requires
consume-requires g c =
    taken_within c.reading.draft c.step.new.self c.reading.buffer.bytes c.in-Consumed.count
    (rw (c.in-Consumed.is, c.bytes.ensures) at c.in_ok-count.ensures)

pub reading-smaller-in-Consumed : goal.reading-smaller-in-Consumed
reading-smaller-in-Consumed g c =
    let open_before : c.reading.buffer.ended ≡ false = search rules in
    let taken = rw (c.in-Consumed.is, c.bytes.ensures) at c.in_ok-count.ensures in
    taken_less (g.Q.Source.device c.reading.source) c.reading.draft c.step.new.self c.reading.buffer
    c.consume.new.self c.in-Consumed.count open_before taken
    (ap (λ (w : Window). w.bytes) c.consume.ensures) (ap (λ (w : Window). w.ended) c.consume.ensures)

pub returns-in_err-count-clause-read : goal.returns-in_err-count-clause-read
returns-in_err-count-clause-read g c =
    let p = err_from_is_err_and c.from_residual.result c.from_residual.ensures.1 in
    rw (p.1, p.2) (judged_tells (g.Q.Source.device c.args.source.now) (g.Q.Source.device c.reading.source)
    c.reading.draft c.reading.buffer c.bytes.result.now c.in_err-count.field-0.0 c.reading.invariant
    c.in_err-count.ensures)

pub returns-in_err-count-clause-few : goal.returns-in_err-count-clause-few
returns-in_err-count-clause-few g c =
    steady_few (g.Q.Source.device c.args.source.now) (g.Q.Source.device c.reading.source) c.reading.invariant.steady

pub returns-clause-answer : goal.returns-clause-answer
returns-clause-answer g c =
    let ended : c.reading.buffer.ended ≡ true = search rules in
    finished (g.Q.Source.device c.args.source.now) (g.Q.Source.device c.reading.source) c.reading.draft
    c.reading.buffer c.bytes-2.result.now c.finish.result c.reading.invariant ended c.bytes-2.ensures
    c.finish.ensures.found c.finish.ensures.fault

pub returns-clause-read : goal.returns-clause-read
returns-clause-read g c =
    finished_tells (g.Q.Source.device c.args.source.now) (g.Q.Source.device c.reading.source) c.reading.draft
    c.reading.buffer c.bytes-2.result.now c.finish.result c.reading.invariant c.finish.ensures.fault

pub returns-clause-few : goal.returns-clause-few
returns-clause-few g c =
    steady_few (g.Q.Source.device c.args.source.now) (g.Q.Source.device c.reading.source) c.reading.invariant.steady
