use Rattle.std.proofs.Common.{◌∙◌, ap, sym, arith, ◌+◌, ◌<◌, ◌^◌, take_all}
use Rattle.msr_report.specs.Proper.{records_in}
use Rattle.msr_report.proofs.Written.{records_next, records_take}
use Rattle.msr_report_reader.proofs.draft.all_records.Goals as goal

pub returns-in_err-records : goal.returns-in_err-records
returns-in_err-records c =
    let more = records_next c.args.segments.now c.loop-segment.segment-index c.segment-item.result
    (omega arith) c.segment-item.is in
    let all = records_take (c.loop-segment.segment-index + 1) c.args.segments.now in
    let large : records_in c.args.segments.now < 2 ^ 64
    → ⊥ = λ small. c.in_err-records.ensures (omega (arith, more, all, c.loop-segment.invariant.0)) in
    rw c.from_residual.ensures large

pub loop-segment-preserved : goal.loop-segment-preserved
loop-segment-preserved c =
    let more = records_next c.args.segments.now c.loop-segment.segment-index c.segment-item.result
    (omega arith) c.segment-item.is in (
      c.in_ok-records.ensures.1 ∙ ap (λ n. n + c.segment-item.result.records) c.loop-segment.invariant.0
          ∙ sym more,
      rw c.in_ok-records.ensures.1 c.in_ok-records.ensures.0,
    )

pub returns : goal.returns
returns c =
    let whole = c.loop-segment.invariant.0 ∙ ap records_in
    (take_all c.loop-segment.segment-index c.args.segments.now (omega arith)) in
    (omega (arith, whole, c.loop-segment.invariant.1), whole)
