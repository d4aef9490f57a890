use Rattle.std.proofs.Common.{arith, ◌+◌}
use Rattle.msr_report.proofs.Written.{records_next, records_take}
use Rattle.msr_making.proofs.repacking.records_written.Goals as goal

pub overflow_add-records : goal.overflow_add-records
overflow_add-records c =
    let lines = c.args.report.now.segments.items in
    omega (
      arith,
      c.loop-line.invariant,
      c.requires.records,
      records_next lines c.loop-line.line-index
          c.line-item.result (omega (arith, c.loop-line-test.true, c.deref-line-items.ensures.len))
          (rw c.deref-line-items.ensures.value at (c.line-item.is)),
      records_take (c.loop-line.line-index + 1) lines,
    )

pub loop-line-preserved : goal.loop-line-preserved
loop-line-preserved c =
    let lines = c.args.report.now.segments.items in
    omega (
      arith,
      c.loop-line.invariant,
      records_next lines c.loop-line.line-index c.line-item.result
          (omega (arith, c.loop-line-test.true, c.deref-line-items.ensures.len))
          (rw c.deref-line-items.ensures.value at (c.line-item.is)),
    )
