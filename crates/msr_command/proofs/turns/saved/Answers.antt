use Rattle.std.proofs.Common.{arith}
use Rattle.msr_report.proofs.Written.{records_next}
use Rattle.msr_command.proofs.turns.saved.Goals as goal

pub loop-line-preserved : goal.loop-line-preserved
loop-line-preserved c = omega (
  arith,
  c.loop-line.invariant,
  records_next c.args.segments.now c.loop-line.line-index c.line-item.result (omega (arith, c.loop-line-test.true))
      c.line-item.is,
)
