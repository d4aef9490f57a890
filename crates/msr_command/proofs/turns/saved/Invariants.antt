use Rattle.std.proofs.Common.{◌≡◌, ◌-◌, take}
use Rattle.msr_report.specs.Proper.{records_in}
use Rattle.msr_command.proofs.turns.saved.Given as goal

abbrev pub invariant-loop-line : goal.invariant-loop-line
invariant-loop-line l = l.left ≡ l.fn.read - records_in (take l.line-index l.segments)
