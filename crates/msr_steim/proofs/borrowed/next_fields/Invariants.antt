-- The words so far have no differences.
use Rattle.std.proofs.Common.{◌≡◌}
use Rattle.msr_steim.specs.InOrder.{differences_from}
use Rattle.msr_steim.proofs.borrowed.next_fields.Given as goal

abbrev pub invariant-loop-number : goal.invariant-loop-number
invariant-loop-number l = differences_from l.version l.order l.area l.from
    ≡ differences_from l.version l.order l.area l.number
