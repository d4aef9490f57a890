use Rattle.msr_tree.specs.Memory.{steps_kept}
use Rattle.msr_tree.proofs.Crash.{leads_now}
use Rattle.msr_tree.proofs.memory.crash.lead.Goals as goal

pub returns-then-settles-among : goal.returns-then-settles-among
returns-then-settles-among c =
    c.loop-deed.invariant _ (rw c.find.ensures (leads_now (steps_kept c.loop-deed.rest.now) c.args.name.now))
