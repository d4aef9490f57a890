use Rattle.std.proofs.Common.{OnOk, subst}
use Rattle.msr_tree.specs.Steps.{IsAtRest}
use Rattle.msr_tree.proofs.memory.tree.MemoryTree.again.Goals as goal

pub returns-clause-rest : goal.returns-clause-rest
returns-clause-rest c =
    subst (λ past. OnOk c.with.result (IsAtRest past → IsAtRest c.with.new.self)) c.put_on.ensures.same c.with.ensures.rest
