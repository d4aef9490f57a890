use Rattle.std.proofs.Common.{rules, subst, sym}
use Rattle.msr_tree.specs.Steps.{IsAtRest}
use Rattle.msr_tree.proofs.Deeds.{one_more_rests}
use Rattle.msr_tree.proofs.memory.tree.MemoryTree.with.Goals as goal

pub returns-clause-rest : goal.returns-clause-rest
returns-clause-rest c = λ rests. subst IsAtRest (sym (search rules)) (one_more_rests c.args.name.now c.args.bytes.now _ rests)
