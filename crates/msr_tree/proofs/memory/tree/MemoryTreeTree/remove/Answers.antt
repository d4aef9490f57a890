use Rattle.std.proofs.Common.{rules}
use Rattle.msr_tree.proofs.Deeds.{known}
use Rattle.msr_tree.proofs.memory.tree.MemoryTreeTree.remove.Goals as goal

pub returns : goal.returns
returns c = search (rules, known)
