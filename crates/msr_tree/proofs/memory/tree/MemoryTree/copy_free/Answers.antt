use Rattle.std.proofs.Common.{rules}
use Rattle.msr_tree.proofs.memory.tree.MemoryTree.copy_free.Goals as goal

pub returns-in_ok-cut-in-Some-Part : goal.returns-in_ok-cut-in-Some-Part
returns-in_ok-cut-in-Some-Part c = search rules
