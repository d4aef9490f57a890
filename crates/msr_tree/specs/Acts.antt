-- What a function over a tree does.
use Rattle.std.specs.Prelude.{List, Result}
use Rattle.msr_tree.specs.Folders.{ActsBut, Names}
use Rattle.msr_tree.specs.Steps.{Path, Step}
use Rattle.msr_tree.specs.declared.tree.TreeFault.{TreeFault}

-- It changes what these names lead to, and no other; it tells of a failure only if a call has failed; and if it
-- succeeds, this is done.
abbrev pub Acts : {T : Type 0} → List Path → (Done : (old new : List Step) → T → Type 0) → Result T TreeFault → (old new : List Step) → Type 0
Acts names Done result = ActsBut Names names Done result
