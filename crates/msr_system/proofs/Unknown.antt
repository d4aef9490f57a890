-- A tree of which no steps are known.
use Rattle.std.proofs.Common.{List}
use Rattle.msr_tree.specs.Calls.{Goes}
use Rattle.msr_tree.specs.Steps.{Step}

pub unknown : (R : List Step → List Step → Type 0) → Goes (λ _. ⊥) (λ _. ⊥) R
unknown R = record { from = λ past none. absurd none }
