use Rattle.std.proofs.Common.{[], Bool, Option, ◌∷◌}
use Rattle.msr_tree.proofs.Acting.{told_as}
use Rattle.msr_exchange.specs.Moves.{GivesName, NamesIfNone}
use Rattle.msr_exchange.specs.Names.{path_at}
use Rattle.msr_exchange.specs.declared.moves.Hindrance.{Hindrance}
use Rattle.msr_exchange.proofs.moves.named_as.Goals as goal

pub returns-then-branch : goal.returns-then-branch
returns-then-branch g c =
    let part = path_at c.args.names.now c.args.part in
    let to = path_at c.args.names.now c.args.place in
    told_as {A = Bool} {B = Option Hindrance} (to ∷ part ∷ []) (to ∷ part ∷ []) (GivesName part to) (NamesIfNone part to) _ _ _ _ (λ is. cc) (λ name none. none)
    (λ p q names changes. λ none bytes ready. names c.if-branch.true bytes ready) c.in_ok-name_new.ensures
