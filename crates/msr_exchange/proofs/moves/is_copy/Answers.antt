use Rattle.std.proofs.Common.{[], Bool, ◌∙◌, sym}
use Rattle.msr_tree.proofs.Acting.{goes_same, then_given}
use Rattle.msr_tree.proofs.Changes.{seen_kept}
use Rattle.msr_exchange.specs.Moves.{Anything, IsSeenAs}
use Rattle.msr_exchange.specs.Names.{path_at}
use Rattle.msr_exchange.proofs.moves.is_copy.Goals as goal

pub returns : goal.returns
returns g c =
    let one = path_at c.args.names.now c.args.one in
    let other = path_at c.args.names.now c.args.other in
    let second = goes_same [] _ _ one other _ _ _ c.at.ensures c.at-2.ensures c.is_same.ensures in
    then_given {A = Bool} {B = Bool} [] (Anything {T = Bool}) _ (IsSeenAs one other) c.in_ok-look_alike.field-0 _ _ _ _
    (λ p q r b any same x y. λ is. sym (seen_kept [] one p q tt x) ∙ same.1.yes is ∙ seen_kept [] other p q tt x) c.in_ok-look_alike.ensures second
