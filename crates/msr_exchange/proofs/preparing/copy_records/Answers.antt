use Rattle.std.proofs.Common.{[], Bool, ◌∷◌, ◌∙◌}
use Rattle.std.proofs.lemmas.Result.{err_from_is_err_and}
use Rattle.msr_tree.proofs.Acting.{goes_copied, goes_within, stopped_as, then_given}
use Rattle.msr_tree.proofs.Changes.{seen_kept}
use Rattle.msr_exchange.specs.Moves.{Anything, ShowsIf}
use Rattle.msr_exchange.proofs.Moved.{copied_seen}
use Rattle.msr_exchange.proofs.preparing.copy_records.Goals as goal

pub returns-in_err-copy : goal.returns-in_err-copy
returns-in_err-copy g c =
    let p = err_from_is_err_and c.from_residual.result c.from_residual.ensures.1 in
    let names = c.args.names.now in
    let l = names.day_part ∷ [] in
    rw (p.1, p.2) (stopped_as {A = Unit {0}} {B = Bool} l _ (ShowsIf names.records names.day_part) _ _ _ (goes_copied {T = Unit {0}} l _ _ names.records names.day_part _ _ _ c.at.ensures c.at-2.ensures (λ n none. none.0) c.in_err-copy.ensures))

pub returns : goal.returns
returns g c =
    let names = c.args.names.now in
    let l = names.day_part ∷ [] in
    let first = goes_copied {T = Unit {0}} l _ _ names.records names.day_part _ _ _ c.at.ensures c.at-2.ensures (λ n none. none.0) c.in_ok-copy.ensures in
    let second = goes_within {T = Bool} [] l (Anything {T = Bool}) _ _ _ (λ n none. tt) c.is_still_at.ensures in
    then_given {A = Unit {0}} {B = Bool} l _ _ (ShowsIf names.records names.day_part) tt _ _ _ _
    (λ p q r b copied still x y. λ is bytes had. seen_kept [] names.day_part q r tt still.1 ∙ copied_seen names.records names.day_part p q bytes copied.1 had) first second
