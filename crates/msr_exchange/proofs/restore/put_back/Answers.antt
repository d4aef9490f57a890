use Rattle.std.proofs.Common.{[], Some}
use Rattle.std.proofs.lemmas.Result.{err_from_is_err_and}
use Rattle.msr_tree.proofs.Changes.{leaves_kept}
use Rattle.msr_exchange.specs.Moves.{Stores}
use Rattle.msr_exchange.specs.Phases.{Waits}
use Rattle.msr_exchange.specs.declared.names.Place.TheVariants.{Original}
use Rattle.msr_exchange.proofs.Back.{back_stopped, back_then, waits_moments}
use Rattle.msr_exchange.proofs.restore.put_back.Goals as goal

pub returns-in_err-settle : goal.returns-in_err-settle
returns-in_err-settle g c =
    let p = err_from_is_err_and c.from_residual.result c.from_residual.ensures.1 in
    let names = c.args.names.now in
    rw (p.1, p.2) (back_stopped names Original [] (Waits names Original) (λ n none. tt)
    (λ b p q waits ch. waits_moments names Original [] b p q tt waits.waits ch) (Stores names.original {T = Unit {0}}) _ _ _ c.in_err-settle.ensures)

pub returns : goal.returns
returns g c =
    let names = c.args.names.now in
    back_then names Original [] (Waits names Original) (λ n none. tt)
    (λ b p q waits ch. waits_moments names Original [] b p q tt waits.waits ch) (Stores names.original {T = Unit {0}}) (Waits names Original) tt _ _ _ _
    (λ b p q waits stores ch. record { waits = leaves_kept [] names.original (Some b) p q tt ch waits.waits }) c.in_ok-settle.ensures c.prepare_gone.ensures
