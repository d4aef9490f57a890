use Rattle.std.proofs.Common.{[], ◌∷◌, Some, refl}
use Rattle.std.proofs.lemmas.Result.{err_from_is_err_and}
use Rattle.msr_tree.proofs.Acting.{giving}
use Rattle.msr_tree.proofs.Changes.{leaves_kept}
use Rattle.msr_exchange.specs.Moves.{Anything}
use Rattle.msr_exchange.specs.Phases.{HasReturned}
use Rattle.msr_exchange.specs.declared.names.Place.TheVariants.{Day, Note, Original}
use Rattle.msr_exchange.specs.declared.told.Told.TheVariants as told
use Rattle.msr_exchange.proofs.Back.{back_end, back_stopped, returned_moments}
use Rattle.msr_exchange.proofs.restore.forget_returned.Goals as goal

pub returns-in_err-forget : goal.returns-in_err-forget
returns-in_err-forget g c =
    let p = err_from_is_err_and c.from_residual.result c.from_residual.ensures.1 in
    let names = c.args.names.now in
    let l = names.note ∷ names.original ∷ [] in
    rw (p.1, p.2) (back_stopped names Original l (HasReturned names) (λ n none. (none.1.1.0, (none.1.1.1.0, tt)))
    (λ b p q returned ch. returned_moments names Original l b p q (c.requires.apart Day Note refl, (c.requires.apart Day Original refl, tt)) returned.day ch) (Anything {T = Unit {0}}) _ _ _ c.in_err-forget.ensures)

pub returns : goal.returns
returns g c =
    let names = c.args.names.now in
    let l = names.note ∷ names.original ∷ [] in
    back_end names Original l (HasReturned names) (λ n none. (none.1.1.0, (none.1.1.1.0, tt)))
    (λ b p q returned ch. returned_moments names Original l b p q (c.requires.apart Day Note refl, (c.requires.apart Day Original refl, tt)) returned.day ch) (Anything {T = Unit {0}}) (giving tt) (giving told.Done) _ _ (λ is. cc)
    (λ b p q returned ch. λ is. leaves_kept l names.day (Some b) p q (c.requires.apart Day Note refl, (c.requires.apart Day Original refl, tt)) ch returned.day) c.in_ok-forget.ensures
