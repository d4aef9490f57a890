use Rattle.std.proofs.Common.{[], Some, ◌∷◌, refl}
use Rattle.std.proofs.lemmas.Result.{err_from_is_err_and}
use Rattle.msr_tree.proofs.Acting.{giving}
use Rattle.msr_tree.proofs.Changes.{leaves_kept}
use Rattle.msr_exchange.specs.Moves.{Anything}
use Rattle.msr_exchange.specs.Phases.{IsInPlace}
use Rattle.msr_exchange.proofs.Alone.{all_end, all_stopped}
use Rattle.msr_exchange.proofs.Phases.{in_place_moments}
use Rattle.msr_exchange.specs.declared.told.Told.TheVariants as told
use Rattle.msr_exchange.specs.declared.names.Place.TheVariants.{Day, Note, Original, Records}
use Rattle.msr_exchange.proofs.restore.forget_settled.Goals as goal

pub returns-in_err-forget : goal.returns-in_err-forget
returns-in_err-forget g c =
    let p = err_from_is_err_and c.from_residual.result c.from_residual.ensures.1 in
    let names = c.args.names.now in
    let l = names.note ∷ names.original ∷ [] in
    rw (p.1, p.2) (all_stopped names Records Original l (IsInPlace names Records Original) (λ n none. (none.1.1.1.1.1.1.0, (none.1.1.0, tt)))
    (λ a b p q place ch. in_place_moments names Records Original l a b p q (c.requires.apart Day Note refl, (c.requires.apart Day Original refl, tt)) (c.requires.apart Records Note refl, (c.requires.apart Records Original refl, tt)) place ch) (c.requires.apart Day Note refl, (c.requires.apart Day Original refl, tt)) (c.requires.apart Records Note refl, (c.requires.apart Records Original refl, tt)) (Anything {T = Unit {0}}) _ _ _ c.in_err-forget.ensures)

pub returns : goal.returns
returns g c =
    let names = c.args.names.now in
    let l = names.note ∷ names.original ∷ [] in
    all_end names Records Original l (IsInPlace names Records Original) (λ n none. (none.1.1.1.1.1.1.0, (none.1.1.0, tt)))
    (λ a b p q place ch. in_place_moments names Records Original l a b p q (c.requires.apart Day Note refl, (c.requires.apart Day Original refl, tt)) (c.requires.apart Records Note refl, (c.requires.apart Records Original refl, tt)) place ch) (c.requires.apart Day Note refl, (c.requires.apart Day Original refl, tt)) (c.requires.apart Records Note refl, (c.requires.apart Records Original refl, tt)) (Anything {T = Unit {0}}) (giving tt) (giving told.Same) _ _ (λ is. cc)
    (λ a b p q place did ch. record { done = λ is. cc; same = λ is. leaves_kept l names.day (Some b) p q (c.requires.apart Day Note refl, (c.requires.apart Day Original refl, tt)) ch place.day }) c.in_ok-forget.ensures
