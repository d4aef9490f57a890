use Rattle.std.proofs.Common.{[], Some, ◌∷◌, refl}
use Rattle.std.proofs.lemmas.Result.{err_from_is_err_and}
use Rattle.msr_tree.proofs.Changes.{leaves_kept}
use Rattle.msr_exchange.specs.Phases.{AreHome, MayGoBack}
use Rattle.msr_exchange.proofs.Phases.{back_moments, taking_stopped, taking_then}
use Rattle.msr_exchange.specs.declared.names.Place.TheVariants.{Day, DayPart, Original, Records}
use Rattle.msr_exchange.proofs.exchange.take_back.Goals as goal

pub returns-in_err-take_place : goal.returns-in_err-take_place
returns-in_err-take_place g c =
    let p = err_from_is_err_and c.from_residual.result c.from_residual.ensures.1 in
    let names = c.args.names.now in
    rw (p.1, p.2) (taking_stopped names Original Records (MayGoBack names Original Records) (AreHome names Original Records) _ _ _
    (λ a b p q back takes. back_moments names Original Records a b _ p q (c.requires.apart Original Day refl, (c.requires.apart Original DayPart refl, tt)) (c.requires.apart Records Day refl, (c.requires.apart Records DayPart refl, tt)) back takes) c.in_err-take_place.ensures)

pub returns : goal.returns
returns g c =
    let names = c.args.names.now in
    let l = names.day ∷ names.day_part ∷ [] in
    taking_then names Original Records (MayGoBack names Original Records) (AreHome names Original Records) tt _ _ _ _
    (λ a b p q back takes. back_moments names Original Records a b _ p q (c.requires.apart Original Day refl, (c.requires.apart Original DayPart refl, tt)) (c.requires.apart Records Day refl, (c.requires.apart Records DayPart refl, tt)) back takes)
    (λ a b p q back takes. record {
      day = takes.acts.does a back.ready;
      comes = leaves_kept l names.records (Some b) p q (c.requires.apart Records Day refl, (c.requires.apart Records DayPart refl, tt)) takes.acts.changes back.places.comes;
    }) c.in_ok-take_place.ensures c.give_up.ensures
