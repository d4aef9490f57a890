use Rattle.std.proofs.Common.{[], Some, ◌∷◌, refl}
use Rattle.std.proofs.lemmas.Result.{err_from_is_err_and}
use Rattle.msr_tree.proofs.Changes.{leaves_kept}
use Rattle.msr_exchange.specs.Moves.{Prepares}
use Rattle.msr_exchange.specs.Phases.{HavePlaces, MayGoBack}
use Rattle.msr_exchange.proofs.Phases.{is_seen, keeps_stopped, keeps_then, places_moments}
use Rattle.msr_exchange.specs.declared.names.Place.TheVariants.{Day, DayPart, Original, Records}
use Rattle.msr_exchange.proofs.exchange.put_back.Goals as goal

pub returns-in_err-copy_stored : goal.returns-in_err-copy_stored
returns-in_err-copy_stored g c =
    let p = err_from_is_err_and c.from_residual.result c.from_residual.ensures.1 in
    let names = c.args.names.now in
    let l = names.day_part ∷ [] in
    rw (p.1, p.2) (keeps_stopped names Original Records l (HavePlaces names Original Records) (λ n none. (none.1.0, tt))
    (λ a b p q places ch. places_moments names Original Records l a b p q (c.requires.apart Day DayPart refl, tt) (c.requires.apart Original DayPart refl, tt) places ch) (Prepares names.original names.day_part {T = Unit {0}}) _ _ _ c.in_err-copy_stored.ensures)

pub returns : goal.returns
returns g c =
    let names = c.args.names.now in
    let l = names.day_part ∷ [] in
    keeps_then names Original Records l (HavePlaces names Original Records) (λ n none. (none.1.0, tt))
    (λ a b p q places ch. places_moments names Original Records l a b p q (c.requires.apart Day DayPart refl, tt) (c.requires.apart Original DayPart refl, tt) places ch) (Prepares names.original names.day_part {T = Unit {0}}) (MayGoBack names Original Records) tt _ _ _ _
    (λ a b p q places prepares ch. record {
      places = record {
        day = leaves_kept l names.day (Some b) p q (c.requires.apart Day DayPart refl, tt) ch places.day;
        waits = leaves_kept l names.original (Some a) p q (c.requires.apart Original DayPart refl, tt) ch places.waits;
        comes = leaves_kept l names.records (Some b) p q (c.requires.apart Records DayPart refl, tt) ch places.comes;
      };
      ready = prepares a (is_seen names Original Records p names.original (Some a) places.waits);
    }) c.in_ok-copy_stored.ensures c.take_back.ensures
