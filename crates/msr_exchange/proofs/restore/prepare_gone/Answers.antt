use Rattle.std.proofs.Common.{[], ◌∷◌, Some, refl}
use Rattle.std.proofs.lemmas.Result.{err_from_is_err_and}
use Rattle.msr_tree.proofs.Acting.{giving}
use Rattle.msr_tree.proofs.Changes.{leaves_kept}
use Rattle.msr_exchange.specs.Moves.{PreparesIfNone}
use Rattle.msr_exchange.specs.Phases.{IsReadyToReturn, Waits}
use Rattle.msr_exchange.specs.declared.moves.Hindrance.{Hindrance}
use Rattle.msr_exchange.specs.declared.names.Place.TheVariants.{DayPart, Original, Records}
use Rattle.msr_exchange.specs.declared.told.Told.TheVariants as told
use Rattle.msr_exchange.proofs.Back.{back_end, back_stopped, back_then, waits_moments}
use Rattle.msr_exchange.proofs.Phases.{is_seen}
use Rattle.msr_exchange.proofs.restore.prepare_gone.Goals as goal

pub returns-in_err-hindrance : goal.returns-in_err-hindrance
returns-in_err-hindrance g c =
    let p = err_from_is_err_and c.from_residual.result c.from_residual.ensures.1 in
    let names = c.args.names.now in
    let l = names.day_part ∷ [] in
    rw (p.1, p.2) (back_stopped names Original l (Waits names Original) (λ n none. (none.1.0, tt))
    (λ b p q waits ch. waits_moments names Original l b p q (c.requires.apart Original DayPart refl, tt) waits.waits ch) (PreparesIfNone names.original names.day_part {R = Hindrance}) _ _ _ c.in_err-hindrance.ensures)

pub returns-in-Some : goal.returns-in-Some
returns-in-Some g c =
    let names = c.args.names.now in
    let l = names.day_part ∷ [] in
    back_end names Original l (Waits names Original) (λ n none. (none.1.0, tt))
    (λ b p q waits ch. waits_moments names Original l b p q (c.requires.apart Original DayPart refl, tt) waits.waits ch) (PreparesIfNone names.original names.day_part {R = Hindrance}) (giving c.in_ok-hindrance.field-0) (giving (told.Refused _)) _ _ (λ is. cc)
    (λ b p q waits ch. λ is. absurd is) c.in_ok-hindrance.ensures

pub returns-in-None : goal.returns-in-None
returns-in-None g c =
    let names = c.args.names.now in
    let l = names.day_part ∷ [] in
    back_then names Original l (Waits names Original) (λ n none. (none.1.0, tt))
    (λ b p q waits ch. waits_moments names Original l b p q (c.requires.apart Original DayPart refl, tt) waits.waits ch) (PreparesIfNone names.original names.day_part {R = Hindrance}) (IsReadyToReturn names Original) c.in_ok-hindrance.field-0 _ _ _ _
    (λ b p q waits prepares ch. record {
      waits = leaves_kept l names.original (Some b) p q (c.requires.apart Original DayPart refl, tt) ch waits.waits;
      ready = prepares c.in-None.is b (is_seen names Records Original p names.original (Some b) waits.waits);
    }) c.in_ok-hindrance.ensures c.take_free.ensures
