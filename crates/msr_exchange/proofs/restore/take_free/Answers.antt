use Rattle.std.proofs.Common.{[], ◌∷◌, refl}
use Rattle.std.proofs.lemmas.Result.{err_from_is_err_and}
use Rattle.msr_tree.proofs.Acting.{giving}
use Rattle.msr_exchange.specs.Moves.{GivesName}
use Rattle.msr_exchange.specs.Phases.{HasReturned, IsReadyToReturn}
use Rattle.msr_exchange.specs.declared.names.Place.TheVariants.{Day, DayPart, Original}
use Rattle.msr_exchange.specs.declared.told.Told.TheVariants as told
use Rattle.msr_exchange.proofs.Back.{back_end, back_stopped, back_then, waits_moments}
use Rattle.msr_exchange.proofs.restore.take_free.Goals as goal

pub returns-in_err-name_new : goal.returns-in_err-name_new
returns-in_err-name_new g c =
    let p = err_from_is_err_and c.from_residual.result c.from_residual.ensures.1 in
    let names = c.args.names.now in
    let l = names.day ∷ names.day_part ∷ [] in
    rw (p.1, p.2) (back_stopped names Original l (IsReadyToReturn names Original) (λ n none. (none.0, (none.1.0, tt)))
    (λ b p q ready ch. waits_moments names Original l b p q (c.requires.apart Original Day refl, (c.requires.apart Original DayPart refl, tt)) ready.waits ch) (GivesName names.day_part names.day) _ _ _ c.in_err-name_new.ensures)

pub returns-then-not-branch : goal.returns-then-not-branch
returns-then-not-branch g c =
    let names = c.args.names.now in
    let l = names.day ∷ names.day_part ∷ [] in
    back_end names Original l (IsReadyToReturn names Original) (λ n none. (none.0, (none.1.0, tt)))
    (λ b p q ready ch. waits_moments names Original l b p q (c.requires.apart Original Day refl, (c.requires.apart Original DayPart refl, tt)) ready.waits ch) (GivesName names.day_part names.day) (giving c.in_ok-name_new.field-0) (giving (told.Refused _)) _ _ (λ is. cc)
    (λ b p q ready ch. λ is. absurd is) c.in_ok-name_new.ensures

pub returns : goal.returns
returns g c =
    let names = c.args.names.now in
    let l = names.day ∷ names.day_part ∷ [] in
    back_then names Original l (IsReadyToReturn names Original) (λ n none. (none.0, (none.1.0, tt)))
    (λ b p q ready ch. waits_moments names Original l b p q (c.requires.apart Original Day refl, (c.requires.apart Original DayPart refl, tt)) ready.waits ch) (GivesName names.day_part names.day) (HasReturned names) c.in_ok-name_new.field-0 _ _ _ _
    (λ b p q ready gives ch. record { day = gives c.if-not-branch.false b ready.ready }) c.in_ok-name_new.ensures c.forget_returned.ensures
