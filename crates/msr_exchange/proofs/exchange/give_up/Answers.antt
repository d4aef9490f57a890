use Rattle.std.proofs.Common.{[], ◌∷◌, refl}
use Rattle.std.proofs.lemmas.Result.{err_from_is_err_and}
use Rattle.msr_tree.proofs.Acting.{giving}
use Rattle.msr_exchange.specs.Moves.{Anything}
use Rattle.msr_exchange.specs.Phases.{AreHome}
use Rattle.msr_exchange.proofs.Phases.{home_moments, keeps_end, keeps_stopped, says_nothing}
use Rattle.msr_exchange.specs.declared.names.Place.TheVariants.{Day, DayPart, Note, Original, Records}
use Rattle.msr_exchange.proofs.exchange.give_up.Goals as goal

pub returns-in_err-leave : goal.returns-in_err-leave
returns-in_err-leave g c =
    let p = err_from_is_err_and c.from_residual.result c.from_residual.ensures.1 in
    let names = c.args.names.now in
    let l = names.day_part ∷ names.note ∷ names.original ∷ [] in
    rw (p.1, p.2) (keeps_stopped names Original Records l (AreHome names Original Records) (λ n none. (none.1.0, (none.1.1.1.1.1.1.0, (none.1.1.0, tt))))
    (λ a b p q home ch. home_moments names Original Records l a b p q (c.requires.apart Day DayPart refl, (c.requires.apart Day Note refl, (c.requires.apart Day Original refl, tt))) (c.requires.apart Records DayPart refl, (c.requires.apart Records Note refl, (c.requires.apart Records Original refl, tt))) home ch)
    (Anything {T = Unit {0}}) _ _ _ c.in_err-leave.ensures)

pub returns : goal.returns
returns g c =
    let names = c.args.names.now in
    let l = names.day_part ∷ names.note ∷ names.original ∷ [] in
    keeps_end names Original Records l (AreHome names Original Records) (λ n none. (none.1.0, (none.1.1.1.1.1.1.0, (none.1.1.0, tt))))
    (λ a b p q home ch. home_moments names Original Records l a b p q (c.requires.apart Day DayPart refl, (c.requires.apart Day Note refl, (c.requires.apart Day Original refl, tt))) (c.requires.apart Records DayPart refl, (c.requires.apart Records Note refl, (c.requires.apart Records Original refl, tt))) home ch)
    (Anything {T = Unit {0}}) (giving tt) (giving c.told.result) _ _ (λ is. cc)
    (λ a b p q home did ch. says_nothing names Original a b q c.told.result c.told.ensures.done c.told.ensures.same) c.in_ok-leave.ensures
