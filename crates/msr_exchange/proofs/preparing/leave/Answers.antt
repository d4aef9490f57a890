use Rattle.std.proofs.Common.{[], ◌≡◌, ◌∷◌, refl}
use Rattle.std.proofs.lemmas.Result.{err_from_is_err_and}
use Rattle.msr_tree.specs.Steps.{Removed}
use Rattle.msr_tree.proofs.Acting.{goes_more, goes_step, stopped_as, then_given}
use Rattle.msr_exchange.specs.Moves.{Anything}
use Rattle.msr_exchange.proofs.preparing.leave.Goals as goal

pub returns-in_err-remove : goal.returns-in_err-remove
returns-in_err-remove g c =
    let p = err_from_is_err_and c.from_residual.result c.from_residual.ensures.1 in
    let names = c.args.names.now in
    let l = names.day_part ∷ names.note ∷ names.original ∷ [] in
    let same : Removed c.at.result.now ≡ Removed names.day_part = rw c.at.ensures refl in
    rw (p.1, p.2) (stopped_as {A = Unit {0}} {B = Unit {0}} l _ (Anything {T = Unit {0}}) _ _ _ (goes_step {T = Unit {0}} l _ (Removed names.day_part) _ _ _ same (λ n none. none.0) c.in_err-remove.ensures))

pub returns : goal.returns
returns g c =
    let names = c.args.names.now in
    let l = names.day_part ∷ names.note ∷ names.original ∷ [] in
    let same : Removed c.at.result.now ≡ Removed names.day_part = rw c.at.ensures refl in
    let first = goes_step {T = Unit {0}} l _ (Removed names.day_part) _ _ _ same (λ n none. none.0) c.in_ok-remove.ensures in
    let second = goes_more {T = Unit {0}} (names.note ∷ names.original ∷ []) l (Anything {T = Unit {0}}) _ _ _ (λ n none. none.1) c.forget.ensures in
    then_given {A = Unit {0}} {B = Unit {0}} l _ _ (Anything {T = Unit {0}}) _ _ _ _ _ (λ p q r b one two x y. tt) first second
