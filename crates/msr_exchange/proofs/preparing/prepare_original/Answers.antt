use Rattle.std.proofs.Common.{[], Bool, Option, ◌≡◌, ◌∷◌, refl}
use Rattle.std.proofs.lemmas.Result.{err_from_is_err_and}
use Rattle.msr_tree.specs.Steps.{Removed}
use Rattle.msr_tree.proofs.Acting.{goes_more, goes_step, goes_within, then_ok, then_stopped}
use Rattle.msr_tree.proofs.Changes.{ready_kept}
use Rattle.msr_exchange.specs.Moves.{Anything, Prepares, PreparesIfNone}
use Rattle.msr_exchange.specs.declared.moves.Hindrance.{Hindrance}
use Rattle.msr_exchange.proofs.preparing.prepare_original.Goals as goal

pub returns-in_err-look_alike : goal.returns-in_err-look_alike
returns-in_err-look_alike g c =
    let p = err_from_is_err_and c.from_residual-in_err-look_alike.result c.from_residual-in_err-look_alike.ensures.1 in
    let names = c.args.names.now in
    let l = names.day_part ∷ [] in
    let second = goes_more {T = Bool} [] l (Anything {T = Bool}) _ _ _ (λ n none. tt) c.in_err-look_alike.ensures in
    rw (p.1, p.2) (then_stopped {A = Unit {0}} {B = Bool} {C = Option Hindrance} l (Prepares names.original names.day_part) _ (PreparesIfNone names.original names.day_part) _ _ _ _ _ c.in_ok-copy_stored.ensures second)

pub returns-then-branch : goal.returns-then-branch
returns-then-branch g c =
    let names = c.args.names.now in
    let l = names.day_part ∷ [] in
    let second = goes_within {T = Bool} [] l (Anything {T = Bool}) _ _ _ (λ n none. tt) c.in_ok-look_alike.ensures in
    then_ok {A = Unit {0}} {B = Bool} {C = Option Hindrance} l (Prepares names.original names.day_part) _ (PreparesIfNone names.original names.day_part) _ c.in_ok-look_alike.field-0 _ _ _ _
    (λ p q r prepares alike x y. λ none bytes is. ready_kept [] names.day_part bytes q r tt alike.1 (prepares bytes is)) c.in_ok-copy_stored.ensures second

pub returns-in_err-remove : goal.returns-in_err-remove
returns-in_err-remove g c =
    let p = err_from_is_err_and c.from_residual-in_err-remove.result c.from_residual-in_err-remove.ensures.1 in
    let names = c.args.names.now in
    let l = names.day_part ∷ [] in
    let second = goes_more {T = Bool} [] l (Anything {T = Bool}) _ _ _ (λ n none. tt) c.in_ok-look_alike.ensures in
    let so_far = then_ok {A = Unit {0}} {B = Bool} {C = Bool} l (Prepares names.original names.day_part) _ (Anything {T = Bool}) _ c.in_ok-look_alike.field-0 c.in_ok-look_alike.field-0 _ _ _ (λ p q r a b x y. tt) c.in_ok-copy_stored.ensures second in
    let same : Removed c.at.result.now ≡ Removed names.day_part = rw c.at.ensures refl in
    let third = goes_step {T = Unit {0}} l _ (Removed names.day_part) _ _ _ same (λ n none. none.0) c.in_err-remove.ensures in
    rw (p.1, p.2) (then_stopped {A = Bool} {B = Unit {0}} {C = Option Hindrance} l _ _ (PreparesIfNone names.original names.day_part) _ _ _ _ _ so_far third)

pub returns : goal.returns
returns g c =
    let names = c.args.names.now in
    let l = names.day_part ∷ [] in
    let second = goes_more {T = Bool} [] l (Anything {T = Bool}) _ _ _ (λ n none. tt) c.in_ok-look_alike.ensures in
    let so_far = then_ok {A = Unit {0}} {B = Bool} {C = Bool} l (Prepares names.original names.day_part) _ (Anything {T = Bool}) _ c.in_ok-look_alike.field-0 c.in_ok-look_alike.field-0 _ _ _ (λ p q r a b x y. tt) c.in_ok-copy_stored.ensures second in
    let same : Removed c.at.result.now ≡ Removed names.day_part = rw c.at.ensures refl in
    let third = goes_step {T = Unit {0}} l _ (Removed names.day_part) _ _ _ same (λ n none. none.0) c.in_ok-remove.ensures in
    then_ok {A = Bool} {B = Unit {0}} {C = Option Hindrance} l _ _ (PreparesIfNone names.original names.day_part) _ _ _ _ _ _ (λ p q r a b x y. λ none. cc) so_far third
