use Rattle.std.proofs.Common.{[], Bool, Option, ◌≡◌, ◌∷◌, refl}
use Rattle.std.proofs.lemmas.Result.{err_from_is_err_and}
use Rattle.msr_tree.specs.Steps.{Removed}
use Rattle.msr_tree.proofs.Acting.{goes_more, goes_step, goes_within, then_given, then_ok, then_stopped}
use Rattle.msr_tree.proofs.Changes.{ready_kept}
use Rattle.msr_exchange.specs.Moves.{Anything, KeepsAs, NamesIfNone, Prepares}
use Rattle.msr_exchange.specs.Names.{path_at}
use Rattle.msr_exchange.specs.declared.moves.Hindrance.{Hindrance}
use Rattle.msr_exchange.specs.declared.names.Place.TheVariants.{Day}
use Rattle.msr_exchange.proofs.moves.copy_as.Goals as goal

pub returns-in_err-look_alike : goal.returns-in_err-look_alike
returns-in_err-look_alike g c =
    let p = err_from_is_err_and c.from_residual-in_err-look_alike.result c.from_residual-in_err-look_alike.ensures.1 in
    let day = path_at c.args.names.now Day in
    let part = path_at c.args.names.now c.args.part in
    let name = path_at c.args.names.now c.args.place in
    let first = goes_within {T = Unit {0}} (part ∷ []) (name ∷ part ∷ []) (Prepares day part) _ _ _ (λ n none. (none.1.0, tt)) c.in_ok-copy_stored.ensures in
    let second = goes_within {T = Bool} [] (name ∷ part ∷ []) (Anything {T = Bool}) _ _ _ (λ n none. tt) c.in_err-look_alike.ensures in
    rw (p.1, p.2) (then_stopped {A = Unit {0}} {B = Bool} {C = Option Hindrance} (name ∷ part ∷ []) _ _ (KeepsAs day name) _ _ _ _ _ first second)

pub returns-then-branch : goal.returns-then-branch
returns-then-branch g c =
    let day = path_at c.args.names.now Day in
    let part = path_at c.args.names.now c.args.part in
    let name = path_at c.args.names.now c.args.place in
    let l = name ∷ part ∷ [] in
    let first = goes_within {T = Unit {0}} (part ∷ []) l (Prepares day part) _ _ _ (λ n none. (none.1.0, tt)) c.in_ok-copy_stored.ensures in
    let second = goes_within {T = Bool} [] l (Anything {T = Bool}) _ _ _ (λ n none. tt) c.in_ok-look_alike.ensures in
    let ready = then_ok {A = Unit {0}} {B = Bool} {C = Bool} l _ _ (Prepares day part {T = Bool}) _ c.in_ok-look_alike.field-0 c.in_ok-look_alike.field-0 _ _ _
    (λ p q r prepares any x y. λ bytes is. ready_kept [] part bytes q r tt any.1 (prepares.0 bytes is)) first second in
    then_given {A = Bool} {B = Option Hindrance} l (Prepares day part {T = Bool}) (NamesIfNone part name) (KeepsAs day name) c.in_ok-look_alike.field-0 _ _ _ _
    (λ p q r b prepares names x y. λ none bytes is. names none bytes (prepares bytes is)) ready c.named_as.ensures

pub returns-in_err-remove : goal.returns-in_err-remove
returns-in_err-remove g c =
    let p = err_from_is_err_and c.from_residual-in_err-remove.result c.from_residual-in_err-remove.ensures.1 in
    let day = path_at c.args.names.now Day in
    let part = path_at c.args.names.now c.args.part in
    let name = path_at c.args.names.now c.args.place in
    let l = name ∷ part ∷ [] in
    let first = goes_more {T = Unit {0}} (part ∷ []) l (Prepares day part) _ _ _ (λ n none. (none.1.0, tt)) c.in_ok-copy_stored.ensures in
    let second = goes_more {T = Bool} [] l (Anything {T = Bool}) _ _ _ (λ n none. tt) c.in_ok-look_alike.ensures in
    let so_far = then_ok {A = Unit {0}} {B = Bool} {C = Bool} l _ _ (Anything {T = Bool}) _ c.in_ok-look_alike.field-0 c.in_ok-look_alike.field-0 _ _ _ (λ p q r a b x y. tt) first second in
    let same : Removed c.at.result.now ≡ Removed part = rw c.at.ensures refl in
    let third = goes_step {T = Unit {0}} l _ (Removed part) _ _ _ same (λ n none. none.1.0) c.in_err-remove.ensures in
    rw (p.1, p.2) (then_stopped {A = Bool} {B = Unit {0}} {C = Option Hindrance} l _ _ (KeepsAs day name) _ _ _ _ _ so_far third)

pub returns : goal.returns
returns g c =
    let day = path_at c.args.names.now Day in
    let part = path_at c.args.names.now c.args.part in
    let name = path_at c.args.names.now c.args.place in
    let l = name ∷ part ∷ [] in
    let first = goes_more {T = Unit {0}} (part ∷ []) l (Prepares day part) _ _ _ (λ n none. (none.1.0, tt)) c.in_ok-copy_stored.ensures in
    let second = goes_more {T = Bool} [] l (Anything {T = Bool}) _ _ _ (λ n none. tt) c.in_ok-look_alike.ensures in
    let so_far = then_ok {A = Unit {0}} {B = Bool} {C = Bool} l _ _ (Anything {T = Bool}) _ c.in_ok-look_alike.field-0 c.in_ok-look_alike.field-0 _ _ _ (λ p q r a b x y. tt) first second in
    let same : Removed c.at.result.now ≡ Removed part = rw c.at.ensures refl in
    let third = goes_step {T = Unit {0}} l _ (Removed part) _ _ _ same (λ n none. none.1.0) c.in_ok-remove.ensures in
    then_ok {A = Bool} {B = Unit {0}} {C = Option Hindrance} l _ _ (KeepsAs day name) _ _ _ _ _ _ (λ p q r a b x y. λ none. cc) so_far third
