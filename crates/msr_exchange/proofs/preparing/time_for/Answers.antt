use Rattle.std.proofs.Common.{[], Option, ◌≡◌, ◌∷◌, refl}
use Rattle.std.proofs.lemmas.Result.{err_from_is_err_and}
use Rattle.msr_tree.specs.Steps.{Removed}
use Rattle.msr_tree.specs.declared.facts.Time.{Time}
use Rattle.msr_tree.proofs.Acting.{giving, goes_more, goes_step, stopped_as, then_ok, then_stopped, told_as}
use Rattle.msr_exchange.specs.Moves.{Anything}
use Rattle.msr_exchange.proofs.preparing.time_for.Goals as goal

pub returns-in_err-remove : goal.returns-in_err-remove
returns-in_err-remove g c =
    let p = err_from_is_err_and c.from_residual.result c.from_residual.ensures.1 in
    let names = c.args.names.now in
    let l = names.note ∷ names.note_part ∷ [] in
    let same : Removed c.at.result.now ≡ Removed names.note = rw c.at.ensures refl in
    rw (p.1, p.2) (stopped_as {A = Unit {0}} {B = Option Time} l _ (Anything {T = Option Time}) _ _ _ (goes_step {T = Unit {0}} l _ (Removed names.note) _ _ _ same (λ n none. none.0) c.in_err-remove.ensures))

pub returns-then-not-verified : goal.returns-then-not-verified
returns-then-not-verified g c =
    let names = c.args.names.now in
    let l = names.note ∷ names.note_part ∷ [] in
    let same : Removed c.at.result.now ≡ Removed names.note = rw c.at.ensures refl in
    told_as {A = Unit {0}} {B = Option Time} l l _ (Anything {T = Option Time}) (giving tt) (giving _) _ _ (λ is. cc) (λ n none. none) (λ p q did changes. tt)
    (goes_step {T = Unit {0}} l _ (Removed names.note) _ _ _ same (λ n none. none.0) c.in_ok-remove.ensures)

pub returns-in_err-name_note : goal.returns-in_err-name_note
returns-in_err-name_note g c =
    let p = err_from_is_err_and c.from_residual-in_err-name_note.result c.from_residual-in_err-name_note.ensures.1 in
    let names = c.args.names.now in
    let l = names.note ∷ names.note_part ∷ [] in
    let first = goes_more {T = Option Time} (names.note_part ∷ []) l (Anything {T = Option Time}) _ _ _ (λ n none. (none.1.0, tt)) c.in_ok-time.ensures in
    rw (p.1, p.2) (then_stopped {A = Option Time} {B = Unit {0}} {C = Option Time} l (Anything {T = Option Time}) (Anything {T = Unit {0}}) (Anything {T = Option Time}) c.in_ok-time.time _ _ _ _ first c.in_err-name_note.ensures)

pub returns : goal.returns
returns g c =
    let names = c.args.names.now in
    let l = names.note ∷ names.note_part ∷ [] in
    let first = goes_more {T = Option Time} (names.note_part ∷ []) l (Anything {T = Option Time}) _ _ _ (λ n none. (none.1.0, tt)) c.in_ok-time.ensures in
    then_ok {A = Option Time} {B = Unit {0}} {C = Option Time} l (Anything {T = Option Time}) (Anything {T = Unit {0}}) (Anything {T = Option Time}) c.in_ok-time.time tt c.in_ok-time.time _ _ _ (λ p q r a b x y. tt) first c.in_ok-name_note.ensures
