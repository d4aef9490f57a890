use Rattle.std.proofs.Common.{[], Bool, Option, ◌∷◌}
use Rattle.std.proofs.lemmas.Result.{err_from_is_err_and}
use Rattle.msr_tree.proofs.Acting.{goes_more, goes_within, then_ok, then_stopped}
use Rattle.msr_tree.proofs.Changes.{ready_kept}
use Rattle.msr_exchange.specs.Moves.{Anything, PreparesIf, PreparesIfNone}
use Rattle.msr_exchange.specs.declared.told.GivenUp.{GivenUp}
use Rattle.msr_exchange.proofs.preparing.dress_checked.Goals as goal

pub returns-in_err-is_still_at : goal.returns-in_err-is_still_at
returns-in_err-is_still_at g c =
    let p = err_from_is_err_and c.from_residual-in_err-is_still_at.result c.from_residual-in_err-is_still_at.ensures.1 in
    let names = c.args.names.now in
    let l = names.note ∷ names.note_part ∷ [] in
    let second = goes_more {T = Bool} [] l (Anything {T = Bool}) _ _ _ (λ n none. tt) c.in_err-is_still_at.ensures in
    rw (p.1, p.2) (then_stopped {A = Bool} {B = Bool} {C = Option GivenUp} l (PreparesIf names.day_part names.day_part) _ (PreparesIfNone names.day_part names.day_part) c.in_ok-dress_records.field-0 _ _ _ _ c.in_ok-dress_records.ensures second)

pub returns-then-not-branch-2 : goal.returns-then-not-branch-2
returns-then-not-branch-2 g c =
    let names = c.args.names.now in
    let l = names.note ∷ names.note_part ∷ [] in
    let second = goes_more {T = Bool} [] l (Anything {T = Bool}) _ _ _ (λ n none. tt) c.in_ok-is_still_at.ensures in
    then_ok {A = Bool} {B = Bool} {C = Option GivenUp} l (PreparesIf names.day_part names.day_part) _ (PreparesIfNone names.day_part names.day_part) c.in_ok-dress_records.field-0 c.in_ok-is_still_at.field-0 _ _ _ _ (λ p q r one two x y. λ none. cc) c.in_ok-dress_records.ensures second

pub returns : goal.returns
returns g c =
    let names = c.args.names.now in
    let l = names.note ∷ names.note_part ∷ [] in
    let second = goes_within {T = Bool} [] l (Anything {T = Bool}) _ _ _ (λ n none. tt) c.in_ok-is_still_at.ensures in
    then_ok {A = Bool} {B = Bool} {C = Option GivenUp} l (PreparesIf names.day_part names.day_part) _ (PreparesIfNone names.day_part names.day_part) c.in_ok-dress_records.field-0 c.in_ok-is_still_at.field-0 _ _ _ _
    (λ p q r prepares still x y. λ none bytes is. ready_kept [] names.day_part bytes q r tt still.1 (prepares c.if-not-branch.false bytes is)) c.in_ok-dress_records.ensures second
