use Rattle.std.proofs.Common.{[], ◌≡◌, Bool, None, Option, Some, ◌∙◌, sym}
use Rattle.std.proofs.lemmas.Result.{err_from_is_err_and}
use Rattle.msr_tree.proofs.Acting.{then_ok, then_stopped, told_as}
use Rattle.msr_tree.proofs.Changes.{seen_kept}
use Rattle.msr_exchange.specs.Moves.{IsSeenAs, IsKeptAs, Stores}
use Rattle.msr_exchange.specs.Names.{path_at}
use Rattle.msr_exchange.specs.declared.moves.Hindrance.{Hindrance}
use Rattle.msr_exchange.specs.declared.moves.Hindrance.TheVariants.{Taken}
use Rattle.msr_exchange.specs.declared.names.Place.TheVariants.{Day}
use Rattle.msr_exchange.proofs.moves.is_kept.Goals as goal

pub returns-in_err-settle : goal.returns-in_err-settle
returns-in_err-settle g c =
    let p = err_from_is_err_and c.from_residual-in_err-settle.result c.from_residual-in_err-settle.ensures.1 in
    let day = path_at c.args.names.now Day in
    let name = path_at c.args.names.now c.args.place in
    rw (p.1, p.2) (then_stopped {A = Bool} {B = Unit {0}} {C = Option Hindrance} [] (IsSeenAs day name) (Stores name) (IsKeptAs day name) c.in_ok-is_copy.field-0 _ _ _ _ c.in_ok-is_copy.ensures c.in_err-settle.ensures)

another : (why : Hindrance) → Some why ≡ None → ⊥
another why none = cc

-- another file has the name
pub returns-then-not-branch : goal.returns-then-not-branch
returns-then-not-branch g c =
    let day = path_at c.args.names.now Day in
    let name = path_at c.args.names.now c.args.place in
    told_as {A = Bool} {B = Option Hindrance} [] [] (IsSeenAs day name) (IsKeptAs day name) _ _ _ _ (λ is. cc) (λ n none. none)
    (λ p q same changes. λ none. absurd (another Taken none)) c.in_ok-is_copy.ensures

pub returns : goal.returns
returns g c =
    let day = path_at c.args.names.now Day in
    let name = path_at c.args.names.now c.args.place in
    then_ok {A = Bool} {B = Unit {0}} {C = Option Hindrance} [] (IsSeenAs day name) (Stores name) (IsKeptAs day name) c.in_ok-is_copy.field-0 _ _ _ _ _
    (λ p q r same stores x y. λ none. (same c.if-not-branch.false, λ bytes is. stores bytes (seen_kept [] name p q tt x ∙ sym (same c.if-not-branch.false) ∙ is))) c.in_ok-is_copy.ensures c.in_ok-settle.ensures
