use Rattle.std.proofs.Common.{[], Bool, Option}
use Rattle.std.proofs.lemmas.Result.{err_from_is_err_and}
use Rattle.msr_tree.specs.declared.facts.Facts.{Facts}
use Rattle.msr_tree.specs.Calls.{Looks}
use Rattle.msr_tree.proofs.Acting.{goes_tells, stopped_as, then_ok, then_stopped}
use Rattle.msr_exchange.specs.Moves.{Anything}
use Rattle.msr_exchange.proofs.moves.look_alike.Goals as goal

pub returns-in_err-one : goal.returns-in_err-one
returns-in_err-one g c =
    let p = err_from_is_err_and c.from_residual.result c.from_residual.ensures.1 in
    rw (p.1, p.2) (stopped_as {A = Option Facts} {B = Bool} [] _ _ _ _ _ (goes_tells {T = Option Facts} [] (Looks c.at.result.now) _ _ _ c.in_err-one.ensures))

pub returns-in_err-other : goal.returns-in_err-other
returns-in_err-other g c =
    let p = err_from_is_err_and c.from_residual-in_err-other.result c.from_residual-in_err-other.ensures.1 in
    let first = goes_tells {T = Option Facts} [] (Looks c.at.result.now) _ _ _ c.in_ok-one.ensures in
    let second = goes_tells {T = Option Facts} [] (Looks c.at-2.result.now) _ _ _ c.in_err-other.ensures in
    rw (p.1, p.2) (then_stopped {A = Option Facts} {B = Option Facts} {C = Bool} [] _ _ _ c.in_ok-one.one _ _ _ _ first second)

pub returns : goal.returns
returns g c =
    let first = goes_tells {T = Option Facts} [] (Looks c.at.result.now) _ _ _ c.in_ok-one.ensures in
    let second = goes_tells {T = Option Facts} [] (Looks c.at-2.result.now) _ _ _ c.in_ok-other.ensures in
    then_ok {A = Option Facts} {B = Option Facts} {C = Bool} [] _ _ (Anything {T = Bool}) c.in_ok-one.one c.in_ok-other.other _ _ _ _ (λ p q r one two. λ a b. tt) first second
