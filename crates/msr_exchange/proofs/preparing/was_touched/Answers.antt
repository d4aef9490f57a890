use Rattle.std.proofs.Common.{[], Bool, Option}
use Rattle.std.proofs.lemmas.Result.{err_from_is_err_and}
use Rattle.msr_tree.specs.declared.facts.Facts.{Facts}
use Rattle.msr_tree.specs.Calls.{Looks}
use Rattle.msr_tree.proofs.Acting.{goes_tells, then_ok, then_stopped}
use Rattle.msr_exchange.specs.Moves.{Anything}
use Rattle.msr_exchange.proofs.preparing.was_touched.Goals as goal

pub returns-in_err-day : goal.returns-in_err-day
returns-in_err-day g c =
    let p = err_from_is_err_and c.from_residual-in_err-day.result c.from_residual-in_err-day.ensures.1 in
    let second = goes_tells {T = Option Facts} [] (Looks c.at.result.now) _ _ _ c.in_err-day.ensures in
    rw (p.1, p.2) (then_stopped {A = Option Facts} {B = Option Facts} {C = Bool} [] (Anything {T = Option Facts}) _ (Anything {T = Bool}) c.in_ok-given.given _ _ _ _ c.in_ok-given.ensures second)

pub returns : goal.returns
returns g c =
    let second = goes_tells {T = Option Facts} [] (Looks c.at.result.now) _ _ _ c.in_ok-day.ensures in
    then_ok {A = Option Facts} {B = Option Facts} {C = Bool} [] (Anything {T = Option Facts}) _ (Anything {T = Bool}) c.in_ok-given.given c.in_ok-day.day _ _ _ _ (λ p q r one two x y. tt) c.in_ok-given.ensures second
