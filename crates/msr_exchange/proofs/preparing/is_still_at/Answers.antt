use Rattle.std.proofs.Common.{[], Bool, Option}
use Rattle.std.proofs.lemmas.Result.{err_from_is_err_and}
use Rattle.msr_tree.specs.declared.facts.Facts.{Facts}
use Rattle.msr_tree.specs.Calls.{Looks}
use Rattle.msr_tree.proofs.Acting.{giving, goes_tells, stopped_as, told_as}
use Rattle.msr_exchange.specs.Moves.{Anything}
use Rattle.msr_exchange.proofs.preparing.is_still_at.Goals as goal

pub returns-in_err-now : goal.returns-in_err-now
returns-in_err-now g c =
    let p = err_from_is_err_and c.from_residual.result c.from_residual.ensures.1 in
    rw (p.1, p.2) (stopped_as {A = Option Facts} {B = Bool} [] _ (Anything {T = Bool}) _ _ _ (goes_tells {T = Option Facts} [] (Looks c.at.result.now) _ _ _ c.in_err-now.ensures))

pub returns : goal.returns
returns g c =
    told_as {A = Option Facts} {B = Bool} [] [] _ (Anything {T = Bool}) (giving c.in_ok-now.now) (giving _) _ _ (λ is. cc) (λ n none. none) (λ p q did changes. tt) (goes_tells {T = Option Facts} [] (Looks c.at.result.now) _ _ _ c.in_ok-now.ensures)
