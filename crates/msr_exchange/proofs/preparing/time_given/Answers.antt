use Rattle.std.proofs.Common.{[], Option}
use Rattle.std.proofs.lemmas.Result.{err_from_is_err_and}
use Rattle.msr_tree.specs.declared.facts.Facts.{Facts}
use Rattle.msr_tree.specs.Calls.{Looks}
use Rattle.msr_tree.proofs.Acting.{giving, goes_tells, stopped_as, then_given, told_as}
use Rattle.msr_exchange.specs.Moves.{Anything}
use Rattle.msr_exchange.proofs.preparing.time_given.Goals as goal

pub returns-in_err-note : goal.returns-in_err-note
returns-in_err-note g c =
    let p = err_from_is_err_and c.from_residual.result c.from_residual.ensures.1 in
    rw (p.1, p.2) (stopped_as {A = Option Facts} {B = Option Facts} [] _ (Anything {T = Option Facts}) _ _ _ (goes_tells {T = Option Facts} [] (Looks c.at.result.now) _ _ _ c.in_err-note.ensures))

pub returns-in-Some : goal.returns-in-Some
returns-in-Some g c =
    told_as {A = Option Facts} {B = Option Facts} [] [] _ (Anything {T = Option Facts}) (giving c.in_ok-note.field-0) (giving _) _ _ (λ is. cc) (λ n none. none) (λ p q did changes. tt) (goes_tells {T = Option Facts} [] (Looks c.at.result.now) _ _ _ c.in_ok-note.ensures)

pub returns : goal.returns
returns g c =
    let first = goes_tells {T = Option Facts} [] (Looks c.at.result.now) _ _ _ c.in_ok-note.ensures in
    let second = goes_tells {T = Option Facts} [] (Looks c.at-2.result.now) _ _ _ c.look-2.ensures in
    then_given {A = Option Facts} {B = Option Facts} [] _ _ (Anything {T = Option Facts}) c.in_ok-note.field-0 _ _ _ _ (λ p q r b one two x y. tt) first second
