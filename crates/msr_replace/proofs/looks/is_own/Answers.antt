use Rattle.std.proofs.Common.{rules, [], Bool, Option}
use Rattle.std.proofs.lemmas.Result.{err_from_is_err_and}
use Rattle.msr_tree.specs.declared.facts.Facts.{Facts}
use Rattle.msr_tree.specs.Calls.{Looks}
use Rattle.msr_tree.proofs.Acting.{giving, goes_tells, stopped_as, told_as}
use Rattle.msr_replace.specs.Looks.{TellsOwn}
use Rattle.msr_replace.proofs.looks.is_own.Goals as goal

pub returns-in_err-original : goal.returns-in_err-original
returns-in_err-original g c =
    let p = err_from_is_err_and c.from_residual.result c.from_residual.ensures.1 in
    rw (p.1, p.2) (stopped_as {A = Option Facts} {B = Bool} [] _ (TellsOwn c.args.file c.args.records) _ _ _ (goes_tells {T = Option Facts} [] (Looks c.at.result.now) _ _ _ c.in_err-original.ensures))

pub returns : goal.returns
returns g c =
    told_as {A = Option Facts} {B = Bool} [] [] _ (TellsOwn c.args.file c.args.records) (giving c.in_ok-original.original) (giving _) _ _ (λ is. cc) (λ n none. none) (λ p q did changes own. c.are_one.ensures (search rules)) (goes_tells {T = Option Facts} [] (Looks c.at.result.now) _ _ _ c.in_ok-original.ensures)
