use Rattle.std.proofs.Common.{[], Bool, IsSome, Option, false, refl, subst, sym}
use Rattle.std.proofs.lemmas.Result.{err_from_is_err_and}
use Rattle.msr_tree.specs.declared.facts.Facts.{Facts}
use Rattle.msr_tree.specs.Calls.{Looks}
use Rattle.msr_tree.proofs.Acting.{giving, goes_tells, stopped_as, told_as}
use Rattle.msr_replace.specs.Looks.{AsksYoung}
use Rattle.msr_replace.proofs.Judged.{told_now}
use Rattle.msr_replace.proofs.looks.is_young.Goals as goal

pub returns-in_err-note : goal.returns-in_err-note
returns-in_err-note g c =
    let p = err_from_is_err_and c.from_residual.result c.from_residual.ensures.1 in
    rw (p.1, p.2) (stopped_as {A = Option Facts} {B = Bool} [] _ (AsksYoung c.args.work.now) _ _ _ (goes_tells {T = Option Facts} [] (Looks c.at.result.now) _ _ _ c.in_err-note.ensures))

pub returns-in_default : goal.returns-in_default
returns-in_default g c = told_now {T = Bool} (AsksYoung c.args.work.now) false _ (λ p is. cc)

pub returns : goal.returns
returns g c =
    told_as {A = Option Facts} {B = Bool} [] [] _ (AsksYoung c.args.work.now) (giving c.in_ok-note.note) (giving _) _ _ (λ is. cc) (λ n none. none)
    (λ p q did changes. λ young. subst IsSome (sym c.in-Some.is) refl) (goes_tells {T = Option Facts} [] (Looks c.at.result.now) _ _ _ c.in_ok-note.ensures)
