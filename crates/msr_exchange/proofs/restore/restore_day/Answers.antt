use Rattle.std.proofs.Common.{[], Option}
use Rattle.std.proofs.lemmas.Result.{err_from_is_err_and}
use Rattle.msr_tree.specs.declared.facts.Facts.{Facts}
use Rattle.msr_tree.specs.Calls.{Looks}
use Rattle.msr_tree.proofs.Acting.{giving, goes_tells, stopping}
use Rattle.msr_exchange.proofs.Back.{ends_here, found_by, gone_by}
use Rattle.msr_exchange.specs.declared.told.Told.{Told}
use Rattle.msr_exchange.specs.declared.told.Told.TheVariants as told
use Rattle.msr_exchange.proofs.restore.restore_day.Goals as goal

pub returns-in_err-day : goal.returns-in_err-day
returns-in_err-day g c =
    let p = err_from_is_err_and c.from_residual.result c.from_residual.ensures.1 in
    rw (p.1, p.2) (ends_here c.args.names.now c.requires {A = Option Facts} _ (stopping (Option Facts) _) (stopping Told _) _ _ (λ is. cc) tt (goes_tells {T = Option Facts} [] (Looks c.at.result.now) _ _ _ c.in_err-day.ensures))

pub returns-in_default : goal.returns-in_default
returns-in_default g c = gone_by c.args.names.now c.requires c.at.result.now c.in_ok-day.field-0 _ _ _ _ c.at.ensures c.in_default.is c.in_ok-day.ensures c.put_back.ensures

pub returns-in_default-kind : goal.returns-in_default-kind
returns-in_default-kind g c =
    ends_here c.args.names.now c.requires {A = Option Facts} _ (giving c.in_ok-day.field-0) (giving (told.Refused _)) _ _ (λ is. cc) ((λ is. cc), (λ is. cc)) (goes_tells {T = Option Facts} [] (Looks c.at.result.now) _ _ _ c.in_ok-day.ensures)

pub returns-in-Regular : goal.returns-in-Regular
returns-in-Regular g c = found_by c.args.names.now c.requires c.at.result.now c.in_ok-day.field-0 c.in-Some.day _ _ _ _ c.at.ensures c.in-Some.is c.in-Regular.is c.in_ok-day.ensures c.change_back.ensures
