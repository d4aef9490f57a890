use Rattle.std.proofs.Common.{[], Option, sym, ◌∙◌}
use Rattle.std.proofs.lemmas.Result.{err_from_is_err_and}
use Rattle.msr_tree.specs.Calls.{Looks}
use Rattle.msr_tree.specs.declared.facts.Facts.{Facts}
use Rattle.msr_tree.proofs.Acting.{goes_tells, stopping}
use Rattle.msr_exchange.specs.Names.{path_at}
use Rattle.msr_exchange.specs.declared.moves.Hindrance.{Hindrance}
use Rattle.msr_exchange.specs.declared.names.Place.TheVariants.{Day}
use Rattle.msr_exchange.proofs.Alone.{named_looked, named_there, named_told, then_named}
use Rattle.msr_exchange.proofs.moves.keep_at.Goals as goal

pub returns-in_err-look : goal.returns-in_err-look
returns-in_err-look g c =
    let p = err_from_is_err_and c.from_residual.result c.from_residual.ensures.1 in
    let day = path_at c.args.names.now Day in
    let part = path_at c.args.names.now c.args.part in
    let name = path_at c.args.names.now c.args.place in
    rw (p.1, p.2) (named_told {R = Hindrance} day name part {A = Option Facts} _ (stopping (Option Facts) _) (stopping (Option Hindrance) _) _ _ (λ is. cc) (λ is. cc) (goes_tells {T = Option Facts} [] (Looks c.at.result.now) _ _ _ c.in_err-look.ensures))

pub returns-then-is_some : goal.returns-then-is_some
returns-then-is_some g c =
    let day = path_at c.args.names.now Day in
    let part = path_at c.args.names.now c.args.part in
    let name = path_at c.args.names.now c.args.place in
    then_named {R = Hindrance} day name part {A = Option Facts} _ c.in_ok-look.field-0 _ _ _ _
    (goes_tells {T = Option Facts} [] (Looks c.at.result.now) _ _ _ c.in_ok-look.ensures)
    (named_there {R = Hindrance} day name part _ _ _ c.is_kept.ensures)

pub returns : goal.returns
returns g c =
    let day = path_at c.args.names.now Day in
    let part = path_at c.args.names.now c.args.part in
    let name = path_at c.args.names.now c.args.place in
    named_looked {R = Hindrance} day name part c.at.result.now c.in_ok-look.field-0 _ _ _ _ c.at.ensures (sym c.is_some.ensures ∙ c.if-is_some.false) c.in_ok-look.ensures c.copy_as.ensures
