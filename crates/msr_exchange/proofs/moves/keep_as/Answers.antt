use Rattle.std.proofs.Common.{[], Bool, Option}
use Rattle.std.proofs.lemmas.Result.{err_from_is_err_and}
use Rattle.msr_tree.proofs.Acting.{giving, goes_folders, stopping}
use Rattle.msr_exchange.specs.Names.{path_at}
use Rattle.msr_exchange.specs.declared.moves.Hindrance.{Hindrance}
use Rattle.msr_exchange.specs.declared.names.Place.TheVariants.{Day}
use Rattle.msr_exchange.proofs.Alone.{named_told, then_named}
use Rattle.msr_exchange.proofs.moves.keep_as.Goals as goal

pub returns-in_err-make_folders : goal.returns-in_err-make_folders
returns-in_err-make_folders g c =
    let p = err_from_is_err_and c.from_residual.result c.from_residual.ensures.1 in
    let day = path_at c.args.names.now Day in
    let part = path_at c.args.names.now c.args.part in
    let name = path_at c.args.names.now c.args.place in
    rw (p.1, p.2) (named_told {R = Hindrance} day name part {A = Bool} _ (stopping Bool _) (stopping (Option Hindrance) _) _ _ (λ is. cc) (λ is. cc) (goes_folders {T = Bool} [] _ _ _ c.in_err-make_folders.ensures))

pub returns-then-branch : goal.returns-then-branch
returns-then-branch g c =
    let day = path_at c.args.names.now Day in
    let part = path_at c.args.names.now c.args.part in
    let name = path_at c.args.names.now c.args.place in
    then_named {R = Hindrance} day name part {A = Bool} _ c.in_ok-make_folders.field-0 _ _ _ _ (goes_folders {T = Bool} [] _ _ _ c.in_ok-make_folders.ensures) c.keep_at.ensures

pub returns : goal.returns
returns g c =
    let day = path_at c.args.names.now Day in
    let part = path_at c.args.names.now c.args.part in
    let name = path_at c.args.names.now c.args.place in
    named_told {R = Hindrance} day name part {A = Bool} _ (giving c.in_ok-make_folders.field-0) (giving _) _ _ (λ is. cc) (λ is. cc) (goes_folders {T = Bool} [] _ _ _ c.in_ok-make_folders.ensures)
