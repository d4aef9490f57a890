use Rattle.std.proofs.lemmas.Result.{err_from_is_err_and}
use Rattle.msr_tree.proofs.Acting.{goes_more, stopped_as}
use Rattle.msr_exchange.specs.Moves.{Clears}
use Rattle.msr_exchange.specs.Work.{parts_in}
use Rattle.msr_exchange.proofs.Clearing.{clears_last, clears_more, clears_stopped}
use Rattle.msr_exchange.proofs.folders.clear_parts.Goals as goal

pub returns-in_err-clear_part : goal.returns-in_err-clear_part
returns-in_err-clear_part g c =
    let p = err_from_is_err_and c.from_residual.result c.from_residual.ensures.1 in
    let l = parts_in c.args.work.now c.args.folder.now in
    let first = goes_more {T = Unit {0}} _ l _ _ _ _ (λ n none. (none.0, tt)) c.in_err-clear_part.ensures in
    rw (p.1, p.2) (stopped_as {A = Unit {0}} {B = Unit {0}} l _ (Clears {T = Unit {0}} l) _ _ _ first)

pub returns-in_err-clear_part-2 : goal.returns-in_err-clear_part-2
returns-in_err-clear_part-2 g c =
    let p = err_from_is_err_and c.from_residual-in_err-clear_part-2.result c.from_residual-in_err-clear_part-2.ensures.1 in
    let l = parts_in c.args.work.now c.args.folder.now in
    let first = goes_more {T = Unit {0}} _ l _ _ _ _ (λ n none. (none.0, tt)) c.in_ok-clear_part.ensures in
    let second = goes_more {T = Unit {0}} _ l _ _ _ _ (λ n none. (none.1.0, tt)) c.in_err-clear_part-2.ensures in
    rw (p.1, p.2) (clears_stopped l _ _ _ _ _ first l _ second)

pub returns-in_err-clear_part-3 : goal.returns-in_err-clear_part-3
returns-in_err-clear_part-3 g c =
    let p = err_from_is_err_and c.from_residual-in_err-clear_part-3.result c.from_residual-in_err-clear_part-3.ensures.1 in
    let l = parts_in c.args.work.now c.args.folder.now in
    let first = goes_more {T = Unit {0}} _ l _ _ _ _ (λ n none. (none.0, tt)) c.in_ok-clear_part.ensures in
    let second = goes_more {T = Unit {0}} _ l _ _ _ _ (λ n none. (none.1.0, tt)) c.in_ok-clear_part-2.ensures in
    let third = goes_more {T = Unit {0}} _ l _ _ _ _ (λ n none. (none.1.1.0, tt)) c.in_err-clear_part-3.ensures in
    rw (p.1, p.2) (clears_stopped l _ _ _ _ _ (clears_more l _ _ _ _ _ first second) l _ third)

pub returns : goal.returns
returns g c =
    let l = parts_in c.args.work.now c.args.folder.now in
    let first = goes_more {T = Unit {0}} _ l _ _ _ _ (λ n none. (none.0, tt)) c.in_ok-clear_part.ensures in
    let second = goes_more {T = Unit {0}} _ l _ _ _ _ (λ n none. (none.1.0, tt)) c.in_ok-clear_part-2.ensures in
    let third = goes_more {T = Unit {0}} _ l _ _ _ _ (λ n none. (none.1.1.0, tt)) c.in_ok-clear_part-3.ensures in
    let fourth = goes_more {T = Unit {0}} _ l _ _ _ _ (λ n none. (none.1.1.1.0, tt)) c.clear_part-4.ensures in
    clears_last l _ _ _ _ _ (clears_more l _ _ _ _ _ (clears_more l _ _ _ _ _ first second) third) _ fourth
