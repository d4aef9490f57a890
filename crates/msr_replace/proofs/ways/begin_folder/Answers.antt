use Rattle.std.proofs.Common.{◌∙◌, sym}
use Rattle.std.proofs.lemmas.Result.{err_from_is_err_and}
use Rattle.msr_replace.proofs.Cleared.{begun_cleared, begun_passed, begun_stopped, begun_unfinished}
use Rattle.msr_replace.proofs.ways.begin_folder.Goals as goal

pub returns-in_err-ways : goal.returns-in_err-ways
returns-in_err-ways g c =
    let p = err_from_is_err_and c.from_residual.result c.from_residual.ensures.1 in
    rw (p.1, p.2) (begun_stopped c.args.work.now c.args.folder.now _ _ _ c.in_err-ways.ensures)

pub returns-then-have_links : goal.returns-then-have_links
returns-then-have_links g c =
    rw c.lead_back.ensures (begun_passed c.args.work.now c.args.folder.now c.in_ok-ways.ways _ _ (sym c.have_links.ensures ∙ c.if-have_links.true) c.in_ok-ways.ensures)

pub returns-in_err-clear_parts : goal.returns-in_err-clear_parts
returns-in_err-clear_parts g c =
    let p = err_from_is_err_and c.from_residual-in_err-clear_parts.result c.from_residual-in_err-clear_parts.ensures.1 in
    rw (p.1, p.2) (begun_unfinished c.args.work.now c.args.folder.now c.in_ok-ways.ways _ _ _ _ c.in_ok-ways.ensures c.in_err-clear_parts.ensures)

pub returns : goal.returns
returns g c =
    rw c.lead_back-2.ensures (begun_cleared c.args.work.now c.args.folder.now c.in_ok-ways.ways _ _ _ _ c.in_ok-ways.ensures c.in_ok-clear_parts.ensures c.clear_stamp.ensures)
