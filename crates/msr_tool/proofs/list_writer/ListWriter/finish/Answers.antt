use Rattle.std.proofs.lemmas.Result.{err_from_is_err_and}
use Rattle.std.specs.Option.{option_to_list}
use Rattle.msr_tool.proofs.Listed.{listed_all, listed_all_cut, listed_pushed, listed_refused}
use Rattle.msr_tool.proofs.list_writer.ListWriter.finish.Goals as goal

pub returns-in_err-push_last-clause-written : goal.returns-in_err-push_last-clause-written
returns-in_err-push_last-clause-written g c start segments current h last =
    let p = err_from_is_err_and c.from_residual.result c.from_residual.ensures.1 in
    rw (p.1, p.2) (listed_refused h (option_to_list current))

pub returns-in_err-push_last_line-clause-written : goal.returns-in_err-push_last_line-clause-written
returns-in_err-push_last_line-clause-written g c start segments current h last =
    let p = err_from_is_err_and c.from_residual-in_err-push_last_line.result
    c.from_residual-in_err-push_last_line.ensures.1 in
    rw (p.1, p.2) (listed_refused h (option_to_list current))

pub returns-in_err-flush-clause-written : goal.returns-in_err-flush-clause-written
returns-in_err-flush-clause-written g c start segments current h last =
    let p = err_from_is_err_and c.from_residual-in_err-flush.result c.from_residual-in_err-flush.ensures.1 in
    let pushed = listed_pushed (rw (← c.self.view_is) at h) current (rw (← c.self.view_is) at last)
    c.in_ok-push_last.ensures.pushed in
    rw (p.1, p.2, ← c.self.view_is) (listed_all_cut pushed c.args.counts.now c.in_ok-push_last_line.ensures.pushed
    c.in_err-flush.ensures.passes c.in_err-flush.ensures.failed)

pub returns-clause-written : goal.returns-clause-written
returns-clause-written g c start segments current h last =
    let pushed = listed_pushed (rw (← c.self.view_is) at h) current (rw (← c.self.view_is) at last)
    c.in_ok-push_last.ensures.pushed in
    rw (← c.self.view_is) (listed_all pushed c.args.counts.now c.in_ok-push_last_line.ensures.pushed
    (rw c.in_ok-flush.ensures.empty at c.in_ok-flush.ensures.passes) c.in_ok-flush.ensures.calm)
