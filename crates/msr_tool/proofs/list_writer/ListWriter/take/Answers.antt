use Rattle.std.proofs.lemmas.Result.{err_from_is_err_and}
use Rattle.std.specs.Option.{option_to_list}
use Rattle.msr_tool.specs.Writing.{ended_by}
use Rattle.msr_tool.proofs.Listed.{listed_cut, listed_passed, listed_pushed, listed_refused}
use Rattle.msr_tool.proofs.list_writer.ListWriter.take.Goals as goal

pub returns-in_err-push_last-in-Begins-clause-written : goal.returns-in_err-push_last-in-Begins-clause-written
returns-in_err-push_last-in-Begins-clause-written g c start segments current h last =
    let p = err_from_is_err_and c.from_residual.result c.from_residual.ensures.1 in
    rw (p.1, p.2) (listed_refused h (option_to_list (ended_by c.args.next.now.step current)))

pub returns-in_err-flush_full-in-Begins-clause-written : goal.returns-in_err-flush_full-in-Begins-clause-written
returns-in_err-flush_full-in-Begins-clause-written g c start segments current h last =
    let p = err_from_is_err_and c.from_residual-in_err-flush_full-in-Begins.result
    c.from_residual-in_err-flush_full-in-Begins.ensures.1 in
    let pushed = listed_pushed (rw (← c.self.view_is) at h) current (rw (← c.self.view_is) at last)
    c.in_ok-push_last-in-Begins.ensures.pushed in
    rw (p.1, p.2, c.in-Begins.is, ← c.self.view_is) (listed_cut pushed
    c.in_err-flush_full-in-Begins.ensures.passes c.in_err-flush_full-in-Begins.ensures.failed)

pub returns-in_ok-flush_full-in-Begins-clause-written : goal.returns-in_ok-flush_full-in-Begins-clause-written
returns-in_ok-flush_full-in-Begins-clause-written g c start segments current h last =
    let pushed = listed_pushed (rw (← c.self.view_is) at h) current (rw (← c.self.view_is) at last)
    c.in_ok-push_last-in-Begins.ensures.pushed in
    rw (c.in-Begins.is, ← c.self.view_is, c.or-self-inside.ensures) (listed_passed pushed
    c.in_ok-flush_full-in-Begins.ensures.passes c.in_ok-flush_full-in-Begins.ensures.calm)
