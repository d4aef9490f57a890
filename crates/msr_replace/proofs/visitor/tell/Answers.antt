use Rattle.std.proofs.lemmas.Result.{err_from_is_err_and}
use Rattle.msr_replace.proofs.LinesTold.{none_told}
use Rattle.msr_replace.proofs.Saying.{line_said}
use Rattle.msr_replace.proofs.visitor.tell.Goals as goal

pub returns-in_err-failed-clause-stops : goal.returns-in_err-failed-clause-stops
returns-in_err-failed-clause-stops g c =
    let p = err_from_is_err_and c.from_residual.result c.from_residual.ensures.1 in
    rw (p.1, p.2) (none_told (g.O.Sink.device c.args.out.now))

pub returns-clause-told : goal.returns-clause-told
returns-clause-told g c =
    line_said c.args.path.now c.args.outcome (g.O.Sink.device c.args.out.now) (g.O.Sink.device c.print.new.out) _ _ c.requires.entry
    c.in_ok-print.ensures.printed c.in_ok-print.ensures.counted c.requires.going (λ before all. c.in_ok-failed.ensures before all)
