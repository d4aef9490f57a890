use Rattle.std.proofs.lemmas.Result.{err_from_is_err_and}
use Rattle.msr_trial.proofs.Packed.{not_looked, not_opened}
use Rattle.msr_trial.proofs.day.open_day.Goals as goal

pub returns-in_err-source-clause-goes : goal.returns-in_err-source-clause-goes
returns-in_err-source-clause-goes g c =
    let p = err_from_is_err_and c.from_residual.result c.from_residual.ensures.1 in
    rw (p.1, p.2) (not_opened c.args.input.now (λ reader. g.T.Reader.Source.device reader) _ _ _ c.in_err-source.ensures.went)

pub returns-in_err-facts-clause-goes : goal.returns-in_err-facts-clause-goes
returns-in_err-facts-clause-goes g c =
    let p = err_from_is_err_and c.from_residual-in_err-facts.result c.from_residual-in_err-facts.ensures.1 in
    rw (p.1, p.2) (not_looked c.args.input.now (λ reader. g.T.Reader.Source.device reader) c.in_ok-source.source _ _ _ _
    c.in_ok-source.ensures.went c.in_err-facts.ensures)
