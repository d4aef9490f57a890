use Rattle.std.proofs.lemmas.Result.{err_from_is_err_and}
use Rattle.msr_options.specs.declared.hint.Side.TheVariants.{File}
use Rattle.msr_making.proofs.Written.{day_refused, day_unopened, day_written, unopened_repacked}
use Rattle.msr_making.proofs.writing.write_day.Goals as goal

pub returns-in_err-source-clause-told : goal.returns-in_err-source-clause-told
returns-in_err-source-clause-told g c =
    let p = err_from_is_err_and c.from_residual.result c.from_residual.ensures.1 in
    rw (p.1, p.2) (unopened_repacked c.args.asked.now File c.in_err-source.field-0.0 c.in_err-source.ensures.refuses)

pub returns-in_err-source-clause-goes : goal.returns-in_err-source-clause-goes
returns-in_err-source-clause-goes g c =
    let p = err_from_is_err_and c.from_residual.result c.from_residual.ensures.1 in
    rw (p.1, p.2) (day_unopened c.args.input.now c.args.files.now c.args.asked.now (λ reader. g.T.Reader.Source.device reader) _ c.in_err-source.field-0.0 _ _ c.in_err-source.ensures.refuses c.in_err-source.ensures.goes)

pub returns-clause-goes : goal.returns-clause-goes
returns-clause-goes g c = rw c.in-Found.is (day_written c.args.input.now c.args.files.now c.args.asked.now (λ reader. g.T.Reader.Source.device reader) _ c.in_ok-source.source c.write_from.result _ _ _ c.in_ok-source.ensures.goes c.write_from.ensures.goes)

pub returns-in_default-clause-told : goal.returns-in_default-clause-told
returns-in_default-clause-told g c = unopened_repacked c.args.asked.now File c.refuse_nothing.result c.refuse_nothing.ensures.refuses

pub returns-in_default-clause-goes : goal.returns-in_default-clause-goes
returns-in_default-clause-goes g c = day_refused c.args.input.now c.args.files.now c.args.asked.now c.args.sight c.refuse_nothing.result _ _ c.in_default.not-Found c.refuse_nothing.ensures.refuses c.refuse_nothing.ensures.goes
