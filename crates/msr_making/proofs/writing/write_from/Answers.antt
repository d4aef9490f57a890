use Rattle.std.proofs.lemmas.Result.{err_from_is_err_and}
use Rattle.msr_making.proofs.Days.{was_written}
use Rattle.msr_making.proofs.Written.{not_begun, not_fit, unfinished, unopened_repacked, unwritten, written}
use Rattle.msr_making.proofs.writing.write_from.Goals as goal

pub returns-in_err-parts-clause-told : goal.returns-in_err-parts-clause-told
returns-in_err-parts-clause-told g c =
    let p = err_from_is_err_and c.from_residual.result c.from_residual.ensures.1 in
    rw (p.1, p.2) (unopened_repacked c.args.asked.now c.in_err-parts.ensures.refuses.0 c.in_err-parts.field-0.0 c.in_err-parts.ensures.refuses.2)

pub returns-in_err-parts-clause-goes : goal.returns-in_err-parts-clause-goes
returns-in_err-parts-clause-goes g c =
    let p = err_from_is_err_and c.from_residual.result c.from_residual.ensures.1 in
    rw (p.1, p.2) (not_begun (g.S.Source.device c.args.source.now) c.args.files.now c.args.asked.now c.args.bytes_read g.T.Writer.Sink.device c.in_err-parts.field-0.0 _ _ c.in_err-parts.ensures.refuses c.in_err-parts.ensures.goes)

pub returns-in_err-repacked-clause-told : goal.returns-in_err-repacked-clause-told
returns-in_err-repacked-clause-told g c =
    let p = err_from_is_err_and c.from_residual-in_err-repacked.result c.from_residual-in_err-repacked.ensures.1 in
    rw (p.1, p.2) (c.in_err-repacked.ensures.told)

pub returns-in_err-repacked-clause-goes : goal.returns-in_err-repacked-clause-goes
returns-in_err-repacked-clause-goes g c =
    let p = err_from_is_err_and c.from_residual-in_err-repacked.result c.from_residual-in_err-repacked.ensures.1 in
    rw (p.1, p.2) (not_fit (g.S.Source.device c.args.source.now) c.args.files.now c.args.asked.now c.args.bytes_read g.T.Writer.Sink.device c.in_ok-parts.parts c.in_err-repacked.field-0.0 _ _ _ _ _ _ c.in_err-repacked.ensures.goes c.in_ok-parts.ensures.goes)

pub returns-in-Ok-clause-told : goal.returns-in-Ok-clause-told
returns-in-Ok-clause-told g c = c.in_ok-repacked.ensures.told

pub returns-in-Ok-clause-goes : goal.returns-in-Ok-clause-goes
returns-in-Ok-clause-goes g c = written (g.S.Source.device c.args.source.now) c.args.files.now c.args.asked.now c.args.bytes_read g.T.Writer.Sink.device c.in_ok-parts.parts _ _ c.in_ok-repacked.repacked c.in_ok-repacked.ensures.goes _ _ _ c.in_ok-parts.ensures.goes c.in-Ok.ensures

pub returns-in-Err-Failed-clause-told : goal.returns-in-Err-Failed-clause-told
returns-in-Err-Failed-clause-told g c = was_written c.args.asked.now c.in_ok-repacked.repacked c.in_ok-repacked.ensures.told

pub returns-in-Err-Failed-clause-goes : goal.returns-in-Err-Failed-clause-goes
returns-in-Err-Failed-clause-goes g c = unwritten (g.S.Source.device c.args.source.now) c.args.files.now c.args.asked.now c.args.bytes_read g.T.Writer.Sink.device c.in_ok-parts.parts _ _ c.in_ok-repacked.repacked c.in_ok-repacked.ensures.goes _ _ _ c.in_ok-parts.ensures.goes _ c.in-Err-Failed.ensures

pub returns-in-Err-Memory-clause-goes : goal.returns-in-Err-Memory-clause-goes
returns-in-Err-Memory-clause-goes g c = unfinished (g.S.Source.device c.args.source.now) c.args.files.now c.args.asked.now c.args.bytes_read g.T.Writer.Sink.device c.in_ok-parts.parts _ _ c.in_ok-repacked.repacked c.in_ok-repacked.ensures.goes _ _ _ c.in_ok-parts.ensures.goes _ c.in-Err-Memory.ensures
