use Rattle.std.proofs.lemmas.Result.{err_from_is_err_and}
use Rattle.msr_tool.proofs.StoppedTexts.{repack_stops, text_stops, text_told}
use Rattle.msr_tool.proofs.tasks.repack_and_report.Goals as goal

pub returns-in_err-report-clause-answer : goal.returns-in_err-report-clause-answer
returns-in_err-report-clause-answer g c =
    let p = err_from_is_err_and c.from_residual.result c.from_residual.ensures.1 in
    rw (p.1, p.2) (repack_stops c.args.options _ _ _ _ _ _ c.in_err-report.ensures)

pub returns-in_err-write_text-clause-answer : goal.returns-in_err-write_text-clause-answer
returns-in_err-write_text-clause-answer g c =
    let p = err_from_is_err_and c.from_residual-in_err-write_text.result c.from_residual-in_err-write_text.ensures.1 in
    let t = c.in_err-write_text.ensures.text in
    rw (p.1, p.2) (text_stops c.args.options _ _ _ _ _ _ t.0 _ c.in_err-write_text.field-0.0
    c.in_ok-report.ensures t.1.0 t.1.1)

pub returns-clause-answer : goal.returns-clause-answer
returns-clause-answer g c =
    let t = c.in_ok-write_text.ensures.text in
    text_told c.args.options _ _ _ _ _ _ t.0 c.in_ok-report.report c.in_ok-report.ensures t.1.0 t.1.1
