use Rattle.std.proofs.Common.{rules}
use Rattle.std.proofs.lemmas.Result.{err_from_is_err_and}
use Rattle.msr_tool.proofs.StoppedTexts.{repack_stops, text_stops, text_told}
use Rattle.msr_tool.proofs.tasks.feed_and_report.Goals as goal

pub returns-in_err-fed-clause-answer : goal.returns-in_err-fed-clause-answer
returns-in_err-fed-clause-answer g c =
    let p = err_from_is_err_and c.from_residual.result c.from_residual.ensures.1 in
    rw (p.1, p.2) (repack_stops c.args.options _ _ _ _ _ _ c.in_err-fed.ensures.does)

pub returns-in_err-fed-clause-kept_up : goal.returns-in_err-fed-clause-kept_up
returns-in_err-fed-clause-kept_up g c =
    let p = err_from_is_err_and c.from_residual.result c.from_residual.ensures.1 in
    rw (p.1, p.2) c.in_err-fed.ensures.kept_up

pub returns-in_err-write_text-clause-answer : goal.returns-in_err-write_text-clause-answer
returns-in_err-write_text-clause-answer g c =
    let p = err_from_is_err_and c.from_residual-in_err-write_text.result c.from_residual-in_err-write_text.ensures.1 in
    let t = c.in_err-write_text.ensures.text in
    rw (p.1, p.2) (text_stops c.args.options _ _ _ _ _ _ t.0 _ c.in_err-write_text.field-0.0
    c.in_ok-fed.ensures.does t.1.0 t.1.1)

pub returns-in_err-fed-clause-failures : goal.returns-in_err-fed-clause-failures
returns-in_err-fed-clause-failures g c = search rules

pub returns-in_err-write_text-clause-failures : goal.returns-in_err-write_text-clause-failures
returns-in_err-write_text-clause-failures g c = search rules

pub returns-clause-answer : goal.returns-clause-answer
returns-clause-answer g c =
    let t = c.in_ok-write_text.ensures.text in
    text_told c.args.options _ _ _ _ _ _ t.0 c.in_ok-fed.fed c.in_ok-fed.ensures.does t.1.0 t.1.1

pub returns-clause-failures : goal.returns-clause-failures
returns-clause-failures g c = search rules
