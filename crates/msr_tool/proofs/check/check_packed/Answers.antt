use Rattle.std.proofs.Common.{inr}
use Rattle.std.proofs.lemmas.Result.{err_from_is_err_and}
use Rattle.msr_tool.proofs.Checked.{report_fails, verify_fails}
use Rattle.msr_tool.proofs.check.check_packed.Goals as goal

pub returns-in_err-report-clause-answer : goal.returns-in_err-report-clause-answer
returns-in_err-report-clause-answer g c =
    let p = err_from_is_err_and c.from_residual.result c.from_residual.ensures.1 in
    let a = c.in_err-report.ensures.answer in
    rw (p.1, p.2) (report_fails (g.R.Source.device c.args.packed.now)
    (g.Q.Source.device c.args.report.now) a.0 c.in_err-report.field-0.0 a.1 a.2)

pub returns-in_err-verdict-clause-answer : goal.returns-in_err-verdict-clause-answer
returns-in_err-verdict-clause-answer g c =
    let p = err_from_is_err_and c.from_residual-in_err-verdict.result c.from_residual-in_err-verdict.ensures.1 in
    let a = c.in_ok-report.ensures.answer in
    let b = c.in_err-verdict.ensures.answer in
    rw (p.1, p.2) (verify_fails (g.R.Source.device c.args.packed.now)
    (g.Q.Source.device c.args.report.now) b.0 a.0 c.in_ok-report.report c.in_err-verdict.field-0.0 b.1 a.1 a.2 b.2)

pub returns-in_err-verdict-clause-report_first : goal.returns-in_err-verdict-clause-report_first
returns-in_err-verdict-clause-report_first g c =
    let a = c.in_ok-report.ensures.answer in
    inr (record { text = a.0; left = a.1; report = c.in_ok-report.report; read = a.2 })

pub returns-clause-report_first : goal.returns-clause-report_first
returns-clause-report_first g c =
    let a = c.in_ok-report.ensures.answer in
    inr (record { text = a.0; left = a.1; report = c.in_ok-report.report; read = a.2 })
