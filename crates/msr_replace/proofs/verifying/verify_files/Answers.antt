use Rattle.std.proofs.lemmas.Result.{err_from_is_err_and}
use Rattle.std.proofs.Common.{inr, refl}
use Rattle.msr_replace.specs.Judging.{IsOpenedDay, IsOpenedBy}
use Rattle.msr_replace.specs.declared.verifying.Opened.{Opened}
use Rattle.msr_replace.proofs.Opening.{opened_sooner, opened_then, opening_stopped, unopened_as}
use Rattle.msr_replace.proofs.Reading.{reads_later}
use Rattle.msr_replace.proofs.verifying.verify_files.Goals as goal

pub returns-in_err-text : goal.returns-in_err-text
returns-in_err-text g c =
    let p = err_from_is_err_and c.from_residual.result c.from_residual.ensures.1 in
    rw (p.1, p.2) (opening_stopped g.T.Reader.Source.device c.args.report.now {B = Opened} (IsOpenedDay c.args.work.now c.args.names.now c.args.report.now) _ _ _ c.in_err-text.ensures.went)

pub returns-in-Some : goal.returns-in-Some
returns-in-Some g c =
    let work = c.args.work.now in
    let names = c.args.names.now in
    let report = c.args.report.now in
    let text = g.T.Reader.Source.device c.in-Some.text in
    opened_then g.T.Reader.Source.device report {B = Opened} report (IsOpenedBy work names text) (IsOpenedDay work names report) c.in_ok-text.field-0 c.in-Some.text _ _ _ _ refl c.in-Some.is
    (λ p q r x ch shows by. opened_sooner work names report p q ch r x (by report (reads_later report text p q ch shows))) c.in_ok-text.ensures.went c.verify_records.ensures

pub returns-in-None : goal.returns-in-None
returns-in-None g c =
    rw c.unopened.ensures (unopened_as g.T.Reader.Source.device c.args.report.now {B = Opened} (IsOpenedDay c.args.work.now c.args.names.now c.args.report.now) c.in_ok-text.field-0 _ _ _ c.in-None.is (λ p q fails. inr fails) c.in_ok-text.ensures.went)
