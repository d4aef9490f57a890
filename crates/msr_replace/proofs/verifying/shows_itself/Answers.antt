use Rattle.std.proofs.lemmas.Result.{err_from_is_err_and}
use Rattle.std.proofs.Common.{Bool, refl}
use Rattle.msr_replace.specs.Judging.{ShowsItself, ShowsItselfBy}
use Rattle.msr_replace.proofs.Opening.{least_sooner, opened_then, opening_stopped, unopened_as}
use Rattle.msr_replace.proofs.Reading.{reads_later}
use Rattle.msr_replace.proofs.verifying.shows_itself.Goals as goal

pub returns-in_err-text : goal.returns-in_err-text
returns-in_err-text g c =
    let p = err_from_is_err_and c.from_residual.result c.from_residual.ensures.1 in
    rw (p.1, p.2) (opening_stopped g.T.Reader.Source.device c.args.report.now {B = Bool} (ShowsItself c.args.names.now c.args.report.now) _ _ _ c.in_err-text.ensures.went)

pub returns-in-Some : goal.returns-in-Some
returns-in-Some g c =
    let names = c.args.names.now in
    let report = c.args.report.now in
    let text = g.T.Reader.Source.device c.in-Some.text in
    opened_then g.T.Reader.Source.device report {B = Bool} report (ShowsItselfBy names text) (ShowsItself names report) c.in_ok-text.field-0 c.in-Some.text _ _ _ _ refl c.in-Some.is
    (λ p q r x ch shows by is. least_sooner names report p q ch (by is report (reads_later report text p q ch shows))) c.in_ok-text.ensures.went c.shows_own.ensures

pub returns-in-None : goal.returns-in-None
returns-in-None g c =
    unopened_as g.T.Reader.Source.device c.args.report.now {B = Bool} (ShowsItself c.args.names.now c.args.report.now) c.in_ok-text.field-0 _ _ _ c.in-None.is (λ p q fails is. cc) c.in_ok-text.ensures.went
