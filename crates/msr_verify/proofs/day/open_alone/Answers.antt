use Rattle.std.proofs.lemmas.Result.{err_from_is_err_and}
use Rattle.msr_tree.specs.Calls.{Opens}
use Rattle.msr_verify.specs.Opening.{places_at}
use Rattle.msr_verify.specs.declared.judgement.Refusal.TheVariants.{FileUnopened, ReportUnopened}
use Rattle.msr_verify.proofs.OpeningLemmas.{not_opened_alone, still_then}
use Rattle.msr_verify.proofs.day.open_alone.Goals as goal

pub returns-in_err-report-clause-goes : goal.returns-in_err-report-clause-goes
returns-in_err-report-clause-goes g c =
    let p = err_from_is_err_and c.from_residual.result c.from_residual.ensures.1 in
    let places = places_at c.args.places in
    rw (p.1, p.2) (not_opened_alone places places.report ReportUnopened (λ reader. g.T.Reader.Source.device reader) _ _ _ c.in_err-report.ensures.goes)

pub returns-in_err-file-clause-goes : goal.returns-in_err-file-clause-goes
returns-in_err-file-clause-goes g c =
    let p = err_from_is_err_and c.from_residual-in_err-file.result c.from_residual-in_err-file.ensures.1 in
    let places = places_at c.args.places in
    rw (p.1, p.2)
    (still_then (λ past. Opens places.report past (g.T.Reader.Source.device c.in_ok-report.report)) _ _ _ _ c.in_ok-report.ensures.goes
    (not_opened_alone places places.file FileUnopened (λ reader. g.T.Reader.Source.device reader) _ _ _ c.in_err-file.ensures.goes))
