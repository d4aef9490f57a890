use Rattle.std.proofs.lemmas.Result.{err_from_is_err_and}
use Rattle.std.proofs.Common.{Bool}
use Rattle.msr_replace.specs.Judging.{ShowsItselfBy}
use Rattle.msr_replace.proofs.Opening.{opened_as, opening_stopped, unopened_as}
use Rattle.msr_replace.proofs.Reading.{least_by}
use Rattle.msr_replace.proofs.verifying.shows_own.Goals as goal

pub returns-in_err-own : goal.returns-in_err-own
returns-in_err-own g c =
    let p = err_from_is_err_and c.from_residual.result c.from_residual.ensures.1 in
    rw (p.1, p.2) (opening_stopped g.T.Reader.Source.device c.at.result.now {B = Bool} (ShowsItselfBy c.args.names.now (g.T.Reader.Source.device c.args.text.now)) _ _ _ c.in_err-own.ensures.went)

pub returns-in-Some : goal.returns-in-Some
returns-in-Some g c =
    opened_as g.T.Reader.Source.device c.at.result.now {B = Bool} c.args.names.now.day (ShowsItselfBy c.args.names.now (g.T.Reader.Source.device c.args.text.now)) c.in_ok-own.field-0 c.in-Some.own _ _ _ c.at.ensures c.in-Some.is
    (λ p q reads is report shows. least_by c.args.names.now report p (g.T.Reader.Source.device c.in-Some.own) (g.T.Reader.Source.device c.args.text.now) reads shows (c.is_least.ensures is)) c.in_ok-own.ensures.went

pub returns-in-None : goal.returns-in-None
returns-in-None g c =
    unopened_as g.T.Reader.Source.device c.at.result.now {B = Bool} (ShowsItselfBy c.args.names.now (g.T.Reader.Source.device c.args.text.now)) c.in_ok-own.field-0 _ _ _ c.in-None.is (λ p q fails is. cc) c.in_ok-own.ensures.went
