use Rattle.std.proofs.Common.{inr}
use Rattle.std.proofs.lemmas.Result.{err_from_is_err_and}
use Rattle.msr_replace.specs.Judging.{IsOpenedBeside}
use Rattle.msr_replace.specs.declared.verifying.Opened.{Opened}
use Rattle.msr_replace.proofs.Opening.{opened_as, opening_stopped, own_judged, unopened_as}
use Rattle.msr_replace.proofs.verifying.verify_own.Goals as goal

pub returns-in_err-own : goal.returns-in_err-own
returns-in_err-own g c =
    let p = err_from_is_err_and c.from_residual.result c.from_residual.ensures.1 in
    rw (p.1, p.2) (opening_stopped g.T.Reader.Source.device c.at.result.now {B = Opened} (IsOpenedBeside c.args.work.now c.args.names.now (g.T.Reader.Source.device c.args.text.now) (g.T.Reader.Source.device c.args.packed.now)) _ _ _ c.in_err-own.ensures.went)

pub returns-in-Some : goal.returns-in-Some
returns-in-Some g c =
    rw c.opened_of.ensures (opened_as g.T.Reader.Source.device c.at.result.now {B = Opened} c.args.names.now.day (IsOpenedBeside c.args.work.now c.args.names.now (g.T.Reader.Source.device c.args.text.now) (g.T.Reader.Source.device c.args.packed.now)) c.in_ok-own.field-0 c.in-Some.own _ _ _ c.at.ensures c.in-Some.is
    (λ p q reads. own_judged c.args.work.now c.args.names.now (g.T.Reader.Source.device c.args.text.now) (g.T.Reader.Source.device c.args.packed.now) (g.T.Reader.Source.device c.in-Some.own) c.verify_day-answer.result p q c.verify_day-answer.ensures.answer reads) c.in_ok-own.ensures.went)

pub returns-in-None : goal.returns-in-None
returns-in-None g c =
    rw c.unopened.ensures (unopened_as g.T.Reader.Source.device c.at.result.now {B = Opened} (IsOpenedBeside c.args.work.now c.args.names.now (g.T.Reader.Source.device c.args.text.now) (g.T.Reader.Source.device c.args.packed.now)) c.in_ok-own.field-0 _ _ _ c.in-None.is (λ p q fails report a b. inr fails) c.in_ok-own.ensures.went)
