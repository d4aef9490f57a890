use Rattle.std.proofs.Common.{inl, inr}
use Rattle.std.proofs.lemmas.Result.{err_from_is_err_and}
use Rattle.msr_replace.specs.Judging.{IsOpenedBeside, IsOpenedBy}
use Rattle.msr_replace.specs.declared.verifying.Opened.{Opened}
use Rattle.msr_replace.proofs.Opening.{opened_sooner, opened_then, opening_stopped, unopened_as}
use Rattle.msr_replace.proofs.Reading.{reads_later}
use Rattle.msr_replace.proofs.verifying.verify_records.Goals as goal

pub returns-in_err-packed : goal.returns-in_err-packed
returns-in_err-packed g c =
    let p = err_from_is_err_and c.from_residual.result c.from_residual.ensures.1 in
    rw (p.1, p.2) (opening_stopped g.T.Reader.Source.device c.at.result.now {B = Opened} (IsOpenedBy c.args.work.now c.args.names.now (g.T.Reader.Source.device c.args.text.now)) _ _ _ c.in_err-packed.ensures.went)

pub returns-in-Some : goal.returns-in-Some
returns-in-Some g c =
    let work = c.args.work.now in
    let names = c.args.names.now in
    let text = g.T.Reader.Source.device c.args.text.now in
    let packed = g.T.Reader.Source.device c.in-Some.packed in
    opened_then g.T.Reader.Source.device c.at.result.now {B = Opened} names.records (IsOpenedBeside work names text packed) (IsOpenedBy work names text) c.in_ok-packed.field-0 c.in-Some.packed _ _ _ _ c.at.ensures c.in-Some.is
    (λ p q r x ch comes beside report shows. opened_sooner work names report p q ch r x (beside report (reads_later report text p q ch shows) (reads_later names.records packed p q ch comes))) c.in_ok-packed.ensures.went c.verify_own.ensures

pub returns-in-None : goal.returns-in-None
returns-in-None g c =
    rw c.unopened.ensures (unopened_as g.T.Reader.Source.device c.at.result.now {B = Opened} (IsOpenedBy c.args.work.now c.args.names.now (g.T.Reader.Source.device c.args.text.now)) c.in_ok-packed.field-0 _ _ _ c.in-None.is (λ p q fails report a. inl (inr fails)) c.in_ok-packed.ensures.went)
