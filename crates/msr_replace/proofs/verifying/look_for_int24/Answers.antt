use Rattle.std.proofs.lemmas.Result.{err_from_is_err_and}
use Rattle.std.proofs.Common.{inl, inr, Option}
use Rattle.msr_replace.specs.Judging.{TellsKinds}
use Rattle.msr_replace.specs.declared.answers.DayRefusal.{DayRefusal}
use Rattle.msr_replace.proofs.Opening.{kinds_told, opened_as, opening_stopped, unopened_as}
use Rattle.msr_replace.proofs.verifying.look_for_int24.Goals as goal

pub returns-in_err-records : goal.returns-in_err-records
returns-in_err-records g c =
    let p = err_from_is_err_and c.from_residual.result c.from_residual.ensures.1 in
    rw (p.1, p.2) (opening_stopped g.T.Reader.Source.device c.at.result.now {B = Option DayRefusal} (TellsKinds c.args.names.now) _ _ _ c.in_err-records.ensures.went)

pub returns-in-Some : goal.returns-in-Some
returns-in-Some g c =
    rw c.kinds_refusal.ensures (opened_as g.T.Reader.Source.device c.at.result.now {B = Option DayRefusal} c.args.names.now.records (TellsKinds c.args.names.now) c.in_ok-records.field-0 c.in-Some.records _ _ _ c.at.ensures c.in-Some.is
    (λ p q reads. kinds_told c.args.names.now (g.T.Reader.Source.device c.in-Some.records) c.has_int24.result p q c.has_int24.ensures reads) c.in_ok-records.ensures.went)

pub returns-in-None : goal.returns-in-None
returns-in-None g c =
    unopened_as g.T.Reader.Source.device c.at.result.now {B = Option DayRefusal} (TellsKinds c.args.names.now) c.in_ok-records.field-0 _ _ _ c.in-None.is (λ p q fails work report none found. inl (inr fails)) c.in_ok-records.ensures.went
