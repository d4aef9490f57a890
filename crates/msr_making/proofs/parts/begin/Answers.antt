use Rattle.std.proofs.Common.{◌∷◌, [], inl, inr, refl}
use Rattle.msr_options.specs.declared.hint.Side.TheVariants.{Records, Report}
use Rattle.msr_tree.proofs.Acting.{goes_more, then_ok, then_stopped}
use Rattle.std.proofs.lemmas.Result.{err_from_is_err_and}
use Rattle.msr_naming.specs.Making.{IsBegun}
use Rattle.msr_making.specs.Parts.{AreBegun, part_paths}
use Rattle.msr_making.specs.declared.parts.Parts.{Parts}
use Rattle.msr_making.proofs.parts.begin.Goals as goal

pub returns-in_err-records-clause-refuses : goal.returns-in_err-records-clause-refuses
returns-in_err-records-clause-refuses g c =
    let p = err_from_is_err_and c.from_residual.result c.from_residual.ensures.1 in
    rw (p.1, p.2) (Records, inl refl, c.in_err-records.ensures.refuses)

pub returns-in_err-report-clause-refuses : goal.returns-in_err-report-clause-refuses
returns-in_err-report-clause-refuses g c =
    let p = err_from_is_err_and c.from_residual-in_err-report.result c.from_residual-in_err-report.ensures.1 in
    rw (p.1, p.2) (Report, inr refl, c.in_err-report.ensures.refuses)

pub returns-in_err-report-clause-goes : goal.returns-in_err-report-clause-goes
returns-in_err-report-clause-goes g c =
    let p = err_from_is_err_and c.from_residual-in_err-report.result c.from_residual-in_err-report.ensures.1 in
    let files = c.args.files.now in
    let l = part_paths files in
    let device = g.T.Writer.Sink.device in
    let first = goes_more {T = g.row.T-Writer.Denot} (files.records.part ∷ []) l (IsBegun device) _ _ _ (λ n none. (none.0, tt)) c.in_ok-records.ensures.goes in
    let second = goes_more {T = g.row.T-Writer.Denot} (files.report.part ∷ []) l (IsBegun device) _ _ _ (λ n none. (none.1.0, tt)) c.in_err-report.ensures.goes in
    rw (p.1, p.2) (then_stopped {A = g.row.T-Writer.Denot} {B = g.row.T-Writer.Denot} {C = Parts g.row.T-Writer.Denot} l (IsBegun device) (IsBegun device) (AreBegun device) c.in_ok-records.records _ _ _ _ first second)

pub returns-clause-goes : goal.returns-clause-goes
returns-clause-goes g c =
    let files = c.args.files.now in
    let l = part_paths files in
    let device = g.T.Writer.Sink.device in
    let first = goes_more {T = g.row.T-Writer.Denot} (files.records.part ∷ []) l (IsBegun device) _ _ _ (λ n none. (none.0, tt)) c.in_ok-records.ensures.goes in
    let second = goes_more {T = g.row.T-Writer.Denot} (files.report.part ∷ []) l (IsBegun device) _ _ _ (λ n none. (none.1.0, tt)) c.in_ok-report.ensures.goes in
    then_ok {A = g.row.T-Writer.Denot} {B = g.row.T-Writer.Denot} {C = Parts g.row.T-Writer.Denot} l (IsBegun device) (IsBegun device) (AreBegun device) c.in_ok-records.records c.in_ok-report.report _ _ _ _
    (λ p q r begun also a b. (begun, also)) first second
