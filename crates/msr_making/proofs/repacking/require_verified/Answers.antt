use Rattle.std.proofs.Common.{◌∙◌, sym}
use Rattle.msr_making.proofs.Compared.{failure_told, fault_said, none_failed, other_tolerance, report_alone, report_failed, still, verified}
use Rattle.msr_making.proofs.repacking.require_verified.Goals as goal

pub returns-in-Err-clause-answer : goal.returns-in-Err-clause-answer
returns-in-Err-clause-answer g c =
    let a = c.in-Err.ensures.answer in
    rw c.told_of_report.ensures (report_alone _ _ _ _ a.0 _ a.1 (fault_said _ a.0 c.in-Err.fault a.2))

pub returns-in-Err-clause-read : goal.returns-in-Err-clause-read
returns-in-Err-clause-read g c =
    rw c.told_of_report.ensures (report_failed c.in-Err.fault (still (g.F.Source.device c.args.file.now))
    (still (g.P.Source.device c.args.packed.now)) c.in-Err.ensures.read)

pub returns-then-report-tolerance-clause-answer : goal.returns-then-report-tolerance-clause-answer
returns-then-report-tolerance-clause-answer g c =
    let a = c.in-Ok.ensures.answer in
    report_alone _ _ _ _ a.0 _ a.1 (λ written input. other_tolerance _ a.0 c.in-Ok.report a.2
    (λ e. c.if-report-tolerance.true (e ∙ sym c.tolerance.ensures.same)))

pub returns-then-report-tolerance-clause-read : goal.returns-then-report-tolerance-clause-read
returns-then-report-tolerance-clause-read g c =
    none_failed (still (g.F.Source.device c.args.file.now)) (still (g.P.Source.device c.args.packed.now))
    (λ failed. let e = c.in-Ok.ensures.read.1 failed in cc)

pub returns-clause-answer : goal.returns-clause-answer
returns-clause-answer g c =
    let a = c.in-Ok.ensures.answer in
    let b = c.verify_beside.ensures.answer in
    rw c.told_of.ensures (verified _ a.0 c.in-Ok.report a.2 (c.if-report-tolerance.false ∙ c.tolerance.ensures.same) b.1 b.0
    _ _ _ c.verify_beside.result b.3 b.2 a.1 b.4)

pub returns-clause-read : goal.returns-clause-read
returns-clause-read g c =
    rw c.told_of.ensures (failure_told c.verify_beside.result c.verify_beside.ensures.read_packed
    c.verify_beside.ensures.read_beside (λ failed. let e = c.in-Ok.ensures.read.1 failed in cc))
