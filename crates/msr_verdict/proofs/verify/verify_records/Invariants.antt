use Rattle.msr_input.specs.Records.{left_with}
use Rattle.msr_verdict.proofs.StoppedReading.{UnderWay}
use Rattle.msr_verdict.proofs.verify.verify_records.Given as goal

abbrev pub invariant-records : goal.invariant-records
invariant-records g l = UnderWay l.fn.checker.report.now l.checker.report.now (g.R.Source.device l.fn.source)
    (g.R.Source.device l.source) l.reader l.checker.agreement

abbrev pub decreases-records : goal.decreases-records
decreases-records g l = left_with (g.R.Source.device l.source) l.reader.position.waiting
