use Rattle.msr_verdict.proofs.StoppedReading.{own, settings_none}
use Rattle.msr_verdict.proofs.verify.verify_packed.Goals as goal

pub verify_records-requires-clause-reader : goal.verify_records-requires-clause-reader
verify_records-requires-clause-reader g c =
    let r = c.new-reader.ensures in
    let following = rw c.settings_by.ensures at r.following in
    let strict = rw c.settings_by.ensures at r.strict in (
      r.none (g.R.Source.device c.args.source.now),
      rw c.new-checker.ensures.report_is (settings_none c.args.report.now c.new-reader.result following strict),
    )

pub verify_records-requires-clause-checker : goal.verify_records-requires-clause-checker
verify_records-requires-clause-checker g c =
    let following = rw c.settings_by.ensures at c.new-reader.ensures.following in
    rw following (own c.new-checker.ensures)

pub returns-clause-answer : goal.returns-clause-answer
returns-clause-answer g c =
    let a = c.verify_records.ensures.0 in
    (a.0, a.1, rw c.new-checker.ensures.report_is at a.2)
