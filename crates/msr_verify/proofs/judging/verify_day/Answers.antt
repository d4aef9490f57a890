use Rattle.msr_verify.proofs.Judged.{day_found, file_failed, records_failed, report_fails, report_read}
use Rattle.msr_verify.proofs.judging.verify_day.Goals as goal

pub returns-in-Err-clause-answer : goal.returns-in-Err-clause-answer
returns-in-Err-clause-answer g c =
    let a = c.in-Err.ensures.answer in
    rw c.report_fault.ensures (report_fails _ _ _ a.0 c.in-Err.fault a.1 a.2)

pub returns-in-Ok-clause-answer : goal.returns-in-Ok-clause-answer
returns-in-Ok-clause-answer g c =
    let a = c.in-Ok.ensures.answer in
    let b = c.verify_beside.ensures.answer in
    rw c.finding_of.ensures (day_found b.1 b.0 a.0 c.in-Ok.report a.2 _ _ _ c.verify_beside.result b.3 b.2 a.1 b.4)

pub returns-in-Ok-clause-read_file : goal.returns-in-Ok-clause-read_file
returns-in-Ok-clause-read_file g c =
    rw c.finding_of.ensures (file_failed c.verify_beside.result c.verify_beside.ensures.read_beside)

pub returns-in-Ok-clause-read_records : goal.returns-in-Ok-clause-read_records
returns-in-Ok-clause-read_records g c =
    rw c.finding_of.ensures (records_failed c.verify_beside.result c.verify_beside.ensures.read_packed)

pub returns-in-Ok-clause-read_report : goal.returns-in-Ok-clause-read_report
returns-in-Ok-clause-read_report g c =
    rw c.finding_of.ensures (report_read c.verify_beside.result (λ failed. let e = c.in-Ok.ensures.read.1 failed in cc))
