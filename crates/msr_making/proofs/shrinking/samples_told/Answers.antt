use Rattle.msr_report_reader.proofs.OneContent.{no_fault}
use Rattle.msr_making.proofs.shrinking.samples_told.Goals as goal

pub returns-in-Err-Line-clause-reads : goal.returns-in-Err-Line-clause-reads
returns-in-Err-Line-clause-reads g c =
    let read = c.in-Err-Line.ensures.answer in
    record { text = read.0; left = read.1; tells = λ report reads. no_fault report read.0 c.in-Err-Line.field-0-0 reads (rw c.in-Err-Line.field-0-is at read.2) }
