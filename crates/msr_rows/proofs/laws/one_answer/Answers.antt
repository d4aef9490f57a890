use Rattle.msr_rows.proofs.OneAnswer.{one_row, one_record, one_fault, not_refused}
use Rattle.msr_rows.proofs.laws.one_answer.Goals as goal

pub returns : goal.returns
returns c = record { row = one_row; whole = one_record; fault = one_fault; not_both = not_refused }
