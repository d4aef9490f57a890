use Rattle.msr_rows.proofs.WritableRows.{row_is_writable}
use Rattle.msr_rows.proofs.laws.rows_are_writable.Goals as goal

pub returns : goal.returns
returns c = record { row = row_is_writable; start = λ row in_time. in_time.first_in }
