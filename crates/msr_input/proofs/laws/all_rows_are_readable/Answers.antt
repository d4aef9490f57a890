use Rattle.msr_input.proofs.Rows.{all_rows_are_readable}
use Rattle.msr_input.proofs.laws.all_rows_are_readable.Goals as goal

pub returns : goal.returns
returns c = all_rows_are_readable
