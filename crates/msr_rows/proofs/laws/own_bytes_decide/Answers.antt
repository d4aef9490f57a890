use Rattle.msr_rows.proofs.FirstBytes.{own_record, own_row, own_refusal}
use Rattle.msr_rows.proofs.laws.own_bytes_decide.Goals as goal

pub returns : goal.returns
returns c = record { found = own_record; row = own_row; refused = own_refusal }
