use Rattle.msr_rows.proofs.OneAnswer.{reverse_not_refused, reverse_of_record, reverse_one}
use Rattle.msr_rows.proofs.laws.one_reverse.Goals as goal

pub returns : goal.returns
returns c = record { one = reverse_one; whole = reverse_of_record; not_both = reverse_not_refused }
