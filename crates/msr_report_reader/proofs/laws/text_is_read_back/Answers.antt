use Rattle.msr_report_reader.proofs.OneContent.{no_fault, read_back}
use Rattle.msr_report_reader.proofs.laws.text_is_read_back.Goals as goal

pub returns : goal.returns
returns c = record { no_fault = no_fault; back = read_back }
