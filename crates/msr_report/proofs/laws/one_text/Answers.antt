use Rattle.msr_report.proofs.OneText.{one_report_text, one_list_line}
use Rattle.msr_report.proofs.laws.one_text.Goals as goal

pub returns : goal.returns
returns c = record { report = one_report_text; line = one_list_line }
