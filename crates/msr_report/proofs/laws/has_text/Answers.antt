use Rattle.msr_report.proofs.OneText.{has_report_text}
use Rattle.msr_report.proofs.laws.has_text.Goals as goal

pub returns : goal.returns
returns c = has_report_text
