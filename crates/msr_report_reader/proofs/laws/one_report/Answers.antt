use Rattle.msr_report_reader.proofs.OneContent.{one_report}
use Rattle.msr_report_reader.proofs.laws.one_report.Goals as goal

pub returns : goal.returns
returns c = one_report
