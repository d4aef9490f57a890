use Rattle.msr_replace.proofs.Judged.{missing_now}
use Rattle.msr_replace.proofs.day.judge_missing.Goals as goal

pub returns-then-is_some : goal.returns-then-is_some
returns-then-is_some g c = missing_now c.args.work.now c.args.names.now c.args.report.now c.args.looked.now _
