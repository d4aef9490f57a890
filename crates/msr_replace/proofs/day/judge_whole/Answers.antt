use Rattle.msr_replace.proofs.Judged.{whole_later, whole_refused}
use Rattle.msr_replace.proofs.day.judge_whole.Goals as goal

pub returns-in-Some : goal.returns-in-Some
returns-in-Some g c =
    whole_refused c.args.work.now c.args.names.now c.args.file c.args.records c.args.report.now c.args.path.now c.in_ok-refusal.field-0 c.in-Some.refusal _ _ c.requires c.in-Some.is c.in_ok-refusal.ensures

pub returns-in-None : goal.returns-in-None
returns-in-None g c =
    whole_later c.args.work.now c.args.names.now c.args.file c.args.records c.args.report.now c.args.path.now c.in_ok-refusal.field-0 _ _ _ _ c.in_ok-refusal.ensures c.judge_files.ensures
