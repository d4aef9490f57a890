use Rattle.msr_replace.proofs.Judged.{whole_told, whole_verified}
use Rattle.msr_replace.proofs.day.judge_files.Goals as goal

pub returns-in-Verified : goal.returns-in-Verified
returns-in-Verified g c =
    whole_verified c.args.work.now c.args.names.now c.args.file c.args.records c.args.report.now _ _ _ _ _ c.in-Verified.is c.in_ok-answer.ensures c.judge_kinds.ensures

pub returns-in-Told : goal.returns-in-Told
returns-in-Told g c =
    whole_told c.args.work.now c.args.names.now c.args.file c.args.records c.args.report.now _ _ _ _ c.in-Told.is c.in_ok-answer.ensures
