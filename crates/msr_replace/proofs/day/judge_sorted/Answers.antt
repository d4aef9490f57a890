use Rattle.std.proofs.Common.{subst}
use Rattle.msr_replace.specs.Looks.{SortsAs}
use Rattle.msr_replace.proofs.Judged.{seen_refused}
use Rattle.msr_replace.proofs.day.judge_sorted.Goals as goal

pub returns-in-Refused : goal.returns-in-Refused
returns-in-Refused g c =
    seen_refused c.args.work.now c.args.names.now c.args.report.now c.args.looked.now c.in-Refused.refusal _ (subst (λ s. SortsAs c.args.looked.now s) c.in-Refused.is c.sort.ensures)
