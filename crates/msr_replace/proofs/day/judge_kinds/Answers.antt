use Rattle.msr_replace.proofs.Judged.{kinds_allowed, kinds_lack, kinds_refused}
use Rattle.msr_replace.proofs.day.judge_kinds.Goals as goal

pub returns-then-work : goal.returns-then-work
returns-then-work g c = rw c.verified_of.ensures (kinds_allowed c.args.work.now c.args.names.now c.args.file c.args.records _ c.if-work.true)

pub returns-in-None : goal.returns-in-None
returns-in-None g c =
    rw c.verified_of-in-None.ensures (kinds_lack c.args.work.now c.args.names.now c.args.file c.args.records c.in_ok-refusal.field-0 _ _ c.in-None.is c.in_ok-refusal.ensures)

pub returns-in-Some : goal.returns-in-Some
returns-in-Some g c =
    kinds_refused c.args.work.now c.args.names.now c.args.file c.args.records c.in_ok-refusal.field-0 c.in-Some.refusal _ _ c.in-Some.is c.if-work.false c.in_ok-refusal.ensures
