use Rattle.std.proofs.Common.{◌≡◌, false, nat_eq, rules, subst}
use Rattle.std.proofs.Math.Seq.{take_all}
use Rattle.std.specs.List.{AllByRecursion, ends_with}
use Rattle.msr_walk.proofs.Ours.{all_more, not_ending}
use Rattle.msr_walk.specs.Waiting.{files_waiting}
use Rattle.msr_walk.proofs.batch.may_be_among.Goals as goal

pub loop-day-init : goal.loop-day-init
loop-day-init g c = tt

pub loop-day-preserved : goal.loop-day-preserved
loop-day-preserved g c =
    let records : c.as_bytes.result.now ≡ c.day-item.result.files.records.path = search rules in
    all_more (λ files. ends_with nat_eq files.records.path c.args.path.now ≡ false) c.args.days.now c.loop-day.day-index c.day-item.result c.loop-day-test.true c.day-item.is c.loop-day.invariant
    (not_ending c.day-item.result.files.records.path c.as_bytes.result.now c.args.path.now c.as_bytes-bytes.result.now c.saturating_sub.result records c.as_bytes-bytes.ensures.value (c.ends_in.ensures c.if-ends_in.false))

pub returns : goal.returns
returns g c = λ same. subst (λ l. AllByRecursion (λ files. ends_with nat_eq files.records.path c.args.path.now ≡ false) (files_waiting l))
    (take_all c.loop-day.day-index c.args.days.now c.loop-day-test.false) c.loop-day.invariant
