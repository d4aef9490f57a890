use Rattle.msr_walk.proofs.Ours.{none_of_part, of_day_at}
use Rattle.msr_walk.proofs.Working.{goes_settles_more, goes_settles_none, goes_settles_then, held_after}
use Rattle.msr_walk.specs.Waiting.{parts_waiting}
use Rattle.msr_walk.proofs.batch.release_all.Goals as goal

pub loop-day-init : goal.loop-day-init
loop-day-init g c = goes_settles_none c.args.walker.now.archive.now _ _

pub release-requires : goal.release-requires
release-requires g c = λ past went.
    of_day_at c.args.walker.now.archive.now c.args.days.now c.loop-day.day-index c.day-item.result c.loop-day-test.true c.day-item.is
    (held_after _ _ _ _ c.loop-day.invariant c.requires past went)

pub loop-day-preserved : goal.loop-day-preserved
loop-day-preserved g c =
    goes_settles_then c.args.walker.now.archive.now c.args.walker.now.apart (parts_waiting c.args.days.now) _ _ _ c.loop-day.invariant
    (goes_settles_more c.args.walker.now.archive.now _ (parts_waiting c.args.days.now) _ _
    (λ name none. none_of_part name c.args.days.now c.loop-day.day-index c.day-item.result c.loop-day-test.true c.day-item.is none) c.release.ensures)
