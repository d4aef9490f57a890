use Rattle.std.proofs.Common.{◌≡◌, rules}
use Rattle.msr_walk.proofs.Working.{goes_settles_none, removed_at}
use Rattle.msr_walk.proofs.batch.release.Goals as goal

pub returns-then-is_stamped : goal.returns-then-is_stamped
returns-then-is_stamped g c = goes_settles_none c.args.walker.now.archive.now _ _

pub returns-then-is_ok : goal.returns-then-is_ok
returns-then-is_ok g c =
    let at : c.as_str.result.now ≡ c.args.day.now.files.stamp.part = search rules in
    removed_at c.args.walker.now.archive.now c.args.walker.now.apart c.args.day.now.files c.as_str.result.now c.remove.result _ _ at c.requires c.remove.ensures

pub returns-else-is_ok : goal.returns-else-is_ok
returns-else-is_ok g c =
    let at : c.as_str.result.now ≡ c.args.day.now.files.stamp.part = search rules in
    removed_at c.args.walker.now.archive.now c.args.walker.now.apart c.args.day.now.files c.as_str.result.now c.remove.result _ _ at c.requires c.remove.ensures
