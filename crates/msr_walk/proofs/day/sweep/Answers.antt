use Rattle.std.proofs.Common.{◌≡◌, rules}
use Rattle.msr_making.proofs.Cleared.{swept}
use Rattle.msr_walk.proofs.day.sweep.Goals as goal

pub returns : goal.returns
returns g c =
    let records : c.as_str.result.now ≡ c.args.files.now.records.part = search rules in
    let report : c.as_str-2.result.now ≡ c.args.files.now.report.part = search rules in
    let stamp : c.as_str-3.result.now ≡ c.args.files.now.stamp.part = search rules in
    swept c.args.files.now c.remove.result c.remove-2.result c.remove-3.result _ _ _ _ (rw records at c.remove.ensures) (rw report at c.remove-2.ensures) (rw stamp at c.remove-3.ensures)
