use Rattle.std.proofs.Common.{◌≡◌, rules}
use Rattle.msr_making.proofs.Cleared.{all_three, sweeps}
use Rattle.msr_making.proofs.clearing.sweep.Goals as goal

pub returns : goal.returns
returns g c =
    let one : c.as_str.result.now ≡ c.args.files.now.records.part = search rules in
    let two : c.as_str-2.result.now ≡ c.args.files.now.report.part = search rules in
    let three : c.as_str-3.result.now ≡ c.args.files.now.stamp.part = search rules in
    sweeps c.args.files.now c.remove.result c.remove-2.result c.remove-3.result _ _ _ _ _ (all_three _ _ _ _ _ _ c.is_ok-records.ensures.value c.is_ok-report.ensures.value c.is_ok-stamp.ensures.value) (rw one at c.remove.ensures) (rw two at c.remove-2.ensures) (rw three at c.remove-3.ensures)
