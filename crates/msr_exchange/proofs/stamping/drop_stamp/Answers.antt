use Rattle.std.proofs.Common.{◌≡◌, rules}
use Rattle.msr_exchange.proofs.Stamps.{dropped_stamp}
use Rattle.msr_exchange.proofs.stamping.drop_stamp.Goals as goal

pub returns : goal.returns
returns g c =
    let part : c.as_str.result.now ≡ c.args.stamp.now.part = search rules in
    let path : c.as_str-2.result.now ≡ c.args.stamp.now.path = search rules in
    dropped_stamp c.args.stamp.now c.args.names.now c.remove.result c.remove-2.result _ _ _ (rw part at c.remove.ensures) (rw path at c.remove-2.ensures)
