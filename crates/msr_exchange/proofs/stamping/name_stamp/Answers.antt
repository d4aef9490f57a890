use Rattle.std.proofs.Common.{◌≡◌, rules}
use Rattle.msr_exchange.proofs.Stamps.{named_stamp, unnamed_stamp}
use Rattle.msr_exchange.proofs.stamping.name_stamp.Goals as goal

pub returns-then-is_err : goal.returns-then-is_err
returns-then-is_err g c =
    let path : c.as_str-path.result.now ≡ c.args.stamp.now.path = search rules in
    let part : c.as_str.result.now ≡ c.args.stamp.now.part = search rules in
    let again : c.as_str-then-is_err.result.now ≡ c.args.stamp.now.part = search rules in
    let renamed = rw path at c.rename-renamed.ensures in
    unnamed_stamp c.args.stamp.now c.rename-renamed.result c.store_folder.result c.remove.result _ _ _ _ _ (rw part at renamed) c.store_folder.ensures (rw again at c.remove.ensures)

pub returns-else-is_err : goal.returns-else-is_err
returns-else-is_err g c =
    let path : c.as_str-path.result.now ≡ c.args.stamp.now.path = search rules in
    let part : c.as_str.result.now ≡ c.args.stamp.now.part = search rules in
    let renamed = rw path at c.rename-renamed.ensures in
    named_stamp c.args.stamp.now c.rename-renamed.result c.store_folder.result _ _ _ _ (rw part at renamed) c.store_folder.ensures
