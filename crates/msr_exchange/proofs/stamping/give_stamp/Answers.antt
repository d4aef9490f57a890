use Rattle.std.proofs.Common.{◌≡◌, rules}
use Rattle.msr_exchange.proofs.Stamps.{given_already, given_named, given_none}
use Rattle.msr_exchange.proofs.stamping.give_stamp.Goals as goal

pub returns-then-has_stamp : goal.returns-then-has_stamp
returns-then-has_stamp g c = given_already c.args.stamp.now c.args.names.now c.args.of c.args.value _ _ c.has_stamp.ensures

pub returns-then-write_stamp : goal.returns-then-write_stamp
returns-then-write_stamp g c =
    let part : c.as_str.result.now ≡ c.args.stamp.now.part = search rules in
    given_named c.args.stamp.now c.args.names.now c.args.of c.args.value c.write_stamp.result _ _ _ _ c.if-write_stamp.true c.has_stamp.ensures (rw part at c.write_stamp.ensures) c.name_stamp.ensures

pub returns : goal.returns
returns g c =
    let part : c.as_str.result.now ≡ c.args.stamp.now.part = search rules in
    given_none c.args.stamp.now c.args.names.now c.args.of c.args.value c.write_stamp.result _ _ _ _ c.has_stamp.ensures (rw part at c.write_stamp.ensures) c.drop_stamp.ensures
