use Rattle.std.proofs.Common.{◌≡◌, rules}
use Rattle.msr_making.proofs.Stamped.{stamps_changed, stamps_failed, stamps_none, stamps_well}
use Rattle.msr_making.proofs.stamping.stamp_asked.Goals as goal

pub returns-then-not-asked : goal.returns-then-not-asked
returns-then-not-asked g c = stamps_none c.args.sight c.args.files.now c.args.is_stored _

pub returns-then-not-is_stored : goal.returns-then-not-is_stored
returns-then-not-is_stored g c = stamps_none c.args.sight c.args.files.now c.args.is_stored _

pub returns-in_default : goal.returns-in_default
returns-in_default g c = stamps_none c.args.sight c.args.files.now c.args.is_stored _

pub returns-then-not-is_still : goal.returns-then-not-is_still
returns-then-not-is_still g c = stamps_changed c.args.sight c.args.files.now c.args.is_stored _ _ c.is_still.ensures

pub returns-then-write_stamp : goal.returns-then-write_stamp
returns-then-write_stamp g c =
    let path : c.as_str-part.result.now ≡ c.args.files.now.stamp.part = search rules in
    stamps_well c.args.sight c.args.files.now c.args.is_stored c.in-Some.facts c.of-stamp.result c.write_stamp.result _ _ _ c.in-Some.ensures.found.found c.if-not-is_stored.false c.of-stamp.ensures c.if-write_stamp.true c.is_still.ensures (rw path at c.write_stamp.ensures)

pub returns-in-Ok : goal.returns-in-Ok
returns-in-Ok g c =
    let path : c.as_str-part.result.now ≡ c.args.files.now.stamp.part = search rules in
    stamps_failed c.args.sight c.args.files.now c.args.is_stored c.of-stamp.result c.write_stamp.result c.remove.result _ _ _ _ _ (λ is. absurd cc) c.is_still.ensures (rw path at c.write_stamp.ensures) (rw path at c.remove.ensures)

pub returns-in-Err : goal.returns-in-Err
returns-in-Err g c =
    let path : c.as_str-part.result.now ≡ c.args.files.now.stamp.part = search rules in
    stamps_failed c.args.sight c.args.files.now c.args.is_stored c.of-stamp.result c.write_stamp.result c.remove.result _ _ _ _ _ (λ is. absurd cc) c.is_still.ensures (rw path at c.write_stamp.ensures) (rw path at c.remove.ensures)
