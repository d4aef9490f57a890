use Rattle.std.proofs.Common.{◌≡◌, Err, Ok, rules}
use Rattle.msr_exchange.proofs.Stamps.{finds_none, finds_regular}
use Rattle.msr_exchange.proofs.stamping.stamp_of_file.Goals as goal

pub returns-in-Ok-Some : goal.returns-in-Ok-Some
returns-in-Ok-Some g c =
    let day : c.at.result.now ≡ c.args.names.now.day = search rules in
    let looked = rw c.in-Ok-Some.field-0-is at c.in-Ok-Some.ensures in
    finds_regular c.args.names.now.day c.in-Ok-Some.facts c.regular_stamp.result _ _ c.regular_stamp.ensures (rw day at looked)

pub returns-in-Ok-None : goal.returns-in-Ok-None
returns-in-Ok-None g c =
    let day : c.at.result.now ≡ c.args.names.now.day = search rules in
    finds_none c.args.names.now.day (Ok c.in-Ok-None.field-0) _ _ (rw day at c.in-Ok-None.ensures)

pub returns-in-Err : goal.returns-in-Err
returns-in-Err g c =
    let day : c.at.result.now ≡ c.args.names.now.day = search rules in
    finds_none c.args.names.now.day (Err c.in-Err.field-0) _ _ (rw day at c.in-Err.ensures)
