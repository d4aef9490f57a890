use Rattle.std.proofs.Common.{◌≡◌, rules}
use Rattle.msr_exchange.proofs.Stamps.{tells_gone}
use Rattle.msr_exchange.proofs.stamping.are_gone.Goals as goal

pub returns : goal.returns
returns g c =
    let original : c.at.result.now ≡ c.args.names.now.original = search rules in
    let records : c.at-2.result.now ≡ c.args.names.now.records = search rules in
    tells_gone c.args.names.now.original c.args.names.now.records c.look-original.result c.look-records.result c.is_something.result c.is_nothing.result _ _ _ c.is_nothing.ensures.0
    (rw original at c.look-original.ensures) (rw records at c.look-records.ensures)
