use Rattle.std.proofs.Common.{◌≡◌, ◌∷◌, [], refl}
use Rattle.msr_exchange.specs.Stamped.{stamp_part_in}
use Rattle.msr_replace.proofs.Cleared.{removes_none, removes_one}
use Rattle.msr_replace.proofs.ways.clear_stamp.Goals as goal

pub returns-in-Ok : goal.returns-in-Ok
returns-in-Ok g c =
    let part = stamp_part_in c.args.work.now c.args.folder.now in
    let path : c.as_str.result.now ≡ part = rw (c.as_str.ensures.value, c.in-Ok.ensures.ok) refl in
    removes_one part c.remove.result _ _ (rw path at c.remove.ensures)

pub returns-in-Err : goal.returns-in-Err
returns-in-Err g c = removes_none (stamp_part_in c.args.work.now c.args.folder.now ∷ []) _
