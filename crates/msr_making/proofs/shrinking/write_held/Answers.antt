use Rattle.msr_making.proofs.Held.{held_written}
use Rattle.msr_making.proofs.shrinking.write_held.Goals as goal

pub returns-clause-goes : goal.returns-clause-goes
returns-clause-goes g c = held_written c.args.input.now c.args.look.now c.args.files.now c.args.asked.now c.write_day-written.result c.held_against.result _ _ _ c.write_day-written.ensures.goes c.held_against.ensures.goes
