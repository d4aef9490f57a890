use Rattle.msr_making.proofs.Made.{named_failed, named_memory, named_well}
use Rattle.msr_making.proofs.making.named.Goals as goal

pub returns-in-Ok : goal.returns-in-Ok
returns-in-Ok g c = named_well c.args.naming c.args.repacked _ c.in-Ok.is

pub returns-in-Failed : goal.returns-in-Failed
returns-in-Failed g c = named_failed c.args.naming c.args.repacked c.in-Err.stopped _ c.side_of.ensures c.in-Err.is c.in-Failed.is

pub returns-in-Memory : goal.returns-in-Memory
returns-in-Memory g c = named_memory c.args.naming c.args.repacked c.in-Err.stopped c.in-Err.is c.in-Memory.is
