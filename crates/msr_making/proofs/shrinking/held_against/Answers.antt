use Rattle.std.proofs.Common.{◌∙◌, sym}
use Rattle.msr_making.proofs.Days.{unfit_held}
use Rattle.msr_making.proofs.Fewer.{held_unwritten}
use Rattle.msr_making.proofs.shrinking.held_against.Goals as goal

pub returns-in-None-clause-told : goal.returns-in-None-clause-told
returns-in-None-clause-told g c = unfit_held c.args.asked.now c.args.written

pub returns-in-None-clause-goes : goal.returns-in-None-clause-goes
returns-in-None-clause-goes g c = held_unwritten c.args.files.now c.args.look.now c.args.asked.now c.args.written _ (sym c.counts_repacked.ensures ∙ c.in-None.is)
