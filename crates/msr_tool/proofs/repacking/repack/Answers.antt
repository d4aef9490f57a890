use Rattle.msr_tool.proofs.repacking.repack.Goals as goal

pub returns : goal.returns
returns g c = c.repack_with.ensures.0
