use Rattle.msr_naming.proofs.fallback.name_unstored.Goals as goal

pub returns : goal.returns
returns g c = c.perform.ensures
