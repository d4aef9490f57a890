use Rattle.std.proofs.Common.{refl}
use Rattle.msr_packer.proofs.ToldSizes.{none_sized}
use Rattle.msr_packer.proofs.held.groups_of.Goals as goal

pub returns-else-found-frontier : goal.returns-else-found-frontier
returns-else-found-frontier c =
    λ samples sizes words is. none_sized samples c.args.found.step.start c.args.found.step.end 0 sizes words refl
