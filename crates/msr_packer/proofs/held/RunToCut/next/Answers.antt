use Rattle.msr_packer.proofs.held.RunToCut.next.Goals as goal

pub returns-clause-sizes : goal.returns-clause-sizes
returns-clause-sizes c =
    c.of.ensures.sizes c.next_step-found.new.sizes c.next_step-found.new.words
    (rw c.frontier_of.ensures at c.next_step-found.ensures.1)
