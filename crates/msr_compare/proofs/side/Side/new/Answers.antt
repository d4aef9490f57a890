use Rattle.msr_compare.proofs.Taking.{taken_first}
use Rattle.msr_compare.proofs.side.Side.new.Goals as goal

pub returns : goal.returns
returns c = λ start.
    rw (c.new-2.ensures, c.new-3.ensures) (taken_first c.args.settings start c.new.result (c.new.ensures.none start)
    c.new.ensures.following c.new.ensures.strict c.requires.1)
