-- By three masks.
use Rattle.msr_words.proofs.Masks.{are_pairs}
use Rattle.msr_words.proofs.pairs.pairs_of.Goals as goal

pub returns : goal.returns
returns c = are_pairs c.args.sizes.now c.below-small.result c.below-of_16.result c.below.result c.below-small.ensures
    c.below-of_16.ensures c.below.ensures c.if-small-ne0.false c.if-below-ne18446744073709551615.false
