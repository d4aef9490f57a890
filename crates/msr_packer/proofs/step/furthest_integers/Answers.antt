use Rattle.std.proofs.Common.{arith, ◌+◌}
use Rattle.msr_words.proofs.OfBits.{leading_end}
use Rattle.msr_packer.proofs.step.furthest_integers.Goals as goal

pub returns : goal.returns
returns c =
    let most = c.most.ensures in
    leading_end c.args.kind c.args.bits c.args.record_length.bytes c.requires.are c.args.samples.now c.args.start
    (c.args.start + c.min.result) c.leading_of_bits.result c.requires.within (omega arith) c.leading_of_bits.ensures
