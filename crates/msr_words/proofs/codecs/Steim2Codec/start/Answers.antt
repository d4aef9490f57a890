use Rattle.std.proofs.Common.{arith, ◌-◌}
use Rattle.msr_base.specs.Lengths.{bytes_of}
use Rattle.msr_words.proofs.Steim2Pushes.{steim2_start}
use Rattle.msr_words.proofs.codecs.Steim2Codec.start.Goals as goal

pub returns : goal.returns
returns c =
    let same = c.data_words.ensures.same in
    let some = c.data_words.ensures.some in
    steim2_start (bytes_of c.args.record_length) (c.data_words.result - 1) c.most.result (omega arith) c.most.ensures
