use Rattle.std.proofs.Common.{arith}
use Rattle.msr_base.specs.Lengths.{bytes_of}
use Rattle.msr_base.specs.RecordLength.{words_of}
use Rattle.msr_words.proofs.Steim1Pushes.{steim1_start}
use Rattle.msr_words.proofs.codecs.Steim1Codec.start.Goals as goal

pub returns : goal.returns
returns c =
    let words = words_of (bytes_of c.args.record_length) in
    let most = c.args.record_length.most in
    steim1_start words _ c.none.result c.data_words.ensures.same (omega arith) (c.none.ensures words)
