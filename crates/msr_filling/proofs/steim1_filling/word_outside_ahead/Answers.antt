use Rattle.msr_filling.proofs.Steim1Next.{size_there, word_there}
use Rattle.msr_filling.proofs.steim1_filling.word_outside_ahead.Goals as goal

pub word_outside-requires-clause-room : goal.word_outside-requires-clause-room
word_outside-requires-clause-room c =
    (size_there c.args.before c.args.run.now c.args.at c.in_ok-size.size c.requires.within
    c.in_ok-size.ensures.first).room

pub returns-clause-next : goal.returns-clause-next
returns-clause-next c =
    let is = size_there c.args.before c.args.run.now c.args.at c.in_ok-size.size c.requires.within
    c.in_ok-size.ensures.first in
    let word = c.word_outside.ensures in
    word_there c.args.before c.args.run.now c.args.at c.in_ok-size.size c.word_outside.result c.requires.within is
    word.coded word.word
