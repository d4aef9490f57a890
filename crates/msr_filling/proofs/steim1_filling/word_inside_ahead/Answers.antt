-- The word of the group whose size is found.
use Rattle.std.proofs.Common.{arith, ◌<◌, length}
use Rattle.msr_filling.proofs.Steim1Next.{size_there, word_there}
use Rattle.msr_filling.proofs.steim1_filling.word_inside_ahead.Goals as goal

pub word_inside-requires-clause-size : goal.word_inside-requires-clause-size
word_inside-requires-clause-size c = c.in_ok-size.ensures.few

pub word_inside-requires-clause-room : goal.word_inside-requires-clause-room
word_inside-requires-clause-room c = (c.requires.later, omega (arith, c.requires.room))

pub returns-clause-next : goal.returns-clause-next
returns-clause-next c before fits =
    let less : c.args.at < length c.args.run.now = omega (arith, c.requires.room) in
    let is = size_there before c.args.run.now c.args.at c.in_ok-size.size less
    (c.in_ok-size.ensures.first before fits) in
    let word = c.word_inside.ensures in
    word_there before c.args.run.now c.args.at c.in_ok-size.size c.word_inside.result less is word.coded (word.word before is.group)
