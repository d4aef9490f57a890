-- The window has the differences from there on.
use Rattle.std.proofs.Common.{drop}
use Rattle.std.proofs.lemmas.List.{length-drop}
use Rattle.msr_words.specs.Segment.{differences}
use Rattle.msr_filling.proofs.Fill.{next_is}
use Rattle.msr_words.proofs.Plain.{length-differences}
use Rattle.msr_filling.proofs.filling.steim2_word.Goals as goal

pub returns-in-Some-clause-next : goal.returns-in-Some-clause-next
returns-in-Some-clause-next c =
    let ds = drop c.args.at (differences c.args.before c.args.run.now) in
    let is = c.in-Some.ensures.shown c.args.before in
    let longest = c.word_seen.ensures.longest ds is in
    record {
      within = longest.within;
      follows = λ gs chosen. next_is gs ds c.word_seen.result.size chosen longest;
      code_is = c.word_seen.ensures.code;
      small = c.word_seen.ensures.small;
      word_is = c.word_seen.ensures.word ds is longest;
    }

pub returns-clause-next : goal.returns-clause-next
returns-clause-next c =
    let ds = drop c.args.at (differences c.args.before c.args.run.now) in
    let longest = c.word_outside.ensures.longest in
    let long = length-differences c.args.before c.args.run.now in
    let l = length-drop c.args.at (differences c.args.before c.args.run.now) in
    let within = c.requires.within in
    record {
      within = longest.within;
      follows = λ gs chosen. next_is gs ds c.word_outside.result.size chosen longest;
      code_is = c.word_outside.ensures.code;
      small = c.word_outside.ensures.small;
      word_is = c.word_outside.ensures.word;
    }
