-- The group that begins there, in the window or outside of it.
use Rattle.std.proofs.Common.{arith, ◌<◌, drop, length, refl}
use Rattle.std.proofs.lemmas.List.{length-drop}
use Rattle.msr_words.specs.Segment.{differences}
use Rattle.msr_words.proofs.Steim1Ahead.{fits_from}
use Rattle.msr_filling.proofs.Steim1Next.{IsSizeThere, size_there, word_there}
use Rattle.msr_words.proofs.Plain.{length-differences}
use Rattle.msr_filling.proofs.steim1_filling.steim1_word_ahead.Goals as goal

less_seen : (c : goal.In_ok-size) → c.args.at < length c.args.run.now
less_seen c =
    let m = length-differences c.args.before c.args.run.now in
    let l = length-drop c.args.at (differences c.args.before c.args.run.now) in
    omega (arith, (c.in-Some.ensures.shown c.args.before).long)

here : (c : goal.In_ok-size) → IsSizeThere c.args.before c.args.run.now c.args.at c.in_ok-size.size
here c =
    let ds = differences c.args.before c.args.run.now in
    size_there c.args.before c.args.run.now c.args.at c.in_ok-size.size (less_seen c)
    (c.in_ok-size.ensures.first (drop c.args.at ds) (c.in-Some.ensures.shown c.args.before)
    (fits_from c.args.at ds c.requires.fits))

pub returns-in_err-size-clause-none : goal.returns-in_err-size-clause-none
returns-in_err-size-clause-none c untold =
    ((c.in_err-size.ensures.none (drop c.args.at (differences c.args.before c.args.run.now))
    (c.in-Some.ensures.shown c.args.before)).0 refl).four

pub word_seen-requires-clause-size : goal.word_seen-requires-clause-size
word_seen-requires-clause-size c = ((here c).some, (here c).most)

pub returns-in-Some-clause-next : goal.returns-in-Some-clause-next
returns-in-Some-clause-next c =
    let ds = drop c.args.at (differences c.args.before c.args.run.now) in
    let seen = c.in-Some.ensures.shown c.args.before in
    let m = length-differences c.args.before c.args.run.now in
    let l = length-drop c.args.at (differences c.args.before c.args.run.now) in
    let less : c.args.at < length c.args.run.now = omega (arith, seen.long) in
    let is = size_there c.args.before c.args.run.now c.args.at c.in_ok-size.size less
    (c.in_ok-size.ensures.first ds seen (fits_from c.args.at
    (differences c.args.before c.args.run.now) c.requires.fits)) in
    let word = c.word_seen.ensures in
    word_there c.args.before c.args.run.now c.args.at c.in_ok-size.size c.word_seen.result less is word.coded (word.word ds seen is.group)
