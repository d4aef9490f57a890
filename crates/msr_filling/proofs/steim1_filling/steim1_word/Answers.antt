-- The group that begins there, in the window or outside of it.
use Rattle.std.proofs.Common.{rules, arith, ◌≡◌, ◌<◌, ℕ, ℤ, List, Option, get_or, drop, length, subst, sym}
use Rattle.std.proofs.lemmas.List.{length-drop}
use Rattle.msr_words.specs.FirstGroup.{AreSizes, IsCanonicalFirst}
use Rattle.msr_words.specs.Segment.{differences}
use Rattle.msr_words.proofs.Plain.{length-differences}
use Rattle.msr_filling.proofs.Steim1Next.{IsSizeThere, size_there, word_there}
use Rattle.msr_filling.proofs.steim1_filling.steim1_word.Goals as goal

given : (before : Option ℤ) (run : List ℤ) (at size : ℕ) (sizes : List ℕ)
    → AreSizes (differences before run) 0 sizes → at < length run → size ≡ get_or sizes at 0
    → IsSizeThere before run at size
given before run at size sizes are less size_is =
    let m = length-differences before run in
    size_there before run at size less (subst (IsCanonicalFirst (drop at (differences before run))) (sym size_is)
    (are.each at (omega arith) (omega arith)))

less_seen : (c : goal.After-from) → c.args.at < length c.args.run.now
less_seen c =
    let m = length-differences c.args.before c.args.run.now in
    let l = length-drop c.args.at (differences c.args.before c.args.run.now) in
    omega (arith, (c.in-Some.ensures.shown c.args.before).long)

here : (c : goal.After-from) → IsSizeThere c.args.before c.args.run.now c.args.at c.from.result
here c = given c.args.before c.args.run.now c.args.at c.from.result c.args.sizes.now c.requires.sizes
    (less_seen c) c.from.ensures

less_outside : (c : goal.After-from-2) → c.args.at < length c.args.run.now
less_outside c = c.requires.within

there : (c : goal.After-from-2) → IsSizeThere c.args.before c.args.run.now c.args.at c.from-2.result
there c = given c.args.before c.args.run.now c.args.at c.from-2.result c.args.sizes.now c.requires.sizes
    (less_outside c) c.from-2.ensures

pub bounds-sizes-at : goal.bounds-sizes-at
bounds-sizes-at c =
    let long = c.requires.sizes.long in
    let m = length-differences c.args.before c.args.run.now in
    let l = length-drop c.args.at (differences c.args.before c.args.run.now) in
    let less : c.args.at < length c.args.sizes.now = omega (arith, (c.in-Some.ensures.shown c.args.before).long) in
    search (rules, less)

pub bounds-sizes-at-2 : goal.bounds-sizes-at-2
bounds-sizes-at-2 c =
    let long = c.requires.sizes.long in
    let m = length-differences c.args.before c.args.run.now in
    let less : c.args.at < length c.args.sizes.now = omega (arith, c.requires.within) in
    search (rules, less)

pub word_seen-requires-clause-size : goal.word_seen-requires-clause-size
word_seen-requires-clause-size c = ((here c).some, (here c).most)

pub word_outside-requires-clause-size : goal.word_outside-requires-clause-size
word_outside-requires-clause-size c = ((there c).some, (there c).most)

pub word_outside-requires-clause-room : goal.word_outside-requires-clause-room
word_outside-requires-clause-room c = (there c).room

pub word_outside-requires-clause-group : goal.word_outside-requires-clause-group
word_outside-requires-clause-group c = (there c).group

pub returns-in-Some-clause-next : goal.returns-in-Some-clause-next
returns-in-Some-clause-next c =
    let ds = drop c.args.at (differences c.args.before c.args.run.now) in
    let m = length-differences c.args.before c.args.run.now in
    let l = length-drop c.args.at (differences c.args.before c.args.run.now) in
    let seen = c.in-Some.ensures.shown c.args.before in
    let less : c.args.at < length c.args.run.now = omega (arith, seen.long) in
    let is = given c.args.before c.args.run.now c.args.at c.from.result c.args.sizes.now c.requires.sizes less
    c.from.ensures in
    let word = c.word_seen.ensures in
    word_there c.args.before c.args.run.now c.args.at c.from.result c.word_seen.result less is word.coded (word.word ds seen is.group)

pub returns-clause-next : goal.returns-clause-next
returns-clause-next c =
    let less : c.args.at < length c.args.run.now = c.requires.within in
    let is = given c.args.before c.args.run.now c.args.at c.from-2.result c.args.sizes.now c.requires.sizes less
    c.from-2.ensures in
    let word = c.word_outside.ensures in
    word_there c.args.before c.args.run.now c.args.at c.from-2.result c.word_outside.result less is word.coded word.word
