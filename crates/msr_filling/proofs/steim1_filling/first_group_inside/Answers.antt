-- By the sizes of the five differences.
use Rattle.std.proofs.Common.{arith, ◌≡◌, ◌-◌, ℕ, ℤ, List, Option, length, drop, bit_or}
use Rattle.std.proofs.lemmas.Nat.{le_or_l}
use Rattle.msr_words.specs.FirstGroup.{IsCanonicalFirst}
use Rattle.msr_words.proofs.TwoOrOne.{one_or_two, pair_fits}
use Rattle.std.proofs.lemmas.List.{length-drop}
use Rattle.msr_words.specs.Segment.{differences}
use Rattle.msr_words.proofs.Plain.{length-differences}
use Rattle.msr_words.proofs.Steim1Ahead.{fits_from, four_small, next_four, one_apart, two_before, two_few, two_large}
use Rattle.msr_filling.proofs.steim1_filling.first_group_inside.Goals as goal

long : (before : Option ℤ) (run : List ℤ) (at : ℕ) → length (drop at (differences before run)) ≡ length run - at
long before run at =
    let m = length-differences before run in
    let l = length-drop at (differences before run) in
    omega arith

pub returns-then-one-ge32768-clause-first : goal.returns-then-one-ge32768-clause-first
returns-then-one-ge32768-clause-first c before fits =
    let ds = drop c.args.at (differences before c.args.run.now) in
    let l = long before c.args.run.now c.args.at in
    let m = le_or_l c.size_inside-one.result c.size_inside-two.result in
    one_apart ds c.size_inside-one.result c.size_inside-two.result (c.size_inside-one.ensures before)
    (c.size_inside-two.ensures before) (fits_from c.args.at (differences before c.args.run.now) fits)
    (omega (arith, c.requires.room)) (omega (arith, c.if-one-ge32768.true))

pub returns-then-two-ge128-clause-first : goal.returns-then-two-ge128-clause-first
returns-then-two-ge128-clause-first c before fits =
    let ds = drop c.args.at (differences before c.args.run.now) in
    let l = long before c.args.run.now c.args.at in
    let one = c.size_inside-one.result in
    let two = c.size_inside-two.result in
    let all = fits_from c.args.at (differences before c.args.run.now) fits in
    one_or_two (bit_or one two) c.from.result (IsCanonicalFirst ds) c.from.ensures
    (λ less. two_large ds one two (c.size_inside-one.ensures before) (c.size_inside-two.ensures before) all less
    c.if-two-ge128.true)
    (λ more. one_apart ds one two (c.size_inside-one.ensures before) (c.size_inside-two.ensures before) all
    (omega (arith, c.requires.room)) more)

pub returns-then-four-ge128-clause-first : goal.returns-then-four-ge128-clause-first
returns-then-four-ge128-clause-first c before fits =
    let ds = drop c.args.at (differences before c.args.run.now) in
    let l = long before c.args.run.now c.args.at in
    two_few ds c.size_inside-one.result c.size_inside-two.result c.size_inside.result c.size_inside-2.result
    (c.size_inside-one.ensures before) (c.size_inside-two.ensures before) (c.size_inside.ensures before)
    (c.size_inside-2.ensures before) (fits_from c.args.at (differences before c.args.run.now) fits)
    (pair_fits _ _ c.if-one-ge32768.false c.if-two-ge128.false) c.if-four-ge128.true (λ e. omega (arith, c.requires.room))

pub returns-then-one-lt128-clause-first : goal.returns-then-one-lt128-clause-first
returns-then-one-lt128-clause-first c before fits =
    let ds = drop c.args.at (differences before c.args.run.now) in
    four_small ds c.size_inside-one.result c.size_inside-two.result c.size_inside.result c.size_inside-2.result
    (c.size_inside-one.ensures before) (c.size_inside-two.ensures before) (c.size_inside.ensures before)
    (c.size_inside-2.ensures before) (fits_from c.args.at (differences before c.args.run.now) fits)
    c.if-one-lt128.true c.if-four-ge128.false

pub returns-then-size_inside-lt128-clause-none : goal.returns-then-size_inside-lt128-clause-none
returns-then-size_inside-lt128-clause-none c before untold =
    let ds = drop c.args.at (differences before c.args.run.now) in
    next_four ds c.size_inside-one.result c.size_inside-two.result c.size_inside.result c.size_inside-2.result
    c.size_inside-3.result (c.size_inside-one.ensures before) (c.size_inside-two.ensures before)
    (c.size_inside.ensures before) (c.size_inside-2.ensures before) (c.size_inside-3.ensures before)
    c.if-four-ge128.false c.if-size_inside-lt128.true

pub returns-else-size_inside-lt128-clause-first : goal.returns-else-size_inside-lt128-clause-first
returns-else-size_inside-lt128-clause-first c before fits =
    let ds = drop c.args.at (differences before c.args.run.now) in
    two_before ds c.size_inside-one.result c.size_inside-two.result c.size_inside.result c.size_inside-2.result
    c.size_inside-3.result (c.size_inside-one.ensures before) (c.size_inside-two.ensures before)
    (c.size_inside.ensures before) (c.size_inside-2.ensures before) (c.size_inside-3.ensures before)
    (fits_from c.args.at (differences before c.args.run.now) fits) (pair_fits _ _ c.if-one-ge32768.false c.if-two-ge128.false)
    c.if-one-lt128.false c.if-size_inside-lt128.false
