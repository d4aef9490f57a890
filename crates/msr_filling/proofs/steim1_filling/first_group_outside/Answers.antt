-- By the sizes of the first five differences.
use Rattle.std.proofs.Common.{arith, ◌≡◌, ◌-◌, ℕ, ℤ, List, Option, length, drop}
use Rattle.std.proofs.lemmas.List.{length-drop}
use Rattle.msr_words.specs.Segment.{differences}
use Rattle.msr_words.proofs.Plain.{length-differences}
use Rattle.msr_words.proofs.Steim1Ahead.{fits_from, four_small, next_four, one_apart, two_before, two_few, two_large, two_left, three_left}
use Rattle.msr_filling.proofs.steim1_filling.first_group_outside.Goals as goal

long : (before : Option ℤ) (run : List ℤ) (at : ℕ) → length (drop at (differences before run)) ≡ length run - at
long before run at =
    let m = length-differences before run in
    let l = length-drop at (differences before run) in
    omega arith

pub returns-then-one-two-ge32768-clause-first : goal.returns-then-one-two-ge32768-clause-first
returns-then-one-two-ge32768-clause-first c =
    let ds = drop c.args.at (differences c.args.before c.args.run.now) in
    let l = long c.args.before c.args.run.now c.args.at in
    one_apart ds c.size_ahead-one.result c.size_ahead-two.result c.size_ahead-one.ensures c.size_ahead-two.ensures
    (fits_from c.args.at (differences c.args.before c.args.run.now) c.requires.fits)
    (omega (arith, c.requires.within)) c.if-one-two-ge32768.true

pub returns-then-two-ge128-clause-first : goal.returns-then-two-ge128-clause-first
returns-then-two-ge128-clause-first c =
    let ds = drop c.args.at (differences c.args.before c.args.run.now) in
    two_large ds c.size_ahead-one.result c.size_ahead-two.result c.size_ahead-one.ensures c.size_ahead-two.ensures
    (fits_from c.args.at (differences c.args.before c.args.run.now) c.requires.fits) c.if-one-two-ge32768.false
    c.if-two-ge128.true

pub returns-then-one-three-lt128-clause-first : goal.returns-then-one-three-lt128-clause-first
returns-then-one-three-lt128-clause-first c =
    let ds = drop c.args.at (differences c.args.before c.args.run.now) in
    let l = long c.args.before c.args.run.now c.args.at in
    three_left ds c.size_ahead-one.result c.size_ahead-two.result c.size_ahead-three.result
    c.size_ahead-one.ensures c.size_ahead-two.ensures c.size_ahead-three.ensures
    (fits_from c.args.at (differences c.args.before c.args.run.now) c.requires.fits)
    (omega (arith, c.if-run-at-eq3.true)) c.if-two-ge128.false c.if-one-three-lt128.true

pub returns-else-one-three-lt128-clause-first : goal.returns-else-one-three-lt128-clause-first
returns-else-one-three-lt128-clause-first c =
    let ds = drop c.args.at (differences c.args.before c.args.run.now) in
    let l = long c.args.before c.args.run.now c.args.at in
    two_left ds c.size_ahead-one.result c.size_ahead-two.result c.size_ahead-three.result c.size_ahead-one.ensures
    c.size_ahead-two.ensures c.size_ahead-three.ensures
    (fits_from c.args.at (differences c.args.before c.args.run.now) c.requires.fits)
    (omega (arith, c.if-run-at-eq3.true)) c.if-one-two-ge32768.false c.if-one-three-lt128.false

pub returns-then-four-ge128-clause-first : goal.returns-then-four-ge128-clause-first
returns-then-four-ge128-clause-first c =
    let ds = drop c.args.at (differences c.args.before c.args.run.now) in
    let l = long c.args.before c.args.run.now c.args.at in
    two_few ds c.size_ahead-one.result c.size_ahead-two.result c.size_ahead-three.result c.size_ahead.result
    c.size_ahead-one.ensures c.size_ahead-two.ensures c.size_ahead-three.ensures c.size_ahead.ensures
    (fits_from c.args.at (differences c.args.before c.args.run.now) c.requires.fits) c.if-one-two-ge32768.false
    c.if-four-ge128.true (λ e. omega (arith, c.if-run-at-eq3.false))

pub returns-then-one-lt128-clause-first : goal.returns-then-one-lt128-clause-first
returns-then-one-lt128-clause-first c =
    let ds = drop c.args.at (differences c.args.before c.args.run.now) in
    four_small ds c.size_ahead-one.result c.size_ahead-two.result c.size_ahead-three.result c.size_ahead.result
    c.size_ahead-one.ensures c.size_ahead-two.ensures c.size_ahead-three.ensures c.size_ahead.ensures
    (fits_from c.args.at (differences c.args.before c.args.run.now) c.requires.fits) c.if-one-lt128.true
    c.if-four-ge128.false

pub returns-then-size_ahead-lt128-clause-none : goal.returns-then-size_ahead-lt128-clause-none
returns-then-size_ahead-lt128-clause-none c untold =
    let ds = drop c.args.at (differences c.args.before c.args.run.now) in
    next_four ds c.size_ahead-one.result c.size_ahead-two.result c.size_ahead-three.result c.size_ahead.result
    c.size_ahead-2.result
    c.size_ahead-one.ensures c.size_ahead-two.ensures c.size_ahead-three.ensures c.size_ahead.ensures
    c.size_ahead-2.ensures
    c.if-four-ge128.false c.if-size_ahead-lt128.true

pub returns-else-size_ahead-lt128-clause-first : goal.returns-else-size_ahead-lt128-clause-first
returns-else-size_ahead-lt128-clause-first c =
    let ds = drop c.args.at (differences c.args.before c.args.run.now) in
    two_before ds c.size_ahead-one.result c.size_ahead-two.result c.size_ahead-three.result c.size_ahead.result
    c.size_ahead-2.result
    c.size_ahead-one.ensures c.size_ahead-two.ensures c.size_ahead-three.ensures c.size_ahead.ensures
    c.size_ahead-2.ensures
    (fits_from c.args.at (differences c.args.before c.args.run.now) c.requires.fits) c.if-one-two-ge32768.false
    c.if-one-lt128.false c.if-size_ahead-lt128.false
