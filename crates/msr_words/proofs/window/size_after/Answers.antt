use Rattle.std.proofs.Common.{rules, arith, pos, ◌-ℤ◌, ◌+ℤ◌, ◌<ℤ◌, w32, w64, SFits}
use Rattle.std.proofs.lemmas.Int.{ints, to_z-of_z}
use Rattle.msr_words.proofs.Windows.{size_below}
use Rattle.msr_words.proofs.window.size_after.Goals as goal

pub returns-then-sample-before : goal.returns-then-sample-before
returns-then-sample-before c =
    let before : SFits w32 c.args.before = c.ranges.before in
    let sample : SFits w32 c.args.sample = c.ranges.sample in
    let before' : SFits w64 c.args.before = search rules in
    let sample' : SFits w64 c.args.sample = search rules in
    let difference : SFits w64 (c.args.sample -ℤ c.args.before) = search rules in
    let one : SFits w64 ((c.args.sample -ℤ c.args.before) +ℤ pos 1) = search rules in
    let turned : SFits w64 (pos 0 -ℤ ((c.args.sample -ℤ c.args.before) +ℤ pos 1)) = search rules in
    let less : (c.args.sample -ℤ c.args.before) <ℤ pos 0 = omega (arith, ints, c.if-sample-before.true) in
    simp to_z-of_z (size_below (c.args.sample -ℤ c.args.before) less)

pub returns-else-sample-before : goal.returns-else-sample-before
returns-else-sample-before c = search rules
