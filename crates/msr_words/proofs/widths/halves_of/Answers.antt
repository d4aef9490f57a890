use Rattle.std.proofs.Common.{◌-ℤ◌, w32, SFits}
use Rattle.std.proofs.lemmas.Int.{to_z-of_z}
use Rattle.msr_words.proofs.WordRoom.{halves_is}
use Rattle.msr_words.proofs.widths.halves_of.Goals as goal

pub returns : goal.returns
returns c =
    let before : SFits w32 c.args.before = c.ranges.before in
    let sample : SFits w32 c.args.sample = c.ranges.sample in
    halves_is c.size_after-size.result c.one_below.result c.one_below-2.result c.one_below.ensures c.one_below-2.ensures
    (c.args.sample -ℤ c.args.before) (simp to_z-of_z at c.size_after-size.ensures)
