-- By the samples of all lanes, of which the first are the group's.
use Rattle.std.proofs.Common.{rules, sym, subst, refl, ap, ◌+◌, w32, SFits}
use Rattle.std.specs.List.{AllByRecursion}
use Rattle.msr_steim.specs.Word.{FitsBits}
use Rattle.msr_steim.proofs.LaneSums.{all_lanes_written, same_bits, small_lanes, small_casts}
use Rattle.msr_steim.proofs.lanes.write_lanes.Goals as goal

pub prefix_sums-sums-requires-clause-small : goal.prefix_sums-sums-requires-clause-small
prefix_sums-sums-requires-clause-small c =
    let ds = c.lanes_of.result in
    let small = small_lanes c.args.word c.args.key ds c.requires.layout c.lanes_of.ensures in
    subst (AllByRecursion (FitsBits 10)) (sym (same_bits ds small)) small

pub overflow_cast-samples : goal.overflow_cast-samples
overflow_cast-samples c =
    small_casts c.args.word c.args.key c.lanes_of.result c.prefix_sums-sums.result c.requires.layout c.lanes_of.ensures
    c.prefix_sums-sums.ensures

pub returns : goal.returns
returns c =
    let fits : SFits w32 c.args.at.last = search rules in
    all_lanes_written c.args.word c.args.key c.args.at c.args.out.now c.lanes_of.result c.prefix_sums-sums.result _
    c.requires.layout c.lanes_of.ensures c.prefix_sums-sums.ensures c.requires.room fits
    (ap (λ n. c.args.at.place + n) c.from.ensures) refl
