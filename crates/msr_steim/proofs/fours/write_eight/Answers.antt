-- By the samples of all lanes.
use Rattle.std.proofs.Common.{rules, refl, sym, subst, drop, map, take, w32, SFits}
use Rattle.std.specs.List.{AllByRecursion}
use Rattle.msr_steim.specs.Word.{FitsBits, signed_of}
use Rattle.msr_steim.proofs.ByteSums.{eight_at, eight_written, small_at}
use Rattle.msr_steim.proofs.LaneSums.{same_bits}
use Rattle.msr_steim.proofs.fours.write_eight.Goals as goal

pub prefix_sums-sums-requires-clause-small : goal.prefix_sums-sums-requires-clause-small
prefix_sums-sums-requires-clause-small c =
    let area = c.args.area.now in
    let ds = map (signed_of 8) (take 8 (drop c.args.from area)) in
    let small = small_at c.args.from area c.type_inv.area in
    rw c.signed_bytes.ensures (subst (AllByRecursion (FitsBits 10)) (sym (same_bits ds small)) small)

pub returns : goal.returns
returns c =
    let area = c.args.area.now in
    let ds = map (signed_of 8) (take 8 (drop c.args.from area)) in
    let small = small_at c.args.from area c.type_inv.area in
    let fits : SFits w32 c.args.at.last = search rules in
    eight_written c.args.at c.args.out.now ds c.prefix_sums-sums.result _
    (eight_at c.args.from area c.requires.within) small
    (rw c.signed_bytes.ensures at c.prefix_sums-sums.ensures) c.requires.room fits refl refl
