use Rattle.std.proofs.lemmas.Int.{to_z-of_z}
use Rattle.msr_words.proofs.Steim2Groups.{capacity_is}
use Rattle.msr_words.proofs.counts.steim2_capacity.Goals as goal

pub returns : goal.returns
returns c =
    let fits = c.ranges.diff in
    capacity_is c.args.diff c.magnitude-size.result c.one_below.result c.one_below-2.result c.one_below-3.result
    c.one_below-7.result c.one_below-4.result c.one_below-5.result c.one_below-6.result
    (simp to_z-of_z at c.magnitude-size.ensures)
    c.one_below.ensures c.one_below-2.ensures c.one_below-3.ensures c.one_below-7.ensures c.one_below-4.ensures
    c.one_below-5.ensures c.one_below-6.ensures
