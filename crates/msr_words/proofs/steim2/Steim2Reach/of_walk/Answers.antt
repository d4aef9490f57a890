use Rattle.std.proofs.Common.{rules, w64, SFits}
use Rattle.std.proofs.lemmas.Int.{to_z-of_z}
use Rattle.msr_words.proofs.steim2.Steim2Reach.of_walk.Goals as goal

pub returns-else-end-samples-clause-after : goal.returns-else-end-samples-clause-after
returns-else-end-samples-clause-after c = λ narrow less.
    let size : SFits w64 c.difference.result = search rules in
    let is = simp to_z-of_z at c.is_narrow.ensures in
    rw c.difference.ensures at (is.0 narrow)
