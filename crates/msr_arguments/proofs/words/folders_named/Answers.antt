use Rattle.std.proofs.Common.{rules}
use Rattle.std.proofs.lemmas.Iterator.{YieldsList-from_slice, YieldsList-from_map_by}
use Rattle.std.proofs.lemmas.Iterator.Consumers.{map_from_collect}
use Rattle.msr_arguments.proofs.words.folders_named.Goals as goal

pub returns : goal.returns
returns c =
    map_from_collect c.collect.result c.collect.ensures.ran
    (YieldsList-from_map_by _ _ _ (YieldsList-from_slice c.args.given.now cc) c.map.ensures.closure
    (λ x r q k. search rules))
