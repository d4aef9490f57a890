use Rattle.msr_input.specs.Records.{left_with}
use Rattle.msr_replace.proofs.KindLemmas.{SeesOthers}
use Rattle.msr_replace.proofs.kinds.has_int24.Given as goal

abbrev pub invariant-records : goal.invariant-records
invariant-records g l = SeesOthers (g.S.Source.device l.fn.source) (g.S.Source.device l.source) l.reader

abbrev pub decreases-records : goal.decreases-records
decreases-records g l = left_with (g.S.Source.device l.source) l.reader.position.waiting
