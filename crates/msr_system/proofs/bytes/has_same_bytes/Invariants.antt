use Rattle.std.proofs.Common.{◌≡◌}
use Rattle.msr_system.proofs.bytes.has_same_bytes.Given as goal

abbrev pub invariant-loop-piece : goal.invariant-loop-piece
invariant-loop-piece g l = record {
  one_failures : (g.S.Source.device l.one).failures ≡ 0;
  one_interruptions : (g.S.Source.device l.one).interruptions ≡ 0;
  other_failures : (g.S.Source.device l.other).failures ≡ 0;
  other_interruptions : (g.S.Source.device l.other).interruptions ≡ 0;
}
