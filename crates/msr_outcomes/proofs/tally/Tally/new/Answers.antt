use Rattle.std.proofs.Common.{refl}
use Rattle.msr_outcomes.proofs.tally.Tally.new.Goals as goal

pub returns : goal.returns
returns c = record {
  done = refl;
  skipped = refl;
  refused = refl;
  known = refl;
  larger = refl;
  young = refl;
  channels = c.new.ensures;
  bytes = c.new-2.ensures;
  bytes_read = refl;
  bytes_written = refl;
  unopened = refl;
}
