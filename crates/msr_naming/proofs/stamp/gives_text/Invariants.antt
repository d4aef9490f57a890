use Rattle.std.proofs.Common.{length}
use Rattle.msr_devices.specs.Device.{CanCountCall, HasLeft}
use Rattle.msr_naming.proofs.stamp.gives_text.Given as goal

-- if the rest of the text is left, the text was
abbrev pub invariant-loop-n : goal.invariant-loop-n
invariant-loop-n g l = record {
  had : HasLeft (g.S.Source.device l.source) l.rest → HasLeft (g.S.Source.device l.fn.source) l.text;
  count : CanCountCall (g.S.Source.device l.source);
}

abbrev pub decreases-loop-n : goal.decreases-loop-n
decreases-loop-n g l = length l.rest
