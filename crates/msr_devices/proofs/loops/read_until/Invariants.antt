use Rattle.std.proofs.Common.{◌-◌, ◌^◌, ◌<◌, ◌≤◌, length, take}
use Rattle.msr_devices.specs.Device.{GivesOnto, IsCalm}
use Rattle.msr_devices.proofs.loops.read_until.Given as goal

-- what came so far stands after what was there
abbrev pub invariant-loop-filled : goal.invariant-loop-filled
invariant-loop-filled g l = record {
  within : l.filled ≤ length l.room;
  calm : IsCalm (g.R.Source.device l.fn.source) (g.R.Source.device l.source);
  short : l.fn.filled < l.filled → (g.R.Source.device l.source).moved < 2 ^ 64;
  onto : GivesOnto (g.R.Source.device l.fn.source) (g.R.Source.device l.source) (take l.fn.filled l.fn.room)
      (take l.filled l.room);
}

abbrev pub decreases-loop-filled : goal.decreases-loop-filled
decreases-loop-filled g l = l.want - l.filled
