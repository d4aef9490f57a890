use Rattle.std.proofs.Common.{◌+◌, ◌-◌, length}
use Rattle.std.specs.Prelude.{if◌then◌else◌}
use Rattle.msr_devices.specs.ReadBuffer.{IsFilled}
use Rattle.msr_input.specs.Reading.{HoldsRecord}
use Rattle.msr_input.proofs.BytesAhead.{HasRoom, IsUnread}
use Rattle.msr_input.proofs.step.read_record.Given as goal

-- what came so far stands in the buffer
abbrev pub invariant-bytes : goal.invariant-bytes
invariant-bytes g l = record {
  filled : IsFilled 0 (g.R.Source.device l.fn.source) (g.R.Source.device l.source) l.fn.buffer l.buffer;
  room : HasRoom l.fn.buffer.room l.buffer;
  unread : HoldsRecord l.fn.buffer.bytes → IsUnread (g.R.Source.device l.fn.source)
      (g.R.Source.device l.source) l.fn.buffer l.buffer;
}

abbrev pub decreases-bytes : goal.decreases-bytes
decreases-bytes g l = (1_048_576 - length l.buffer.bytes) + (if l.buffer.ended then 0 else 1)
