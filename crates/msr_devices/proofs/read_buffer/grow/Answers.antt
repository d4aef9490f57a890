use Rattle.std.proofs.Common.{arith}
use Rattle.std.proofs.lemmas.List.{take_all}
use Rattle.std.proofs.Math.Seq.{take-append_seam, take-length}
use Rattle.msr_devices.proofs.read_buffer.grow.Goals as goal

pub returns-in_err-resize-clause-keeps : goal.returns-in_err-resize-clause-keeps
returns-in_err-resize-clause-keeps c = rw c.in_err-resize.ensures.items (take-length _)

pub returns-in_ok-resize-clause-keeps : goal.returns-in_ok-resize-clause-keeps
returns-in_ok-resize-clause-keeps c =
    rw (c.in_ok-resize.ensures.items, take_all c.max-len.result c.args.memory.now.items (omega arith))
    (take-append_seam _ _)

pub returns-else-len-want-clause-keeps : goal.returns-else-len-want-clause-keeps
returns-else-len-want-clause-keeps c = take-length _
