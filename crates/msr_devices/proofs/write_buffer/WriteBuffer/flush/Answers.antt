use Rattle.msr_devices.proofs.Chaining.{passes_rest}
use Rattle.msr_devices.proofs.write_buffer.WriteBuffer.flush.Goals as goal

pub returns-then-left-gt0-clause-passes : goal.returns-then-left-gt0-clause-passes
returns-then-left-gt0-clause-passes g c =
    rw (c.truncate.ensures.items, c.copy_within.ensures.items, c.len.ensures) (passes_rest _ _ _ _ _ _
    c.as_slice.ensures.value c.as_slice.ensures.len c.write_counted-written.ensures.within
    c.write_counted-written.ensures.bytes c.write_counted-written.ensures.moved c.write_counted-written.ensures.short)

pub returns-clause-passes : goal.returns-clause-passes
returns-clause-passes g c =
    rw (c.truncate.ensures.items, c.copy_within.ensures.items, c.len.ensures) (passes_rest _ _ _ _ _ _
    c.as_slice.ensures.value c.as_slice.ensures.len c.write_counted-written.ensures.within
    c.write_counted-written.ensures.bytes c.write_counted-written.ensures.moved c.write_counted-written.ensures.short)
