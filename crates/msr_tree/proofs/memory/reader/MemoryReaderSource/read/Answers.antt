use Rattle.std.proofs.Common.{◌≡◌, ◌+◌, ◌-◌, ◌≤◌, length, drop, take, arith, length-append, length-drop, length-take}
use Rattle.msr_devices.proofs.KnownBytes.{reads_at}
use Rattle.msr_tree.proofs.memory.reader.MemoryReaderSource.read.Goals as goal

pub returns-clause-reads : goal.returns-clause-reads
returns-clause-reads c =
    let bytes = c.self.inside.bytes.items in
    let n = c.min-n.result in
    let at = c.self.inside.at in
    let within : n + at ≤ length bytes = omega (arith, c.min-n.ensures, c.len.ensures, c.self.invariant) in
    let both = length-append (take n (drop at bytes)) (drop n c.args.buf.now) in
    let part = length-take n (drop at bytes) in
    let back = length-drop n c.args.buf.now in
    let read = reads_at bytes (drop n c.args.buf.now) at n 0 0 within
    (λ zero some. grind (arith, c.min-n.ensures, c.len.ensures, both, part, back)) in
    let same : at + n - at ≡ n = omega arith in
    rw (← c.self.view_is, c.copy_from_slice.ensures.after) (rw (same, c.deref.ensures.value) read)
