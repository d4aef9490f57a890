use Rattle.std.proofs.Common.{◌≡◌, ◌+◌, ◌-◌, ◌≤◌, length, drop, take, arith, length-append, length-drop, length-take}
use Rattle.msr_devices.proofs.KnownBytes.{reads_at}
use Rattle.msr_devices.proofs.memory.TestSourceSource.read.Goals as goal

pub returns-clause-reads : goal.returns-clause-reads
returns-clause-reads c =
    let within : c.min-n.result + c.self.inside.at ≤ length c.self.inside.bytes.now =
    omega (arith, c.min-n.ensures, c.share_of.ensures) in
    let both = length-append (take c.min-n.result (drop c.self.inside.at c.self.inside.bytes.now))
    (drop c.min-n.result c.args.buf.now) in
    let part = length-take c.min-n.result (drop c.self.inside.at c.self.inside.bytes.now) in
    let back = length-drop c.min-n.result c.args.buf.now in
    let read = reads_at c.self.inside.bytes.now (drop c.min-n.result c.args.buf.now) c.self.inside.at c.min-n.result
    c.self.inside.failures c.self.inside.interruptions within
    (λ zero some. grind (arith, c.min-n.ensures, c.share_of.ensures, both, part, back)) in
    let same : c.self.inside.at + c.min-n.result - c.self.inside.at ≡ c.min-n.result = omega arith in
    rw (← c.self.view_is, c.copy_from_slice.ensures.after) (rw same read)
