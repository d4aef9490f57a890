use Rattle.std.proofs.Common.{drop, arith, length-append, length-drop, length-take}
use Rattle.msr_devices.proofs.Limited.{reads_limited}
use Rattle.msr_devices.proofs.adapters.FromReadSource.read.Goals as goal
use Rattle.msr_devices.proofs.adapters.FromReadSource.read.Goals.{else-left-eq0-via-then-left-eq0+else-buf-gt0, else-left-eq0-via-else-left-eq0}

pub returns-in-Ok-clause-reads : goal.returns-in-Ok-clause-reads
returns-in-Ok-clause-reads g c =
    let part = length-take c.min-most.result c.args.buf.now in
    let both = length-append c.read.new.buf (drop c.min-most.result c.args.buf.now) in
    let back = length-drop c.min-most.result c.args.buf.now in
    rw (← c.self.view_is) (reads_limited (g.R.Read.remaining c.self.inside.inner)
    (g.R.Read.remaining c.read.new.self) c.self.inside.given c.self.inside.failures
    c.self.inside.interruptions c.in-Ok.n c.read.new.buf (drop c.min-most.result c.args.buf.now)
    c.in-Ok.ensures.bound.0 c.in-Ok.ensures.bytes.0 c.in-Ok.ensures.bytes.1
    (omega (arith, c.min-most.ensures, c.read.auto.buf, c.in-Ok.ensures.bound.0))
    (λ some. elim c.else-left-eq0.branch [
      | else-left-eq0-via-then-left-eq0+else-buf-gt0 w ↦ omega (arith, c.min-most.ensures, c.read.auto.buf)
      | else-left-eq0-via-else-left-eq0 w ↦ omega (arith, c.min-most.ensures, c.read.auto.buf)
    ]))
