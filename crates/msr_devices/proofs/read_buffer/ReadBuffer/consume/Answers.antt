use Rattle.std.proofs.Common.{◌+◌, ◌≤◌, ◌-◌, List, ℕ, length, take, drop, arith, ap, length-take, length-drop}
use Rattle.msr_devices.proofs.Filling.{consumed}
use Rattle.msr_devices.specs.ReadBuffer.{Window}
use Rattle.msr_devices.proofs.read_buffer.ReadBuffer.consume.Goals as goal

pub returns : goal.returns
returns c =
    let some : c.args.n ≤ length (take (c.self.inside.end - c.self.inside.start)
    (drop c.self.inside.start c.self.inside.memory.items)) = rw (← c.self.view_is) at c.requires in
    let taken = length-take (c.self.inside.end - c.self.inside.start)
    (drop c.self.inside.start c.self.inside.memory.items) in
    let within : c.self.inside.start + c.args.n ≤ c.self.inside.end =
    omega (arith, some, taken, length-drop c.self.inside.start c.self.inside.memory.items) in
    rw (← c.self.view_is) (ap (λ (l : List ℕ). let w : Window =
    record { bytes = l; ended = c.self.inside.ended; room = length c.self.inside.memory.items } in
    w) (consumed c.self.inside.start c.self.inside.end c.args.n c.self.inside.memory.items within))
