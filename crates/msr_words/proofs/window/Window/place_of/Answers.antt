-- The window has the differences from there on, as it is or when it has moved on.
use Rattle.std.proofs.Common.{arith, ◌≤◌, ◌+◌}
use Rattle.msr_words.specs.Window.{IsWindow}
use Rattle.msr_words.proofs.Windows.{window_on, window_seen}
use Rattle.msr_words.proofs.window.Window.place_of.Goals as goal

pub returns-then-at-self-clause-shown : goal.returns-then-at-self-clause-shown
returns-then-at-self-clause-shown c before =
    let window = rw (← c.self.view_is) at c.requires.window in
    rw (← c.self.view_is) (window_seen c.args.samples.now c.args.at _ before window
    (omega (arith, window.until, c.if-at-self.true)))

pub returns-clause-shown : goal.returns-clause-shown
returns-clause-shown c before =
    let least = c.min.ensures in
    let many = c.if-samples-le-PLACES.false in
    let seven = c.if-samples-at-lt7.false in
    let on : IsWindow c.args.samples.now c.args.at c.take.new.self =
    window_on c.args.samples.now c.min.result c.args.at c.take.new.self (omega arith) c.take.ensures.window in
    let end : c.args.at + 7 ≤ c.take.new.self.end = omega (arith, c.take.ensures.end) in
    let seen = window_seen c.args.samples.now c.args.at c.take.new.self before on end in
    rw (← c.self-2.view_is) (rw (← c.self-2.view_is) at seen)
