-- By the sizes of the seven differences.
use Rattle.std.proofs.Common.{arith}
use Rattle.msr_words.proofs.Windows.{seen_0, seen_1, seen_2, seen_3, seen_4, seen_5, seen_6, seen_7}
use Rattle.msr_words.proofs.window.Window.longest_from.Goals as goal

pub returns-then-two-lt16384-clause-longest : goal.returns-then-two-lt16384-clause-longest
returns-then-two-lt16384-clause-longest c ds seen =
    seen_2 ds c.self.inside.sizes c.self.inside.kept c.args.place (rw (← c.self.view_is) at seen) c.if-two-lt16384.true
    c.if-three-ge512.true

pub returns-then-one-lt536870912-clause-longest : goal.returns-then-one-lt536870912-clause-longest
returns-then-one-lt536870912-clause-longest c ds seen =
    seen_1 ds c.self.inside.sizes c.self.inside.kept c.args.place (rw (← c.self.view_is) at seen)
    c.if-one-lt536870912.true
    (omega (arith, c.if-two-lt16384.false))

pub returns-else-one-lt536870912-clause-longest : goal.returns-else-one-lt536870912-clause-longest
returns-else-one-lt536870912-clause-longest c ds seen =
    seen_0 ds c.self.inside.sizes c.self.inside.kept c.args.place (rw (← c.self.view_is) at seen)
    (omega (arith, c.if-one-lt536870912.false))

pub returns-then-four-ge128-clause-longest : goal.returns-then-four-ge128-clause-longest
returns-then-four-ge128-clause-longest c ds seen =
    seen_3 ds c.self.inside.sizes c.self.inside.kept c.args.place (rw (← c.self.view_is) at seen)
    (omega (arith, c.if-three-ge512.false)) c.if-four-ge128.true

pub returns-then-five-ge32-clause-longest : goal.returns-then-five-ge32-clause-longest
returns-then-five-ge32-clause-longest c ds seen =
    seen_4 ds c.self.inside.sizes c.self.inside.kept c.args.place (rw (← c.self.view_is) at seen)
    (omega (arith, c.if-four-ge128.false)) c.if-five-ge32.true

pub returns-then-six-ge16-clause-longest : goal.returns-then-six-ge16-clause-longest
returns-then-six-ge16-clause-longest c ds seen =
    seen_5 ds c.self.inside.sizes c.self.inside.kept c.args.place (rw (← c.self.view_is) at seen)
    (omega (arith, c.if-five-ge32.false)) c.if-six-ge16.true

pub returns-then-seven-ge8-clause-longest : goal.returns-then-seven-ge8-clause-longest
returns-then-seven-ge8-clause-longest c ds seen =
    seen_6 ds c.self.inside.sizes c.self.inside.kept c.args.place (rw (← c.self.view_is) at seen)
    (omega (arith, c.if-six-ge16.false)) c.if-seven-ge8.true

pub returns-else-seven-ge8-clause-longest : goal.returns-else-seven-ge8-clause-longest
returns-else-seven-ge8-clause-longest c ds seen =
    seen_7 ds c.self.inside.sizes c.self.inside.kept c.args.place (rw (← c.self.view_is) at seen)
    (omega (arith, c.if-seven-ge8.false))
