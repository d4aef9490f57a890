use Rattle.std.proofs.Common.{refl, sym}
use Rattle.msr_arguments.proofs.Trial.{asks_ended, asks_here, asks_later, asks_never}
use Rattle.msr_arguments.proofs.dry_run.asks_dry_run.Goals as goal

pub loop-word-init : goal.loop-word-init
loop-word-init c = record { same = refl }

pub returns-then-eq : goal.returns-then-eq
returns-then-eq c = asks_ended c.args.words.now c.loop-word.word-index c.loop-word-test.true c.loop-word.invariant (sym c.eq.ensures) c.if-eq.true

pub returns-then-eq-2 : goal.returns-then-eq-2
returns-then-eq-2 c = asks_here c.args.words.now c.loop-word.word-index c.loop-word-test.true c.loop-word.invariant
    (sym c.eq.ensures) c.if-eq.false (sym c.eq-in-loop-word.ensures) c.if-eq-2.true

pub loop-word-preserved : goal.loop-word-preserved
loop-word-preserved c = asks_later c.args.words.now c.loop-word.word-index c.loop-word-test.true c.loop-word.invariant
    (sym c.eq.ensures) c.if-eq.false (sym c.eq-in-loop-word.ensures) c.if-eq-2.false

pub returns : goal.returns
returns c = asks_never c.args.words.now c.loop-word.word-index c.loop-word-test.false c.loop-word.invariant
