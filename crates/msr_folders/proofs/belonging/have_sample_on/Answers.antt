use Rattle.std.proofs.Common.{arith, subst, sym}
use Rattle.std.proofs.lemmas.List.Elements.{All-more}
use Rattle.msr_folders.specs.Belonging.{told_segment}
use Rattle.msr_folders.specs.Times.{HasSampleOn}
use Rattle.msr_folders.proofs.Lines.{all_listed, sample_at}
use Rattle.msr_folders.proofs.belonging.have_sample_on.Goals as goal

pub loop-line-preserved : goal.loop-line-preserved
loop-line-preserved c =
    let none : HasSampleOn c.args.name.now.year c.args.name.now.day (told_segment c.line-item.result) → ⊥ =
    λ has. (let yes = c.has_sample_on.ensures.1 (rw (sym c.told_segment.ensures) at has) in let no = c.if-has_sample_on.false in cc) in
    All-more (λ line. HasSampleOn c.args.name.now.year c.args.name.now.day (told_segment line) → ⊥) c.args.lines.now c.loop-line.line-index c.line-item.result
    (omega (arith, c.loop-line-test.true)) c.loop-line.invariant
    (subst (λ line. HasSampleOn c.args.name.now.year c.args.name.now.day (told_segment line) → ⊥) c.line-item.is none)

pub returns-then-has_sample_on-clause-one : goal.returns-then-has_sample_on-clause-one
returns-then-has_sample_on-clause-one c = λ so.
    sample_at c.args.name.now c.args.lines.now c.loop-line.line-index c.line-item.result
    (omega (arith, c.loop-line-test.true)) c.line-item.is (rw c.told_segment.ensures at (c.has_sample_on.ensures.0 c.if-has_sample_on.true))

pub returns-clause-none : goal.returns-clause-none
returns-clause-none c = λ so.
    all_listed (λ segment. HasSampleOn c.args.name.now.year c.args.name.now.day segment → ⊥) c.loop-line.line-index c.args.lines.now
    (omega (arith, c.loop-line-test.false)) c.loop-line.invariant
