use Rattle.std.proofs.Common.{arith, subst, sym}
use Rattle.std.proofs.lemmas.List.Elements.{All-more}
use Rattle.msr_folders.specs.Belonging.{told_segment}
use Rattle.msr_folders.specs.Names.{IsOfChannel}
use Rattle.msr_folders.proofs.Lines.{all_listed, another_at}
use Rattle.msr_folders.proofs.belonging.first_of_another.Goals as goal

pub loop-line-preserved : goal.loop-line-preserved
loop-line-preserved c =
    let is : IsOfChannel c.args.name.now (told_segment c.line-item.result) = rw c.told_segment-segment.ensures at (c.is_of_channel.ensures.0 c.if-not-is_of_channel.false) in
    All-more (λ line. IsOfChannel c.args.name.now (told_segment line)) c.args.lines.now c.loop-line.line-index c.line-item.result
    (omega (arith, c.loop-line-test.true)) c.loop-line.invariant
    (subst (λ line. IsOfChannel c.args.name.now (told_segment line)) c.line-item.is is)

pub returns-then-not-is_of_channel-clause-another : goal.returns-then-not-is_of_channel-clause-another
returns-then-not-is_of_channel-clause-another c =
    another_at c.args.name.now c.name_of.result c.args.lines.now c.loop-line.line-index c.line-item.result
    (omega (arith, c.loop-line-test.true)) c.line-item.is c.loop-line.invariant
    (λ is. let true_too = c.is_of_channel.ensures.1 (rw (sym c.told_segment-segment.ensures) at is) in let no = c.if-not-is_of_channel.true in cc)
    (rw c.told_segment-segment.ensures at c.name_of.ensures)

pub returns-clause-same : goal.returns-clause-same
returns-clause-same c =
    all_listed (IsOfChannel c.args.name.now) c.loop-line.line-index c.args.lines.now (omega (arith, c.loop-line-test.false)) c.loop-line.invariant
