use Rattle.std.proofs.Common.{◌++◌, ◌∷◌, codes, decimal}
use Rattle.std.proofs.lemmas.List.{take_all}
use Rattle.msr_report.proofs.Pieces.{one_piece_more}
use Rattle.msr_report.proofs.Words.{separators_end}
use Rattle.msr_report.proofs.lines.push_separators.Goals as goal

pub loop-separator-preserved : goal.loop-separator-preserved
loop-separator-preserved c =
    one_piece_more (λ n. 32 ∷ decimal n) (c.args.out.now.items ++ codes "separators") c.args.separators.now
    c.loop-separator.separator-index _ _ c.loop-separator-test.true c.loop-separator.invariant c.in_ok-push_number.ensures

pub returns : goal.returns
returns c =
    let all = take_all c.loop-separator.separator-index c.args.separators.now c.loop-separator-test.false in
    separators_end c.args.out.now.items c.args.separators.now _ _ c.loop-separator.separator-index all
    c.loop-separator.invariant c.in_ok-push.ensures.items
