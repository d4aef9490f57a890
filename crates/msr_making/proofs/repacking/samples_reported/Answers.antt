use Rattle.std.proofs.Common.{◌+◌, ◌∙◌, ap, sym, take, arith}
use Rattle.msr_folders.specs.Totals.{saturated}
use Rattle.msr_making.specs.Day.{samples_of_lines}
use Rattle.msr_making.proofs.Fewer.{samples_next, saturated_more}
use Rattle.msr_making.proofs.repacking.samples_reported.Goals as goal

pub loop-line-init : goal.loop-line-init
loop-line-init c = cc

pub loop-line-preserved : goal.loop-line-preserved
loop-line-preserved c =
    let lines = c.args.report.now.segments.items in
    let i = c.loop-line.line-index in
    let next = samples_next lines i c.line-item.result (omega (arith, c.loop-line-test.true, c.deref-line-items.ensures.len)) (rw c.deref-line-items.ensures.value at c.line-item.is) in
    c.saturating_add-samples.ensures ∙ ap (λ n. saturated (n + c.line-item.result.samples)) c.loop-line.invariant
    ∙ saturated_more (samples_of_lines (take i lines)) c.line-item.result.samples ∙ ap saturated (sym next)
