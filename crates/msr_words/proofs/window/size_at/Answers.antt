use Rattle.std.proofs.Common.{rules, arith, lit≤, ◌-◌, pos, slice_index_or, sym, subst, w32, SFits}
use Rattle.std.proofs.lemmas.Int.{to_z-of_z}
use Rattle.msr_words.specs.Window.{IsSize}
use Rattle.msr_words.proofs.Pushes.{difference_at_later}
use Rattle.msr_words.proofs.Windows.{size_past, size_there}
use Rattle.msr_words.proofs.window.size_at.Goals as goal

pub returns-then-at-samples : goal.returns-then-at-samples
returns-then-at-samples c = size_past c.args.samples.now c.args.at 4294967295 (omega arith) (lit≤ tt)

pub returns : goal.returns
returns c =
    let before : SFits w32 (slice_index_or c.args.samples.now (c.args.at - 1) (pos 0)) = search rules in
    let sample : SFits w32 (slice_index_or c.args.samples.now c.args.at (pos 0)) = search rules in
    let is = simp to_z-of_z at c.size_after.ensures in
    size_there c.args.samples.now c.args.at c.size_after.result (omega arith)
    (subst (λ d. IsSize d c.size_after.result) (sym
    (difference_at_later c.args.samples.now c.args.at (omega arith))) is)
