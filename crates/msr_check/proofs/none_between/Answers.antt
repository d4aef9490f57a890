use Rattle.std.proofs.Common.{arith}
use Rattle.msr_words.specs.Fit.{records_of}
use Rattle.msr_check.proofs.HoldsBoth.{none_says}
use Rattle.msr_check.proofs.none_between.Goals as goal

pub returns : goal.returns
returns c =
    let says = none_says (records_of c.args.form) c.args.samples.now c.args.first c.args.second (omega arith)
    c.requires.within
    _ _ _ _ c.holds_both.ensures c.holds_both-2.ensures c.holds_both-3.ensures c.steim_holds_both.ensures in
    (λ t. (omega arith, says.0 t), λ both. says.1 both.1)
