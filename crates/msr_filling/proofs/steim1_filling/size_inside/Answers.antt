-- The difference is that of two samples that are there.
use Rattle.std.proofs.Common.{rules, arith, ◌+◌, ◌-◌, ◌-ℤ◌, drop, get_or, pos, sym, subst, w32, SFits}
use Rattle.std.proofs.lemmas.Int.{to_z-of_z}
use Rattle.std.proofs.lemmas.List.{length-drop}
use Rattle.msr_words.specs.Segment.{differences}
use Rattle.msr_words.specs.Window.{IsSize}
use Rattle.msr_words.proofs.Plain.{length-differences}
use Rattle.msr_filling.proofs.GroupsFilled.{later_difference}
use Rattle.msr_filling.proofs.steim1_filling.size_inside.Goals as goal

pub returns : goal.returns
returns c before width small =
    let ds = drop c.args.at (differences before c.args.run.now) in
    let l = length-drop c.args.at (differences before c.args.run.now) in
    let n = length-differences before c.args.run.now in
    let previous : SFits w32 (get_or c.args.run.now (c.args.at + c.args.ahead - 1) (pos 0)) = search rules in
    let sample : SFits w32 (get_or c.args.run.now (c.args.at + c.args.ahead) (pos 0)) = search rules in
    let size : IsSize (get_or c.args.run.now (c.args.at + c.args.ahead) (pos 0)
    -ℤ get_or c.args.run.now (c.args.at + c.args.ahead - 1) (pos 0)) c.size_after.result =
    simp to_z-of_z at c.size_after.ensures in
    let here : IsSize (get_or ds c.args.ahead (pos 0)) c.size_after.result =
    subst (λ d. IsSize d c.size_after.result)
    (sym (later_difference before c.args.run.now c.args.at c.args.ahead c.requires.later c.requires.room)) size in
    (λ below. (omega (arith, c.requires.room), (here width).1 below), λ is. (here width).0 is.1)
