-- One difference more.
use Rattle.std.proofs.Common.{rules, ◌++◌, [], ◌∷◌, ℤ, get_or, pos, negsuc, w32, w64, SFits, sym, ap, ◌∙◌}
use Rattle.std.proofs.lemmas.Int.{to_z-of_z}
use Rattle.std.proofs.lemmas.List.{take_all, take_more}
use Rattle.msr_steim.specs.Word.{FitsBits}
use Rattle.msr_words.proofs.FirstGroups.{all_at}
use Rattle.msr_words.proofs.division.group_of.Goals as goal

in_word : (d : ℤ) → FitsBits 32 d → SFits w32 d
in_word (pos n) fits = search rules
in_word (negsuc n) fits = search rules

pub overflow_cast-difference : goal.overflow_cast-difference
overflow_cast-difference c =
    let i = c.loop-difference.difference-index in
    let ds = c.args.differences.now in
    let diff : SFits w64 (get_or ds i (pos 0)) = search rules in
    simp to_z-of_z (in_word _ (all_at (FitsBits 32) ds i (pos 0) c.loop-difference-test.true c.requires.fit))

pub loop-difference-preserved : goal.loop-difference-preserved
loop-difference-preserved c =
    let i = c.loop-difference.difference-index in
    let ds = c.args.differences.now in
    let diff : SFits w64 (get_or ds i (pos 0)) = search rules in
    let small = in_word _ (all_at (FitsBits 32) ds i (pos 0) c.loop-difference-test.true c.requires.fit) in
    simp to_z-of_z at c.push.ensures.items ∙ ap (λ xs. xs ++ get_or ds i (pos 0) ∷ []) c.loop-difference.invariant
    ∙ sym (take_more ds i (pos 0) c.loop-difference-test.true)

pub returns : goal.returns
returns c = c.loop-difference.invariant ∙ take_all _ _ c.loop-difference-test.false
