use Rattle.std.proofs.Common.{w32, w64, SFits, ap, ◌∙◌, to_z, of_z}
use Rattle.std.proofs.lemmas.Int.{to_z-of_z}
use Rattle.msr_words.proofs.Greedy.{in_word}
use Rattle.msr_words.proofs.division.word_part.Goals as goal

pub overflow_cast-result : goal.overflow_cast-result
overflow_cast-result c =
    let fits = c.ranges.difference in
    simp to_z-of_z (in_word c.args.difference c.args.capacity c.requires.size c.requires.some)

pub returns : goal.returns
returns c =
    let fits = c.ranges.difference in
    let small : SFits w32 c.args.difference =
    in_word c.args.difference c.args.capacity c.requires.size c.requires.some in
    ap (λ z. to_z w32 (of_z w32 z)) (to_z-of_z w64 c.args.difference fits) ∙ to_z-of_z w32 c.args.difference small
