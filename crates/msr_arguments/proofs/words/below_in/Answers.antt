use Rattle.std.proofs.Common.{◌≡◌, ◌∙◌, ap, codes, map, rules}
use Rattle.clap.specs.Words.{found_of}
use Rattle.msr_arguments.specs.Found.{texts_under, without_slash}
use Rattle.msr_arguments.proofs.Slash.{all_stripped}
use Rattle.msr_arguments.proofs.words.below_in.Goals as goal

pub returns-clause-asked : goal.returns-clause-asked
returns-clause-asked c =
    let given : map (λ folder. folder.now) c.in-Some.given.now ≡ texts_under (found_of c.args.found.now) (codes "below") =
    search rules in
    c.in-Ok.ensures ∙ all_stripped c.in-Some.given.now ∙ ap (map without_slash) given
