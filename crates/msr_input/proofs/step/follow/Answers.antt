use Rattle.std.proofs.Common.{FitsSigned, w64, to_z-of_z, rules, refl}
use Rattle.msr_input.proofs.step.follow.Goals as goal

pub returns-in-Ok-clause-followed : goal.returns-in-Ok-clause-followed
returns-in-Ok-clause-followed c =
    let fits : FitsSigned w64 c.in-Some.outline.start = search rules in
    let step = rw (to_z-of_z fits) at c.in-Ok.ensures.step in
    let refused = rw (to_z-of_z fits) at c.in-Ok.ensures.out_of_range in
    rw c.in-Some.is (record {
      answer = c.in-Ok.step;
      told = refl;
      is_step = step;
      in_range = λ overruns. let impossible = refused.1 overruns in cc;
    })
