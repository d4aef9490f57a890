use Rattle.std.proofs.Common.{arith, FitsSigned, rules, to_z-of_z}
use Rattle.std.specs.Int.{w128}
use Rattle.jiff_core.proofs.SignedLemmas.{signed_arith}
use Rattle.msr_report.proofs.json.why_apart.Goals as goal

pub returns-then-micros-gt0-clause-overlap : goal.returns-then-micros-gt0-clause-overlap
returns-then-micros-gt0-clause-overlap c same earlier =
    let fits : FitsSigned w128 c.args.micros = search rules in
    let later = rw (to_z-of_z fits) at c.if-micros-gt0.true in
    absurd (omega (arith, signed_arith, later, earlier))

pub returns-else-micros-gt0-clause-gap : goal.returns-else-micros-gt0-clause-gap
returns-else-micros-gt0-clause-gap c same later =
    let fits : FitsSigned w128 c.args.micros = search rules in
    let earlier = rw (to_z-of_z fits) at c.if-micros-gt0.false in
    absurd (omega (arith, signed_arith, later, earlier))
