use Rattle.std.proofs.Common.{arith}
use Rattle.std.proofs.lemmas.Str.Pattern.{strip_prefix_char}
use Rattle.msr_sds.proofs.CutLemmas.{strip_found, strip_only}
use Rattle.msr_sds.proofs.parts.strip.Goals as goal

pub returns-clause-found : goal.returns-clause-found
returns-clause-found c =
    let after = c.in_ok-strip_prefix.field-0.now in
    let last = c.strip_prefix-2 in
    let dotted = strip_prefix_char 46 after last.result last.ensures.cases (omega arith) in
    strip_found c.args.text.now c.args.part.now after last.result (grind arith) dotted

pub returns-clause-only : goal.returns-clause-only
returns-clause-only c =
    let after = c.in_ok-strip_prefix.field-0.now in
    let last = c.strip_prefix-2 in
    let dotted = strip_prefix_char 46 after last.result last.ensures.cases (omega arith) in
    strip_only c.args.text.now c.args.part.now after last.result (grind arith) dotted
