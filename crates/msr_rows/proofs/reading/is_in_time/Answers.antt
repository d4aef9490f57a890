use Rattle.std.proofs.Common.{to_z-of_z, FitsSigned, w64, rules}
use Rattle.msr_rows.proofs.TimeLemmas.{in_time_from}
use Rattle.msr_rows.proofs.reading.is_in_time.Goals as goal

pub returns : goal.returns
returns c =
    let fits : FitsSigned w64 c.args.start = search rules in
    let range = rw (to_z-of_z fits) at c.is_instant.ensures in
    let last = rw (to_z-of_z fits) at c.reaches.ensures.found in
    let only = rw (to_z-of_z fits) at c.reaches.ensures.only in
    in_time_from c.args.rate.now c.args.start c.args.count c.reaches.result
    (range.0 c.if-not-is_instant.false) last only
