use Rattle.std.proofs.Common.{rules, FitsSigned, w64, to_z-of_z}
use Rattle.msr_segments.proofs.span.Span.count_with.Goals as goal

pub returns-clause-none : goal.returns-clause-none
returns-clause-none c =
    let fits : FitsSigned w64 c.args.self.now.start = search rules in
    let only = rw (to_z-of_z fits) at c.reaches.ensures.only in
    (λ e. absurd cc, λ out. absurd (out.out ((only out.instant out.nominal).0 c.if-not-reaches.false)))
