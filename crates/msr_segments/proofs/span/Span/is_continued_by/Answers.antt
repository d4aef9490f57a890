use Rattle.std.proofs.Common.{FitsSigned, rules, to_z-of_z, w64}
use Rattle.msr_segments.proofs.span.Span.is_continued_by.Goals as goal

pub returns-then-is_same : goal.returns-then-is_same
returns-then-is_same c count =
    let fits : FitsSigned w64 c.args.start = search rules in
    let fits_self : FitsSigned w64 c.args.self.now.start = search rules in
    let near = rw (to_z-of_z fits, to_z-of_z fits_self) at c.near.ensures in
    let same = c.is_same.ensures.0 c.if-is_same.true in
    (λ is. record { key = same; time = near.0 is }, λ continues. near.1 continues.time)
