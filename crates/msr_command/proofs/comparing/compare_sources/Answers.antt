use Rattle.std.proofs.Common.{◌≡◌, ℕ, Ok, Err, ap, false}
use Rattle.std.proofs.lemmas.Result.{err_from_is_err_and}
use Rattle.msr_options.specs.Choice.{Choice}
use Rattle.msr_command.specs.Comparing.{compare_settings}
use Rattle.msr_command.proofs.Comparisons.{as_asked, compare_stops, compare_untold}
use Rattle.msr_command.proofs.comparing.compare_sources.Goals as goal

same : (choice : Choice) (tolerance : ℕ) → tolerance ≡ choice.tolerance →
    record { tolerance = tolerance; strict = false } ≡ compare_settings choice
same choice tolerance is = ap (λ t. record { tolerance = t; strict = false }) is

pub returns-in_err-tell-in-Ok : goal.returns-in_err-tell-in-Ok
returns-in_err-tell-in-Ok g c =
    let p = err_from_is_err_and c.from_residual.result c.from_residual.ensures.1 in
    let a = c.in-Ok.ensures.answer in
    let answer = as_asked c.args.asked.now.options _ a.0 a.1 (Ok c.in-Ok.comparison) (same c.args.asked.now.options c.tolerance.result c.tolerance.ensures.same) a.4 in
    rw (p.1, p.2) (compare_untold c.args.asked.now.options c.args.asked.now (g.One.Source.device c.args.one.now)
    (g.Other.Source.device c.args.other.now) _ _ a.0 a.1 c.in-Ok.comparison
    c.in_err-tell-in-Ok.field-0.0 a.2 a.3 answer c.in_err-tell-in-Ok.ensures)

pub returns-in-Err : goal.returns-in-Err
returns-in-Err g c =
    let a = c.in-Err.ensures.answer in
    let answer = as_asked c.args.asked.now.options _ a.0 a.1 (Err c.in-Err.fault) (same c.args.asked.now.options c.tolerance.result c.tolerance.ensures.same) a.4 in
    rw c.stop_at.ensures (compare_stops c.args.asked.now.options c.args.asked.now (g.One.Source.device c.args.one.now)
    (g.Other.Source.device c.args.other.now) (g.O.Sink.device c.args.output.now) a.0 a.1 c.in-Err.fault a.2 a.3 answer)
