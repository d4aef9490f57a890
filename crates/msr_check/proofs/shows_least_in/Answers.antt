use Rattle.msr_words.proofs.Certificate.{least_by_separators}
use Rattle.msr_words.specs.Fit.{records_of}
use Rattle.msr_check.proofs.shows_least_in.Goals as goal

pub returns-clause-least : goal.returns-clause-least
returns-clause-least c t =
    least_by_separators (records_of c.args.form) c.args.samples.now c.args.runs.now c.args.separators.now
    (c.is_shown.ensures.0 t).1 c.if-runs-separators.false
