use Rattle.msr_words.proofs.Certificate.{least_by_separators}
use Rattle.msr_words.specs.Fit.{records_of}
use Rattle.msr_check.proofs.Judging.{judges_end}
use Rattle.msr_check.proofs.judge.Judge.shows_least.Goals as goal

pub returns-clause-exact : goal.returns-clause-exact
returns-clause-exact c samples runs judges =
    judges_end (records_of c.args.form) samples runs c.args.separators.now c.args.number c.args.self.now c.ends.result
    c.ends.ensures judges

pub returns-clause-least : goal.returns-clause-least
returns-clause-least c samples runs judges t =
    let shown = (judges_end (records_of c.args.form) samples runs c.args.separators.now c.args.number c.args.self.now
    c.ends.result c.ends.ensures judges).0 t in
    least_by_separators (records_of c.args.form) samples runs c.args.separators.now shown.separating shown.as_many
