use Rattle.std.proofs.lemmas.Slice.Eq.{strip_prefix_is}
use Rattle.std.proofs.lemmas.Bool.Decides.{Decides-eqb}
use Rattle.msr_report_reader.proofs.Digits.{after_found, after_only}
use Rattle.msr_report_reader.proofs.fields.after.Goals as goal

pub returns-clause-found : goal.returns-clause-found
returns-clause-found c =
    after_found c.args.text.now c.args.word.now c.strip_prefix.result
    (strip_prefix_is Decides-eqb c.args.text.now c.args.word.now c.strip_prefix.result c.strip_prefix.ensures.cases)

pub returns-clause-only : goal.returns-clause-only
returns-clause-only c rest is =
    after_only c.args.text.now c.args.word.now c.strip_prefix.result
    (strip_prefix_is Decides-eqb c.args.text.now c.args.word.now c.strip_prefix.result
    c.strip_prefix.ensures.cases) rest is
