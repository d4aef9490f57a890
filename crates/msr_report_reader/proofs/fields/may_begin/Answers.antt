use Rattle.std.proofs.lemmas.Slice.Eq.{starts_is}
use Rattle.std.proofs.lemmas.Bool.Decides.{Decides-eqb}
use Rattle.msr_report_reader.proofs.Begun.{either_begins}
use Rattle.msr_report_reader.proofs.fields.may_begin.Goals as goal

pub returns : goal.returns
returns c = λ more rest is.
    either_begins c.args.text.now c.args.word.now more rest c.starts_with.result c.starts_with-2.result
    (starts_is Decides-eqb c.args.text.now c.args.word.now c.starts_with.result c.starts_with.ensures.value).1
    (starts_is Decides-eqb c.args.word.now c.args.text.now c.starts_with-2.result c.starts_with-2.ensures.value).1 is
