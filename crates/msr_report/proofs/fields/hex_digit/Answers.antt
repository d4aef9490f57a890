use Rattle.std.proofs.Common.{arith, refl}
use Rattle.std.proofs.lemmas.Bool.{le-ltb, lt-ltb}
use Rattle.msr_report.proofs.fields.hex_digit.Goals as goal

pub returns-then-n-lt10-clause-glyph : goal.returns-then-n-lt10-clause-glyph
returns-then-n-lt10-clause-glyph c = rw (lt-ltb c.args.n 10 c.if-n-lt10.true) refl

pub returns-else-n-lt10-clause-glyph : goal.returns-else-n-lt10-clause-glyph
returns-else-n-lt10-clause-glyph c = rw (le-ltb c.args.n 10 c.if-n-lt10.false) (omega arith)
