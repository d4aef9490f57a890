use Rattle.std.proofs.Common.{rules}
use Rattle.msr_input.proofs.Rows.{rows_none}
use Rattle.msr_input.proofs.row_reader.RowReader.new.Goals as goal

pub returns-clause-none : goal.returns-clause-none
returns-clause-none c = rw c.new-2.ensures.value
    (λ start. rows_none start c.new.result c.args.settings.tolerance (c.new.ensures.none start))

pub returns-clause-strict : goal.returns-clause-strict
returns-clause-strict c = search rules
