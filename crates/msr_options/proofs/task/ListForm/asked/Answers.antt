use Rattle.std.proofs.Common.{rules}
use Rattle.msr_options.proofs.task.ListForm.asked.Goals as goal

pub returns-then-in_json-clause-json : goal.returns-then-in_json-clause-json
returns-then-in_json-clause-json c = search rules
