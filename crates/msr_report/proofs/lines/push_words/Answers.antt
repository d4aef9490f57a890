use Rattle.std.proofs.Common.{rules}
use Rattle.msr_report.proofs.lines.push_words.Goals as goal

pub returns-in_err-words-clause-refused : goal.returns-in_err-words-clause-refused
returns-in_err-words-clause-refused c = search rules
