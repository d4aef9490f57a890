use Rattle.std.proofs.Common.{FitsSigned, w64, to_z-of_z, rules}
use Rattle.msr_tool.proofs.list_writer.push_last.Goals as goal

pub returns-in-Words-clause-pushed : goal.returns-in-Words-clause-pushed
returns-in-Words-clause-pushed c =
    let fits : FitsSigned w64 c.in-Some.segment.start = search rules in
    rw (c.in-Some.is, c.in-Words.is) (rw (to_z-of_z fits) at c.push_list_line.ensures.pushed)

pub returns-in-Words-clause-refused : goal.returns-in-Words-clause-refused
returns-in-Words-clause-refused c = c.push_list_line.ensures.refused

pub push_json_line-requires-clause-in_time : goal.push_json_line-requires-clause-in_time
push_json_line-requires-clause-in_time c = let bounds = rw c.in-Some.is at c.requires in bounds.in_time

pub push_json_line-requires-clause-some : goal.push_json_line-requires-clause-some
push_json_line-requires-clause-some c = let bounds = rw c.in-Some.is at c.requires in bounds.some

pub returns-in-Json-clause-pushed : goal.returns-in-Json-clause-pushed
returns-in-Json-clause-pushed c = rw (c.in-Some.is, c.in-Json.is) c.push_json_line.ensures.pushed

pub returns-in-Json-clause-refused : goal.returns-in-Json-clause-refused
returns-in-Json-clause-refused c = c.push_json_line.ensures.refused
