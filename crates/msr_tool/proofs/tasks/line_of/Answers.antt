use Rattle.msr_tool.proofs.tasks.line_of.Goals as goal

pub returns : goal.returns
returns c = c.in_ok-line.ensures.ok
