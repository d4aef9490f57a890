use Rattle.msr_outcomes.proofs.summary.write_summary.Goals as goal

pub returns-clause-all : goal.returns-clause-all
returns-clause-all g c = rw (← c.is_asked.ensures) c.write_sums.ensures.all

pub returns-clause-stops : goal.returns-clause-stops
returns-clause-stops g c = rw (← c.is_asked.ensures) c.write_sums.ensures.stops
