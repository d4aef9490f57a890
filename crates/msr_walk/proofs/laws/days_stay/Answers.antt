use Rattle.msr_walk.proofs.Staying.{told_stays, unvisited_stays}
use Rattle.msr_walk.proofs.laws.days_stay.Goals as goal

pub returns-clause-told : goal.returns-clause-told
returns-clause-told c = told_stays

pub returns-clause-unvisited : goal.returns-clause-unvisited
returns-clause-unvisited c = unvisited_stays
