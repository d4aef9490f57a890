use Rattle.msr_segments.proofs.DivisionLaws.{one_division, one_list}
use Rattle.msr_segments.proofs.Existence.{has_division}
use Rattle.msr_segments.proofs.laws.rows_have_one_division.Goals as goal

pub returns-clause-some : goal.returns-clause-some
returns-clause-some c = has_division

pub returns-clause-one : goal.returns-clause-one
returns-clause-one c = one_division

pub returns-clause-segments : goal.returns-clause-segments
returns-clause-segments c = one_list
