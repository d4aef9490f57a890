use Rattle.msr_tree.proofs.Crash.{leaves_seen}
use Rattle.msr_naming.specs.Comes.{as_they_come, records_name}
use Rattle.msr_naming.proofs.naming.records_without_a_report.Goals as goal

pub returns-clause-records : goal.returns-clause-records
returns-clause-records c = leaves_seen as_they_come records_name
