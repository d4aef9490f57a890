use Rattle.msr_making.proofs.Lefts.{kept_of_left, report_memory, report_none, report_there}
use Rattle.msr_making.proofs.kept.kept_counts.Goals as goal

pub returns-in-Ok-clause-told : goal.returns-in-Ok-clause-told
returns-in-Ok-clause-told g c = kept_of_left c.args.asked.now _ c.counts_kept.result c.counts_kept.ensures.left

pub returns-in-Ok-clause-goes : goal.returns-in-Ok-clause-goes
returns-in-Ok-clause-goes g c = report_there c.args.path.now (λ reader. g.T.Reader.Source.device reader) c.args.asked.now c.args.bytes_read c.in-Ok.source c.counts_kept.result _ _ c.counts_kept.ensures.left c.counts_kept.ensures.read c.in-Ok.ensures.went

pub returns-in-Err-Failed-clause-goes : goal.returns-in-Err-Failed-clause-goes
returns-in-Err-Failed-clause-goes g c = report_none c.args.path.now (λ reader. g.T.Reader.Source.device reader) c.args.asked.now c.args.bytes_read _ _ _ c.in-Err-Failed.ensures.went

pub returns-in-Err-Memory-clause-goes : goal.returns-in-Err-Memory-clause-goes
returns-in-Err-Memory-clause-goes g c = report_memory c.args.path.now (λ reader. g.T.Reader.Source.device reader) c.args.asked.now c.args.bytes_read _ _ _ _ c.in-Err-Memory.ensures.went
