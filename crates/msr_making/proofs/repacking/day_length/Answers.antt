use Rattle.msr_tree.specs.Calls.{Opens}
use Rattle.msr_making.proofs.Sights.{goes_changes, goes_looks, goes_nothing, looks_nothing}
use Rattle.msr_making.proofs.repacking.day_length.Goals as goal

pub returns-then-not-days-clause-goes : goal.returns-then-not-days-clause-goes
returns-then-not-days-clause-goes g c = goes_nothing _

pub returns-in-Ok-clause-goes : goal.returns-in-Ok-clause-goes
returns-in-Ok-clause-goes g c = goes_changes (λ past reader. Opens c.args.input.now past (g.T.Reader.Source.device reader)) c.follow.result _ _ c.follow.ensures.went

pub returns-in-Err-Failed-clause-goes : goal.returns-in-Err-Failed-clause-goes
returns-in-Err-Failed-clause-goes g c = goes_changes (λ past reader. Opens c.args.input.now past (g.T.Reader.Source.device reader)) c.follow.result _ _ c.follow.ensures.went

pub returns-in-Err-Memory-clause-goes : goal.returns-in-Err-Memory-clause-goes
returns-in-Err-Memory-clause-goes g c = goes_changes (λ past reader. Opens c.args.input.now past (g.T.Reader.Source.device reader)) c.follow.result _ _ c.follow.ensures.went

pub returns-then-not-days-clause-looks : goal.returns-then-not-days-clause-looks
returns-then-not-days-clause-looks g c = looks_nothing _

pub returns-in-Ok-clause-looks : goal.returns-in-Ok-clause-looks
returns-in-Ok-clause-looks g c = goes_looks (λ past reader. Opens c.args.input.now past (g.T.Reader.Source.device reader)) c.follow.result _ _ c.follow.ensures.went

pub returns-in-Err-Failed-clause-looks : goal.returns-in-Err-Failed-clause-looks
returns-in-Err-Failed-clause-looks g c = goes_looks (λ past reader. Opens c.args.input.now past (g.T.Reader.Source.device reader)) c.follow.result _ _ c.follow.ensures.went

pub returns-in-Err-Memory-clause-looks : goal.returns-in-Err-Memory-clause-looks
returns-in-Err-Memory-clause-looks g c = goes_looks (λ past reader. Opens c.args.input.now past (g.T.Reader.Source.device reader)) c.follow.result _ _ c.follow.ensures.went
