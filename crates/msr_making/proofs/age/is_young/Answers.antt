use Rattle.msr_tree.specs.Calls.{Looks}
use Rattle.msr_making.proofs.Sights.{goes_changes, goes_looks, goes_nothing, looks_nothing}
use Rattle.msr_making.proofs.age.is_young.Goals as goal

pub returns-in_default-clause-goes : goal.returns-in_default-clause-goes
returns-in_default-clause-goes g c = goes_nothing _

pub returns-in_default-clause-looks : goal.returns-in_default-clause-looks
returns-in_default-clause-looks g c = looks_nothing _

pub returns-then-eq-clause-goes : goal.returns-then-eq-clause-goes
returns-then-eq-clause-goes g c = goes_changes (Looks c.args.input.now) c.look_through.result _ _ c.look_through.ensures

pub returns-then-eq-clause-looks : goal.returns-then-eq-clause-looks
returns-then-eq-clause-looks g c = goes_looks (Looks c.args.input.now) c.look_through.result _ _ c.look_through.ensures

pub returns-else-eq-clause-goes : goal.returns-else-eq-clause-goes
returns-else-eq-clause-goes g c = goes_changes (Looks c.args.input.now) c.look_through.result _ _ c.look_through.ensures

pub returns-else-eq-clause-looks : goal.returns-else-eq-clause-looks
returns-else-eq-clause-looks g c = goes_looks (Looks c.args.input.now) c.look_through.result _ _ c.look_through.ensures

pub returns-in-Err-Memory-clause-goes : goal.returns-in-Err-Memory-clause-goes
returns-in-Err-Memory-clause-goes g c = goes_changes (Looks c.args.input.now) c.look_through.result _ _ c.look_through.ensures

pub returns-in-Err-Memory-clause-looks : goal.returns-in-Err-Memory-clause-looks
returns-in-Err-Memory-clause-looks g c = goes_looks (Looks c.args.input.now) c.look_through.result _ _ c.look_through.ensures

pub returns-in-Ok-None-clause-goes : goal.returns-in-Ok-None-clause-goes
returns-in-Ok-None-clause-goes g c = goes_changes (Looks c.args.input.now) c.look_through.result _ _ c.look_through.ensures

pub returns-in-Ok-None-clause-looks : goal.returns-in-Ok-None-clause-looks
returns-in-Ok-None-clause-looks g c = goes_looks (Looks c.args.input.now) c.look_through.result _ _ c.look_through.ensures

pub returns-in-Ok-None-2-clause-goes : goal.returns-in-Ok-None-2-clause-goes
returns-in-Ok-None-2-clause-goes g c = goes_changes (Looks c.args.input.now) c.look_through.result _ _ c.look_through.ensures

pub returns-in-Ok-None-2-clause-looks : goal.returns-in-Ok-None-2-clause-looks
returns-in-Ok-None-2-clause-looks g c = goes_looks (Looks c.args.input.now) c.look_through.result _ _ c.look_through.ensures
