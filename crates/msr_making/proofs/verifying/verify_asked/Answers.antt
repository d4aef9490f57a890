use Rattle.msr_making.proofs.Verified.{said_again, said_was, unasked_verified}
use Rattle.msr_making.proofs.verifying.verify_asked.Goals as goal

pub returns-then-not-asked-clause-goes : goal.returns-then-not-asked-clause-goes
returns-then-not-asked-clause-goes g c = unasked_verified c.args.input.now c.args.files.now c.args.asked.now _ c.if-not-asked.true

pub returns-clause-told : goal.returns-clause-told
returns-clause-told g c = λ check. said_was c.args.asked.now.options c.verify_parts-said.result c.told_again.result c.told_again.ensures.said c.verify_parts-said.ensures.told

pub returns-clause-goes : goal.returns-clause-goes
returns-clause-goes g c = said_again c.args.input.now c.args.files.now c.args.asked.now c.verify_parts-said.result c.told_again.result _ _ _ c.told_again.ensures.said c.verify_parts-said.ensures.goes c.told_again.ensures.goes
