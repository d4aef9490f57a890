use Rattle.msr_naming.proofs.FallingBack.{anew_named}
use Rattle.msr_naming.proofs.fallback.name_files.Goals as goal

pub returns-then-is_free : goal.returns-then-is_free
returns-then-is_free g c = rw c.if-is_free.true (anew_named c.args.files.now c.perform.result _ _ c.perform.ensures)

pub returns-else-is_free : goal.returns-else-is_free
returns-else-is_free g c = rw c.if-is_free.false c.name_over.ensures
