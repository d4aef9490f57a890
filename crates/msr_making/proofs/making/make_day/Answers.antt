use Rattle.msr_naming.specs.Naming.{told}
use Rattle.msr_making.proofs.Days.{named_was}
use Rattle.msr_making.proofs.Made.{made, not_made}
use Rattle.msr_making.proofs.making.make_day.Goals as goal

pub returns-in-Ok-clause-told : goal.returns-in-Ok-clause-told
returns-in-Ok-clause-told g c = named_was c.args.asked.now c.in-Ok.repacked (told c.name_files-naming.result.answer) c.named.result c.named.ensures c.in-Ok.ensures.told

pub returns-in-Ok-clause-goes : goal.returns-in-Ok-clause-goes
returns-in-Ok-clause-goes g c = made c.args.input.now c.args.look.now c.args.files.now c.args.asked.now c.args.is_free c.in-Ok.repacked c.name_files-naming.result c.named.result _ _ _ c.named.ensures c.in-Ok.ensures.goes c.name_files-naming.ensures

pub returns-in-Err-clause-told : goal.returns-in-Err-clause-told
returns-in-Err-clause-told g c = c.in-Err.ensures.told

pub returns-in-Err-clause-goes : goal.returns-in-Err-clause-goes
returns-in-Err-clause-goes g c = not_made c.args.input.now c.args.look.now c.args.files.now c.args.asked.now c.args.is_free c.in-Err.stop _ _ c.in-Err.ensures.goes
