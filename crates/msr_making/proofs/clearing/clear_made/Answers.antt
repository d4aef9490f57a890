use Rattle.std.proofs.Common.{◌∙◌, Err, ap, inr, refl}
use Rattle.msr_naming.specs.Naming.{told}
use Rattle.msr_making.specs.declared.answer.Left.TheVariants.{Nothing}
use Rattle.msr_making.proofs.Cleared.{cleared_in_part, cleared_memory, cleared_well}
use Rattle.msr_making.proofs.clearing.clear_made.Goals as goal

pub returns-in-Ok-clause-told : goal.returns-in-Ok-clause-told
returns-in-Ok-clause-told g c = inr refl

pub returns-in-Failed-clause-told : goal.returns-in-Failed-clause-told
returns-in-Failed-clause-told g c = inr refl

pub returns-in-Ok-clause-goes : goal.returns-in-Ok-clause-goes
returns-in-Ok-clause-goes g c = cleared_well c.args.input.now c.args.files.now c.args.why Nothing c.clear_files-naming.result _ _ (λ is. cc) (ap told c.in-Ok.is) c.clear_files-naming.ensures

pub returns-in-Failed-clause-goes : goal.returns-in-Failed-clause-goes
returns-in-Failed-clause-goes g c = cleared_in_part c.args.input.now c.args.files.now c.args.why c.of_swept.result c.clear_files-naming.result _ _ _ c.of_swept.ensures (ap told c.in-Err.is ∙ ap (λ f. Err f) c.in-Failed.is) c.clear_files-naming.ensures c.is_seen.ensures

pub returns-in-Memory-clause-goes : goal.returns-in-Memory-clause-goes
returns-in-Memory-clause-goes g c = cleared_memory c.args.input.now c.args.files.now c.args.why _ c.clear_files-naming.result _ _ c.clear_files-naming.ensures
