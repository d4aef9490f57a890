use Rattle.std.proofs.Common.{inr, refl}
use Rattle.msr_making.specs.declared.answer.Left.TheVariants.{Nothing}
use Rattle.msr_making.proofs.Cleared.{ends_gone, ends_memory, finds_at, then_cleared}
use Rattle.msr_making.proofs.clearing.clear_day.Goals as goal

pub returns-in-Ok-true-clause-told : goal.returns-in-Ok-true-clause-told
returns-in-Ok-true-clause-told g c = inr refl

pub returns-in-Ok-true-clause-goes : goal.returns-in-Ok-true-clause-goes
returns-in-Ok-true-clause-goes g c = ends_gone c.args.input.now c.args.files.now c.args.why Nothing c.in-Ok-true.field-0 _ _ c.in-Ok-true.field-0-test (λ is. cc) (finds_at _ _ _ _ _ c.places_of.ensures c.in-Ok-true.ensures)

pub returns-in-Ok-false-clause-told : goal.returns-in-Ok-false-clause-told
returns-in-Ok-false-clause-told g c = c.clear_made.ensures.told

pub returns-in-Ok-false-clause-goes : goal.returns-in-Ok-false-clause-goes
returns-in-Ok-false-clause-goes g c = then_cleared c.args.input.now c.args.files.now c.args.why c.clear_made.result _ _ _ _ (finds_at _ _ _ _ _ c.places_of.ensures c.is_gone.ensures) c.clear_made.ensures.goes

pub returns-in-Err-clause-goes : goal.returns-in-Err-clause-goes
returns-in-Err-clause-goes g c = ends_memory c.args.input.now c.args.files.now c.args.why _ _ _ _ (finds_at _ _ _ _ _ c.places_of.ensures c.is_gone.ensures)
