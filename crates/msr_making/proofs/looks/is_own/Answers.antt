use Rattle.std.proofs.Common.{Ok, false}
use Rattle.msr_making.proofs.Sights.{asks_nothing, one_failed, one_none, one_so}
use Rattle.msr_making.proofs.looks.is_own.Goals as goal

pub returns-in-Ok : goal.returns-in-Ok
returns-in-Ok g c = one_so c.args.input.now c.args.path.now c.in-Ok.answer _ _ c.in-Ok.ensures

pub returns-in-Err-Failed : goal.returns-in-Err-Failed
returns-in-Err-Failed g c = one_failed c.args.input.now c.args.path.now _ _ (rw c.in-Err-Failed.field-0-is at c.in-Err-Failed.ensures)

pub returns-in-Err-Memory : goal.returns-in-Err-Memory
returns-in-Err-Memory g c = one_none c.args.input.now c.args.path.now _ _ _ (rw c.in-Err-Memory.field-0-is at c.in-Err-Memory.ensures)

pub returns-in_default : goal.returns-in_default
returns-in_default g c = asks_nothing _ (Ok false) _ (λ p. λ is. absurd cc)

pub returns-in_default-2 : goal.returns-in_default-2
returns-in_default-2 g c = asks_nothing _ (Ok false) _ (λ p. λ is. absurd cc)
