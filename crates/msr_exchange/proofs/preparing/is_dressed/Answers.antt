use Rattle.std.proofs.Common.{[], Bool, true, false}
use Rattle.msr_tree.specs.declared.tree.TreeFault.TheVariants as fault
use Rattle.msr_tree.proofs.Acting.{giving, goes_tells, stopping, told_as}
use Rattle.msr_exchange.specs.Moves.{Anything}
use Rattle.msr_exchange.proofs.preparing.is_dressed.Goals as goal

pub returns-in-Ok : goal.returns-in-Ok
returns-in-Ok g c =
    told_as {A = Unit {0}} {B = Bool} [] [] _ (Anything {T = Bool}) (giving tt) (giving true) _ _ (λ is. cc) (λ n none. none) (λ p q did changes. tt) (goes_tells {T = Unit {0}} [] (λ old x. Unit {0}) _ _ _ c.in-Ok.ensures)

pub returns-in-Err-Failed : goal.returns-in-Err-Failed
returns-in-Err-Failed g c =
    told_as {A = Unit {0}} {B = Bool} [] [] _ (Anything {T = Bool}) (stopping (Unit {0}) c.in-Err-Failed.field-0) (giving false) _ _ (λ is. cc) (λ n none. none) (λ p q did changes. tt)
    (goes_tells {T = Unit {0}} [] (λ old x. Unit {0}) _ _ _ c.in-Err-Failed.ensures)

pub returns-in-Err-Memory : goal.returns-in-Err-Memory
returns-in-Err-Memory g c =
    told_as {A = Unit {0}} {B = Bool} [] [] _ (Anything {T = Bool}) (stopping (Unit {0}) c.in-Err-Memory.field-0) (stopping Bool fault.Memory) _ _ (λ is. cc) (λ n none. none) (λ p q did changes. tt)
    (goes_tells {T = Unit {0}} [] (λ old x. Unit {0}) _ _ _ c.in-Err-Memory.ensures)
