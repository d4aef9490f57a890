use Rattle.std.proofs.lemmas.Result.{err_from_is_err_and}
use Rattle.std.proofs.Common.{Ok, false}
use Rattle.msr_making.specs.Places.{paths_at}
use Rattle.msr_making.proofs.Cleared.{finds_none}
use Rattle.msr_making.proofs.Sights.{asks_none, asks_nothing}
use Rattle.msr_making.proofs.clearing.is_gone.Goals as goal

pub returns-then-was_left : goal.returns-then-was_left
returns-then-was_left g c = asks_nothing _ (Ok false) _ (λ p. λ is. absurd cc)

pub returns-in_err-look : goal.returns-in_err-look
returns-in_err-look g c =
    let p = err_from_is_err_and c.from_residual.result c.from_residual.ensures.1 in
    rw (p.1, p.2) (asks_none _ _ _ _ _ c.in_err-look.ensures)

pub returns : goal.returns
returns g c = finds_none (paths_at c.args.places) c.in_ok-look.look c.is_free.result _ _ c.is_free.ensures c.in_ok-look.ensures
