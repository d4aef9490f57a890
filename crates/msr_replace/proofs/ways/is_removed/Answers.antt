use Rattle.std.proofs.Common.{[], Bool}
use Rattle.std.proofs.lemmas.Result.{err_from_is_err_and}
use Rattle.msr_exchange.specs.Moves.{Anything}
use Rattle.msr_exchange.proofs.Making.{goes_none}
use Rattle.msr_replace.proofs.Quiet.{calm_tells}
use Rattle.msr_replace.proofs.ways.is_removed.Goals as goal

pub returns-in_err-place : goal.returns-in_err-place
returns-in_err-place g c =
    let p = err_from_is_err_and c.from_residual.result c.from_residual.ensures.1 in
    rw (p.1, p.2) (goes_none {T = Bool} [] (Anything {T = Bool}) _)

pub returns : goal.returns
returns g c = calm_tells {A = Bool} _ _ _ _ c.remove_folder.ensures
