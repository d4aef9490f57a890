use Rattle.std.proofs.Common.{[], ◌≡◌, ◌∷◌, refl}
use Rattle.std.proofs.lemmas.Result.{err_from_is_err_and}
use Rattle.msr_exchange.specs.Moves.{Clears}
use Rattle.msr_exchange.specs.Names.{path_below}
use Rattle.msr_exchange.proofs.Clearing.{removed_one}
use Rattle.msr_exchange.proofs.Making.{goes_none}
use Rattle.msr_exchange.proofs.folders.clear_part.Goals as goal

pub returns-in_err-path : goal.returns-in_err-path
returns-in_err-path g c =
    let p = err_from_is_err_and c.from_residual.result c.from_residual.ensures.1 in
    let l = path_below c.args.top.now (path_below c.args.folder.now c.args.name.now) ∷ [] in
    rw (p.1, p.2) (goes_none {T = Unit {0}} l (Clears {T = Unit {0}} l) _)

pub returns : goal.returns
returns g c =
    let path = path_below c.args.top.now (path_below c.args.folder.now c.args.name.now) in
    let same : c.as_str.result.now ≡ path = rw (c.as_str.ensures.value, c.in_ok-path.ensures.ok) refl in
    removed_one path _ _ _ _ same c.remove.ensures
