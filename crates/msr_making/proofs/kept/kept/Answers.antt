use Rattle.std.proofs.lemmas.Result.{err_from_is_err_and}
use Rattle.std.proofs.Common.{None, Ok}
use Rattle.msr_making.specs.Places.{paths_at}
use Rattle.msr_making.proofs.Lefts.{found_either, left_none, left_none_then, left_there}
use Rattle.msr_making.proofs.Sights.{asks_none, asks_nothing, asks_then_none}
use Rattle.msr_making.proofs.kept.kept.Goals as goal

pub returns-in_default-clause-goes : goal.returns-in_default-clause-goes
returns-in_default-clause-goes g c = asks_nothing _ (Ok None) _ (λ p. λ looked. tt)

pub returns-in_err-is_stamped-clause-goes : goal.returns-in_err-is_stamped-clause-goes
returns-in_err-is_stamped-clause-goes g c =
    let p = err_from_is_err_and c.from_residual.result c.from_residual.ensures.1 in
    rw (p.1, p.2) (asks_none _ _ _ _ _ c.in_err-is_stamped.ensures)

pub returns-then-not-is_stamped-clause-goes : goal.returns-then-not-is_stamped-clause-goes
returns-then-not-is_stamped-clause-goes g c = left_none _ (paths_at c.args.places) c.args.look.now c.args.asked.now _ _ _ c.in_ok-is_stamped.ensures

pub returns-in_err-found-clause-goes : goal.returns-in_err-found-clause-goes
returns-in_err-found-clause-goes g c =
    let p = err_from_is_err_and c.from_residual-in_err-found.result c.from_residual-in_err-found.ensures.1 in
    rw (p.1, p.2) (asks_then_none _ _ _ _ _ _ _ _ c.in_ok-is_stamped.ensures c.in_err-found.ensures.goes)

pub returns-in_default-found-clause-goes : goal.returns-in_default-found-clause-goes
returns-in_default-found-clause-goes g c = left_none_then _ _ (paths_at c.args.places) c.args.look.now c.args.asked.now _ _ _ _ _ c.in_ok-is_stamped.ensures c.in_ok-found.ensures.goes

pub returns-then-not-is_kept-clause-goes : goal.returns-then-not-is_kept-clause-goes
returns-then-not-is_kept-clause-goes g c = left_none_then _ _ (paths_at c.args.places) c.args.look.now c.args.asked.now _ _ _ _ _ c.in_ok-is_stamped.ensures c.in_ok-found.ensures.goes

pub returns-clause-told : goal.returns-clause-told
returns-clause-told g c =
    found_either c.args.asked.now c.in-Some-found.repacked c.args.look.now.records c.in_ok-found.found c.in-Some-found.is c.in_ok-found.ensures.told (c.is_kept.ensures c.if-not-is_kept.false)

pub returns-clause-goes : goal.returns-clause-goes
returns-clause-goes g c =
    left_there (paths_at c.args.places) c.args.asked.now c.args.look.now c.in-Some.facts.input c.of-stamp.result c.in_ok-is_stamped.is_stamped c.in_ok-found.found c.in-Some-found.repacked
    c.of-stamp.ensures c.if-not-is_stamped.false c.in-Some-found.is c.in-Some.ensures.input (c.is_kept.ensures c.if-not-is_kept.false) _ _ _ (rw c.stamped_by-of.ensures at c.in_ok-is_stamped.ensures) c.in_ok-found.ensures.goes
