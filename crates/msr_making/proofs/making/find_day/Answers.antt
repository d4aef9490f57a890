use Rattle.std.proofs.lemmas.Result.{err_from_is_err_and}
use Rattle.msr_making.specs.Places.{paths_at}
use Rattle.msr_making.proofs.Seeking.{asked_both, found_open, found_same, found_shared, found_unknown, kept_at, was_kept}
use Rattle.msr_making.proofs.Sights.{asks_none, asks_then_none, said_nothing}
use Rattle.msr_making.proofs.making.find_day.Goals as goal

pub returns-in_err-look-clause-goes : goal.returns-in_err-look-clause-goes
returns-in_err-look-clause-goes g c =
    let p = err_from_is_err_and c.from_residual.result c.from_residual.ensures.1 in
    rw (p.1, p.2) (asks_none _ _ _ _ _ c.in_err-look.ensures)

pub returns-then-is_uncertain-clause-goes : goal.returns-then-is_uncertain-clause-goes
returns-then-is_uncertain-clause-goes g c = found_unknown (paths_at c.args.places) c.args.asked.now c.in_ok-look.look _ _ _ (c.is_uncertain.ensures.unknown c.if-is_uncertain.true) c.in_ok-look.ensures

pub returns-in_err-is_shared-clause-goes : goal.returns-in_err-is_shared-clause-goes
returns-in_err-is_shared-clause-goes g c =
    let p = err_from_is_err_and c.from_residual-in_err-is_shared.result c.from_residual-in_err-is_shared.ensures.1 in
    rw (p.1, p.2) (asks_then_none _ _ _ _ _ _ _ _ c.in_ok-look.ensures c.in_err-is_shared.ensures)

pub returns-then-branch-clause-goes : goal.returns-then-branch-clause-goes
returns-then-branch-clause-goes g c = found_shared (paths_at c.args.places) c.args.asked.now c.in_ok-look.look _ _ _ _ _ c.if-branch.true c.in_ok-look.ensures c.in_ok-is_shared.ensures

pub returns-then-not-asked-clause-goes : goal.returns-then-not-asked-clause-goes
returns-then-not-asked-clause-goes g c = found_open (paths_at c.args.places) c.args.asked.now c.in_ok-look.look _ _ _ _ _ (c.is_uncertain.ensures.known c.if-is_uncertain.false) c.in_ok-look.ensures c.in_ok-is_shared.ensures

pub returns-in_err-repacked-clause-goes : goal.returns-in_err-repacked-clause-goes
returns-in_err-repacked-clause-goes g c =
    let p = err_from_is_err_and c.from_residual-in_err-repacked.result c.from_residual-in_err-repacked.ensures.1 in
    rw (p.1, p.2) (asks_then_none _ said_nothing _ _ _ _ _ _ c.in_ok-look.ensures (asks_then_none _ _ said_nothing _ _ _ _ _ c.in_ok-is_shared.ensures c.in_err-repacked.ensures.goes))

pub returns-in-Some-clause-told : goal.returns-in-Some-clause-told
returns-in-Some-clause-told g c = record { resume = c.if-not-asked.false; kept = was_kept (paths_at c.args.places) c.args.asked.now c.in_ok-look.look c.in_ok-repacked.field-0 c.in-Some.repacked c.in-Some.is c.in_ok-repacked.ensures.told }

pub returns-in-Some-clause-goes : goal.returns-in-Some-clause-goes
returns-in-Some-clause-goes g c =
    found_same (paths_at c.args.places) c.args.asked.now c.in_ok-look.look c.in-Some.repacked _ _ _ _ _ c.if-not-asked.false c.in_ok-look.ensures c.in_ok-is_shared.ensures (kept_at (paths_at c.args.places) c.args.asked.now c.in_ok-look.look c.in_ok-repacked.field-0 c.in-Some.repacked _ _ c.in-Some.is c.in_ok-repacked.ensures.goes)

pub returns-in-None-clause-goes : goal.returns-in-None-clause-goes
returns-in-None-clause-goes g c =
    found_open (paths_at c.args.places) c.args.asked.now c.in_ok-look.look _ _ _ _ _ (c.is_uncertain.ensures.known c.if-is_uncertain.false) c.in_ok-look.ensures (asked_both (paths_at c.args.places) c.args.asked.now c.in_ok-look.look _ _ _ _ _ _ c.in_ok-is_shared.ensures c.in_ok-repacked.ensures.goes)
