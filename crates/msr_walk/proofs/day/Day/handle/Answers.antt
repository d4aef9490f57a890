use Rattle.std.proofs.Common.{Ok, Err, ◌∙◌, ap}
use Rattle.std.proofs.lemmas.Result.{err_from_is_err_and}
use Rattle.msr_walk.proofs.Days.{claims_looked, claims_then, handles_after, handles_beside, handles_found, unclaimed_told}
use Rattle.msr_walk.proofs.day.Day.handle.Goals as goal

pub returns-in_err-repacked-clause-goes : goal.returns-in_err-repacked-clause-goes
returns-in_err-repacked-clause-goes g c = λ out reports within.
    let p = err_from_is_err_and c.from_residual.result c.from_residual.ensures.1 in
    rw p.1 (handles_beside (λ handled. handled.outcome) c.args.self.now out reports c.args.work.now.asked (Err _) _ _ (λ old new still. tt) (claims_looked c.args.self.now c.args.work.now.asked _ _ _ c.same.ensures.goes))

pub returns-in-Ok-clause-goes : goal.returns-in-Ok-clause-goes
returns-in-Ok-clause-goes g c = λ out reports within.
    handles_after (λ handled. handled.outcome) c.args.self.now out reports c.args.work.now.asked c.do_claimed.result _ _ _ within
    (claims_then c.args.self.now _ _ _ (claims_looked c.args.self.now c.args.work.now.asked _ _ _ c.same.ensures.goes) c.claim.ensures)
    (c.do_claimed.ensures.goes out reports within)

pub returns-in-Some-clause-waits : goal.returns-in-Some-clause-waits
returns-in-Some-clause-waits g c = rw c.of.ensures.waits tt

pub returns-in-Some-clause-goes : goal.returns-in-Some-clause-goes
returns-in-Some-clause-goes g c = λ out reports within.
    handles_found (λ handled. handled.outcome) c.args.self.now out reports c.args.work.now.asked c.in-Some.repacked c.same.result _ _ _ (c.in_ok-repacked.was ∙ ap (λ found. Ok found) c.in-Some.is) c.of.ensures.outcome c.same.ensures.goes

pub returns-in_err-refusal_of-in-Err-clause-goes : goal.returns-in_err-refusal_of-in-Err-clause-goes
returns-in_err-refusal_of-in-Err-clause-goes g c = λ out reports within.
    let p = err_from_is_err_and c.from_residual-in_err-refusal_of-in-Err.result c.from_residual-in_err-refusal_of-in-Err.ensures.1 in
    rw p.1 (handles_beside (λ handled. handled.outcome) c.args.self.now out reports c.args.work.now.asked (Err _) _ _ (λ old new still. tt) (claims_then c.args.self.now _ _ _ (claims_looked c.args.self.now c.args.work.now.asked _ _ _ c.same.ensures.goes) c.claim.ensures))

pub returns-in_ok-refusal_of-in-Err-clause-waits : goal.returns-in_ok-refusal_of-in-Err-clause-waits
returns-in_ok-refusal_of-in-Err-clause-waits g c = rw c.of-in-Err.ensures.waits tt

pub returns-in_ok-refusal_of-in-Err-clause-goes : goal.returns-in_ok-refusal_of-in-Err-clause-goes
returns-in_ok-refusal_of-in-Err-clause-goes g c = λ out reports within.
    handles_beside (λ handled. handled.outcome) c.args.self.now out reports c.args.work.now.asked (Ok c.of-in-Err.result) _ _
    (λ old new still. rw c.of-in-Err.ensures.outcome (unclaimed_told c.args.work.now.asked _ c.in_ok-refusal_of-in-Err.field-0 old new c.in_ok-refusal_of-in-Err.ensures still)) (claims_then c.args.self.now _ _ _ (claims_looked c.args.self.now c.args.work.now.asked _ _ _ c.same.ensures.goes) c.claim.ensures)
