use Rattle.std.proofs.lemmas.Result.{err_from_is_err_and}
use Rattle.msr_making.proofs.Days.{unverified_as}
use Rattle.msr_making.proofs.Made.{is_so, not_held, not_verified, not_written, prepared}
use Rattle.msr_making.proofs.making.prepare_day.Goals as goal

pub returns-in_err-repacked-clause-told : goal.returns-in_err-repacked-clause-told
returns-in_err-repacked-clause-told g c =
    let p = err_from_is_err_and c.from_residual.result c.from_residual.ensures.1 in
    rw (p.1, p.2) c.in_err-repacked.ensures.told

pub returns-in_err-repacked-clause-goes : goal.returns-in_err-repacked-clause-goes
returns-in_err-repacked-clause-goes g c =
    let p = err_from_is_err_and c.from_residual.result c.from_residual.ensures.1 in
    rw (p.1, p.2) (not_written c.args.input.now c.args.look.now c.args.files.now c.args.asked.now c.in_err-repacked.field-0.0 _ _ c.in_err-repacked.ensures.goes)

pub returns-in-Err-clause-told : goal.returns-in-Err-clause-told
returns-in-Err-clause-told g c =
    let check = is_so c.args.asked.now.check (λ n. let e = c.in-Err.ensures.unasked n in absurd cc) in
    unverified_as c.args.asked.now c.in_ok-repacked.repacked c.in-Err.stop c.in_ok-repacked.ensures.told check (c.in-Err.ensures.told check)

pub returns-in-Err-clause-goes : goal.returns-in-Err-clause-goes
returns-in-Err-clause-goes g c =
    let check = is_so c.args.asked.now.check (λ n. let e = c.in-Err.ensures.unasked n in absurd cc) in
    not_verified c.args.input.now c.args.look.now c.args.files.now c.args.asked.now c.in_ok-repacked.repacked c.in-Err.stop _ _ _ check c.in_ok-repacked.ensures.goes c.in-Err.ensures.goes

pub returns-then-not-is_held-clause-goes : goal.returns-then-not-is_held-clause-goes
returns-then-not-is_held-clause-goes g c = not_held c.args.input.now c.args.look.now c.args.files.now c.args.asked.now c.in_ok-repacked.repacked _ _ _ c.in_ok-repacked.ensures.goes c.in-Ok.ensures.goes

pub returns-clause-told : goal.returns-clause-told
returns-clause-told g c = record {
  answer = c.in_ok-repacked.ensures.told.answer;
  verified = λ check. c.in-Ok.ensures.told check;
  smaller = c.in_ok-repacked.ensures.told.smaller;
}

pub returns-clause-goes : goal.returns-clause-goes
returns-clause-goes g c = prepared c.args.input.now c.args.look.now c.args.files.now c.args.asked.now c.in_ok-repacked.repacked _ _ _ c.in_ok-repacked.ensures.goes c.in-Ok.ensures.goes
