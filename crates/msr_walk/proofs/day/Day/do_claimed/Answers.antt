use Rattle.std.proofs.Common.{◌≡◌, rules, Err}
use Rattle.std.proofs.lemmas.Result.{err_from_is_err_and}
use Rattle.msr_walk.proofs.Days.{awaits_named, claims_none, does_named, handles_beside, handles_done}
use Rattle.msr_walk.proofs.day.Day.do_claimed.Goals as goal
use Rattle.msr_walk.proofs.day.Day.do_claimed.Goals.{in-Stamp, in-Nothing, in-Parts}

pub returns-in_default-clause-goes : goal.returns-in_default-clause-goes
returns-in_default-clause-goes g c = λ out reports within. handles_beside (λ handled. handled.outcome) c.args.self.now out reports c.args.work.now.asked _ _ _ (λ old new still. tt) (claims_none c.args.self.now _)

pub returns-in_err-end-clause-goes : goal.returns-in_err-end-clause-goes
returns-in_err-end-clause-goes g c =
    let at : c.as_str-2.result.now ≡ c.args.self.now.input = search rules in
    λ out reports within.
    let p = err_from_is_err_and c.from_residual.result c.from_residual.ensures.1 in
    rw p.1 (handles_done (λ handled. handled.outcome) c.args.self.now out reports c.args.work.now.asked c.number.result _ c.do_day-end.result (Err _) _ _ tt
    (does_named c.args.self.now c.in-Ok.files c.args.work.now.asked c.as_str-2.result.now c.number.result _ c.do_day-end.result _ _ at c.in-Ok.ensures c.do_day-end.ensures.goes))

pub returns-clause-goes : goal.returns-clause-goes
returns-clause-goes g c =
    let at : c.as_str-2.result.now ≡ c.args.self.now.input = search rules in
    λ out reports within.
    handles_done (λ handled. handled.outcome) c.args.self.now out reports c.args.work.now.asked c.number.result _ c.do_day-end.result _ _ _ (c.in_ok-end.field-0, c.in_ok-end.was, c.because-outcome.ensures)
    (does_named c.args.self.now c.in-Ok.files c.args.work.now.asked c.as_str-2.result.now c.number.result _ c.do_day-end.result _ _ at c.in-Ok.ensures c.do_day-end.ensures.goes)

pub returns-clause-waits : goal.returns-clause-waits
returns-clause-waits g c =
    let at : c.as_str-2.result.now ≡ c.args.self.now.input = search rules in
    elim c.match-end.branch [
      | in-Stamp w ↦ rw w.waiting-is (awaits_named c.args.self.now c.args.work.now.asked c.number.result c.in-Ok.files _ c.do_day-end.result _ _ c.in-Ok.ensures w.in-Stamp.is
          (does_named c.args.self.now c.in-Ok.files c.args.work.now.asked c.as_str-2.result.now c.number.result _ c.do_day-end.result _ _ at c.in-Ok.ensures c.do_day-end.ensures.goes))
      | in-Nothing w ↦ rw w.waiting-is tt
      | in-Parts w ↦ rw w.waiting-is tt
    ]
