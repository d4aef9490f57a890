use Rattle.std.proofs.lemmas.Result.{err_from_is_err_and}
use Rattle.msr_trial.proofs.Packed.{day_memory, day_tried, for_day, goes_looks_then, tried_if}
use Rattle.msr_trial.proofs.day.try_day.Goals as goal

pub returns-in_err-length-clause-goes : goal.returns-in_err-length-clause-goes
returns-in_err-length-clause-goes g c =
    let p = err_from_is_err_and c.from_residual-in_err-length.result c.from_residual-in_err-length.ensures.1 in
    rw (p.1, p.2) (day_memory c.args.days.now c.args.input.now _ _ _
    (goes_looks_then _ _ _ c.in_ok-is_young.ensures.looks c.in_err-length.ensures.looks))

pub returns-clause-told : goal.returns-clause-told
returns-clause-told g c = tried_if c.args.days.now c.in_length.result c.try_file.result
    (for_day c.args.days.now c.in_length.result c.in_ok-length.length c.in_length.ensures c.in_ok-length.ensures.own) c.try_file.ensures.told

pub returns-clause-goes : goal.returns-clause-goes
returns-clause-goes g c = day_tried c.args.days.now c.in_length.result c.args.input.now c.try_file.result _ _ _
    (for_day c.args.days.now c.in_length.result c.in_ok-length.length c.in_length.ensures c.in_ok-length.ensures.own)
    (goes_looks_then _ _ _ c.in_ok-is_young.ensures.looks c.in_ok-length.ensures.looks) c.try_file.ensures.goes
