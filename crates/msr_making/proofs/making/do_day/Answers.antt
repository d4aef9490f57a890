use Rattle.msr_making.proofs.Ended.{day_found, day_left, day_stopped, seeks_at}
use Rattle.msr_making.proofs.making.do_day.Goals as goal

pub returns-in-Ok-Ended-clause-told : goal.returns-in-Ok-Ended-clause-told
returns-in-Ok-Ended-clause-told g c = rw c.in-Ok-Ended.field-0-is at c.in-Ok-Ended.ensures.told

pub returns-in-Ok-Ended-clause-goes : goal.returns-in-Ok-Ended-clause-goes
returns-in-Ok-Ended-clause-goes g c = day_left c.args.input.now c.args.files.now c.args.was_left c.args.asked.now c.in-Ok-Ended.outcome c.of_ended.result _ _ c.of_ended.ensures (seeks_at _ _ _ _ _ _ c.places_of.ensures (rw c.in-Ok-Ended.field-0-is at c.in-Ok-Ended.ensures.goes))

pub returns-in-Ok-Open-clause-told : goal.returns-in-Ok-Open-clause-told
returns-in-Ok-Open-clause-told g c = c.do_found.ensures.told

pub returns-in-Ok-Open-clause-goes : goal.returns-in-Ok-Open-clause-goes
returns-in-Ok-Open-clause-goes g c = day_found c.args.input.now c.args.files.now c.args.was_left c.args.asked.now c.in-Ok-Open.look c.do_found.result _ _ _ (seeks_at _ _ _ _ _ _ c.places_of.ensures (rw c.in-Ok-Open.field-0-is at c.in-Ok-Open.ensures.goes)) c.do_found.ensures.goes

pub returns-in-Err-clause-goes : goal.returns-in-Err-clause-goes
returns-in-Err-clause-goes g c = day_stopped c.args.input.now c.args.files.now c.args.was_left c.args.asked.now _ _ c.of_untouched.result _ _ c.of_untouched.ensures (seeks_at _ _ _ _ _ _ c.places_of.ensures c.in-Err.ensures.goes)
