use Rattle.std.proofs.Common.{◌∙◌, Err, Result, ap, subst}
use Rattle.msr_making.specs.Ending.{IsRepackedAs}
use Rattle.msr_making.specs.declared.answer.Repacked.{Repacked}
use Rattle.msr_making.specs.declared.answer.Stop.{Stop}
use Rattle.msr_making.proofs.Days.{ended_was}
use Rattle.msr_making.proofs.Ended.{both_true, done_so, given_up, one_false, stopped_so}
use Rattle.msr_making.proofs.making.do_found.Goals as goal

pub returns-in-Ok-clause-told : goal.returns-in-Ok-clause-told
returns-in-Ok-clause-told g c = subst (λ (r : Result Repacked Stop). IsRepackedAs c.args.asked.now r) c.in-Ok.is c.make_day-making.ensures.told

pub returns-in-Ok-clause-goes : goal.returns-in-Ok-clause-goes
returns-in-Ok-clause-goes g c = done_so c.args.input.now c.args.look.now c.args.files.now c.args.was_left c.args.asked.now c.is_untouched-is_free.result c.is_untouched-is_free.ensures c.make_day-making.result c.in-Ok.repacked c.stamp_asked.result _ _ _ c.in-Ok.is c.make_day-making.ensures.goes c.stamp_asked.ensures

pub returns-in-Refused-clause-told : goal.returns-in-Refused-clause-told
returns-in-Refused-clause-told g c = ended_was c.args.asked.now c.in-Refused.why c.give_up-end.result.outcome (subst (λ (r : Result Repacked Stop). IsRepackedAs c.args.asked.now r) (c.in-Err.is ∙ ap (λ s. Err s) c.in-Refused.is) c.make_day-making.ensures.told) c.give_up-end.ensures.told

pub returns-in-Refused-clause-goes : goal.returns-in-Refused-clause-goes
returns-in-Refused-clause-goes g c = given_up c.args.input.now c.args.look.now c.args.files.now c.args.was_left c.args.asked.now c.is_untouched-is_free.result c.is_untouched-is_free.ensures c.make_day-making.result c.in-Refused.why c.give_up-end.result _ _ _ _ (c.in-Err.is ∙ ap (λ s. Err s) c.in-Refused.is) (both_true c.give_up-end.result.is_stored c.make_day-making.result.is_stored) (one_false c.give_up-end.result.is_stored c.make_day-making.result.is_stored) c.make_day-making.ensures.goes c.give_up-end.ensures.goes

pub returns-in-Memory-clause-goes : goal.returns-in-Memory-clause-goes
returns-in-Memory-clause-goes g c = stopped_so c.args.input.now c.args.look.now c.args.files.now c.args.was_left c.args.asked.now c.is_untouched-is_free.result c.is_untouched-is_free.ensures c.make_day-making.result _ _ _ c.make_day-making.ensures.goes
