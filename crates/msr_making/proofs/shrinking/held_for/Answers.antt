use Rattle.std.proofs.Common.{IsTrue, refl}
use Rattle.std.proofs.lemmas.Result.{err_from_is_err_and}
use Rattle.msr_making.proofs.Days.{unread_as}
use Rattle.msr_making.proofs.Fewer.{held_fewer, held_untold, held_well, if_some}
use Rattle.msr_making.proofs.shrinking.held_for.Goals as goal

pub returns-in_err-left-clause-told : goal.returns-in_err-left-clause-told
returns-in_err-left-clause-told g c = λ was.
    let p = err_from_is_err_and c.from_residual.result c.from_residual.ensures.1 in
    rw (p.1, p.2) (unread_as c.args.asked.now c.args.repacked c.args.written c.in_err-left.field-0.0 c.requires c.in_err-left.ensures.stops was)

pub returns-in_err-left-clause-goes : goal.returns-in_err-left-clause-goes
returns-in_err-left-clause-goes g c =
    let p = err_from_is_err_and c.from_residual.result c.from_residual.ensures.1 in
    rw (p.1, p.2) (held_untold c.args.files.now c.args.look.now c.args.asked.now c.args.repacked c.args.written c.in_err-left.field-0.0 _ _ c.requires c.in_err-left.ensures.stops c.in_err-left.ensures.goes)

pub returns-in-Some-clause-goes : goal.returns-in-Some-clause-goes
returns-in-Some-clause-goes g c =
    let more = c.in-Some.ensures.more in
    held_fewer c.args.files.now c.args.look.now c.args.asked.now c.args.repacked c.args.written c.in_ok-left.left c.in-Some.was _ _ c.requires
    (if_some (λ was. IsTrue c.args.asked.now.keep_old) c.in_ok-left.left c.in-Some.was more.0 c.in_ok-left.ensures.asked) more.0 more.1 c.in_ok-left.ensures.goes

pub returns-in-None-clause-goes : goal.returns-in-None-clause-goes
returns-in-None-clause-goes g c =
    held_well c.args.files.now c.args.look.now c.args.asked.now c.args.repacked c.args.written c.in_ok-left.left _ _ c.requires
    (c.in-None.ensures.rest refl) c.in_ok-left.ensures.goes
