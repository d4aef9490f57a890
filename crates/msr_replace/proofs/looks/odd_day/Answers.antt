use Rattle.std.proofs.Common.{[], Bool, Option, Some}
use Rattle.std.proofs.lemmas.Result.{err_from_is_err_and}
use Rattle.msr_tree.proofs.Acting.{stopped_as}
use Rattle.msr_replace.specs.Looks.{RefusesByWays, RefusesWhole, TellsOwn}
use Rattle.msr_replace.specs.declared.answers.DayRefusal.{DayRefusal}
use Rattle.msr_replace.specs.declared.answers.DayRefusal.TheVariants.{SameFile}
use Rattle.msr_replace.proofs.Judged.{by_ways, told_after, told_then}
use Rattle.msr_replace.proofs.looks.odd_day.Goals as goal

pub returns-in_err-is_own : goal.returns-in_err-is_own
returns-in_err-is_own g c =
    let p = err_from_is_err_and c.from_residual.result c.from_residual.ensures.1 in
    rw (p.1, p.2) (stopped_as {A = Bool} {B = Option DayRefusal} [] (TellsOwn c.args.file c.args.records)
    (RefusesWhole c.args.work.now c.args.names.now c.args.path.now c.args.file c.args.records) _ _ _ c.in_err-is_own.ensures)

pub returns-then-branch : goal.returns-then-branch
returns-then-branch g c =
    told_after {A = Bool} {B = Option DayRefusal} (TellsOwn c.args.file c.args.records) (RefusesWhole c.args.work.now c.args.names.now c.args.path.now c.args.file c.args.records)
    c.in_ok-is_own.field-0 (Some SameFile) _ _
    (λ p q ch own have. let one = own c.if-branch.true in record { file = c.args.file; records = c.args.records; have = have; device = one.0; number = one.1 }) c.in_ok-is_own.ensures

pub returns : goal.returns
returns g c =
    told_then {A = Bool} {B = Option DayRefusal} (TellsOwn c.args.file c.args.records) (RefusesByWays c.args.work.now c.args.path.now)
    (RefusesWhole c.args.work.now c.args.names.now c.args.path.now c.args.file c.args.records) c.in_ok-is_own.field-0 _ _ _ _
    (λ p q r b ch later own ways have. by_ways c.args.work.now c.args.names.now c.args.path.now p q r b ch ways) c.in_ok-is_own.ensures c.odd_way.ensures
