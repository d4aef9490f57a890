use Rattle.std.proofs.Common.{Ok, Err}
use Rattle.msr_devices.specs.declared.fault.DeviceFault.TheVariants.{Memory}
use Rattle.msr_exchange.specs.Work.{names_in, stamp_in}
use Rattle.msr_tree.specs.declared.tree.TreeFault.TheVariants as fault
use Rattle.msr_replace.specs.Answers.{Replaces, report_in}
use Rattle.msr_replace.specs.Said.{IsOfReplaced}
use Rattle.msr_replace.specs.declared.lines.Outcome.{Outcome}
use Rattle.msr_replace.specs.declared.lines.Outcome.TheVariants.{Day, DayFailed}
use Rattle.msr_replace.specs.declared.replacer.Course.TheVariants as course
use Rattle.msr_replace.proofs.Saying.{does_of}
use Rattle.msr_replace.proofs.Touching.{touched_day}
use Rattle.msr_replace.proofs.visitor.replaced.Goals as goal

pub returns-in-Ok-clause-goes : goal.returns-in-Ok-clause-goes
returns-in-Ok-clause-goes g c =
    does_of {A = Outcome} course.Root c.args.work.now (Replaces c.args.work.now (names_in c.args.work.now c.args.path.now) (report_in c.args.work.now c.args.path.now) (stamp_in c.args.work.now c.args.path.now) (Ok c.in-Ok.answer)) (IsOfReplaced c.args.work.now c.args.path.now) (Ok (Day c.in-Ok.answer)) _ _
    (λ old new is. record { later = touched_day course.Root c.args.work.now c.args.path.now old new c.requires.day is.changes (Ok c.in-Ok.answer, is); says = is }) c.in-Ok.ensures

pub returns-in-Err-Failed-clause-goes : goal.returns-in-Err-Failed-clause-goes
returns-in-Err-Failed-clause-goes g c =
    does_of {A = Outcome} course.Root c.args.work.now (Replaces c.args.work.now (names_in c.args.work.now c.args.path.now) (report_in c.args.work.now c.args.path.now) (stamp_in c.args.work.now c.args.path.now) (Err fault.Failed)) (IsOfReplaced c.args.work.now c.args.path.now) (Ok DayFailed) _ _
    (λ old new is. record { later = touched_day course.Root c.args.work.now c.args.path.now old new c.requires.day is.changes (Err fault.Failed, is); says = is })
    (rw c.in-Err-Failed.field-0-is at c.in-Err-Failed.ensures)

pub returns-in-Err-Memory-clause-goes : goal.returns-in-Err-Memory-clause-goes
returns-in-Err-Memory-clause-goes g c =
    does_of {A = Outcome} course.Root c.args.work.now (Replaces c.args.work.now (names_in c.args.work.now c.args.path.now) (report_in c.args.work.now c.args.path.now) (stamp_in c.args.work.now c.args.path.now) (Err fault.Memory)) (IsOfReplaced c.args.work.now c.args.path.now) (Err Memory) _ _
    (λ old new is. record { later = touched_day course.Root c.args.work.now c.args.path.now old new c.requires.day is.changes (Err fault.Memory, is); says = tt })
    (rw c.in-Err-Memory.field-0-is at c.in-Err-Memory.ensures)
