use Rattle.std.proofs.Common.{inl, refl}
use Rattle.std.proofs.lemmas.Result.{err_from_is_err_and}
use Rattle.msr_command.specs.declared.task_fault.TaskFault.TheVariants.{Overlap}
use Rattle.msr_command.proofs.Endings.{archive_unbegun, unwalked}
use Rattle.msr_command.proofs.tasks.repack_archive.Goals as goal

pub returns-then-not-stand_apart : goal.returns-then-not-stand_apart
returns-then-not-stand_apart g c =
    archive_unbegun (g.F.NamedFiles.went c.args.files.now) c.args.asked.now (g.O.Sink.device c.args.output.now) Overlap (unwalked c.args.asked.now.known Overlap (inl refl))

pub returns-in_err-require_apart : goal.returns-in_err-require_apart
returns-in_err-require_apart g c =
    let p = err_from_is_err_and c.from_residual.result c.from_residual.ensures.1 in
    rw (p.1, p.2) (archive_unbegun (g.F.NamedFiles.went c.args.files.now) c.args.asked.now (g.O.Sink.device c.args.output.now) _ (unwalked c.args.asked.now.known _ c.in_err-require_apart.ensures))

pub returns-in_err-walked : goal.returns-in_err-walked
returns-in_err-walked g c =
    let p = err_from_is_err_and c.from_residual-in_err-walked.result c.from_residual-in_err-walked.ensures.1 in
    rw (p.1, p.2) c.in_err-walked.ensures

pub returns : goal.returns
returns g c = rw (c.of_walk.ensures, c.is_empty.ensures) c.in_ok-walked.ensures
