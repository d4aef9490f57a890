use Rattle.std.proofs.Common.{inr, refl}
use Rattle.std.proofs.lemmas.List.Elements.{same_from_all_zip}
use Rattle.std.proofs.lemmas.Result.{err_from_is_err_and}
use Rattle.msr_command.proofs.Endings.{verify_unbegun, known_same, unread, unwalked}
use Rattle.msr_command.specs.declared.task_fault.TaskFault.TheVariants.{Tool}
use Rattle.msr_tool.specs.declared.fault.ToolFault.TheVariants as fault
use Rattle.msr_command.proofs.tasks.verify_known.Goals as goal

pub returns-in_err-lines-in-File : goal.returns-in_err-lines-in-File
returns-in_err-lines-in-File g c =
    let p = err_from_is_err_and c.from_residual.result c.from_residual.ensures.1 in
    rw (p.1, p.2) (verify_unbegun (g.F.NamedFiles.went c.args.files.now) c.args.asked.now (g.O.Sink.device c.args.output.now) _ (unread c.args.asked.now.known c.in-File.name _ c.in-File.is c.in_err-lines-in-File.ensures))

pub returns-in_default : goal.returns-in_default
returns-in_default g c =
    c.verify_watched-in_default.ensures c.args.asked.now (record { folders = refl; below = refl; names = refl; telling = refl; known = known_same c.args.asked.now.known c.in_default.not-File })

pub returns-in_default-clone : goal.returns-in_default-clone
returns-in_default-clone g c =
    verify_unbegun (g.F.NamedFiles.went c.args.files.now) c.args.asked.now (g.O.Sink.device c.args.output.now) (Tool fault.Memory) (unwalked c.args.asked.now.known (Tool fault.Memory) (inr refl))

pub returns-in-Ok : goal.returns-in-Ok
returns-in-Ok g c = c.verify_watched.ensures c.args.asked.now (record {
  folders = refl;
  below = same_from_all_zip _ _ _ c.in-Ok.ensures.cases.0 (λ x y same. same);
  names = refl;
  telling = refl;
  known = rw c.in-File.is refl;
})
