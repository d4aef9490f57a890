use Rattle.std.proofs.Common.{inl, refl}
use Rattle.std.proofs.lemmas.Result.{err_from_is_err_and}
use Rattle.msr_command.proofs.Endings.{replace_unbegun}
use Rattle.msr_command.proofs.Walks.{lent, replace_as}
use Rattle.msr_command.specs.declared.task_fault.TaskFault.TheVariants.{Overlap}
use Rattle.msr_command.proofs.replacing.replace_archive.Goals as goal

pub returns-in_err-prepared : goal.returns-in_err-prepared
returns-in_err-prepared g c =
    let p = err_from_is_err_and c.from_residual.result c.from_residual.ensures.1 in
    rw (p.1, p.2) (replace_unbegun (g.F.NamedFiles.went c.args.files.now) c.args.asked.now (g.O.Sink.device c.args.output.now) _
    c.in_err-prepared.ensures)

pub returns-then-not-stand_apart : goal.returns-then-not-stand_apart
returns-then-not-stand_apart g c =
    replace_unbegun (g.F.NamedFiles.went c.args.files.now) c.args.asked.now (g.O.Sink.device c.args.output.now) Overlap (inl (inl refl))

pub returns : goal.returns
returns g c =
    let before = g.F.NamedFiles.went c.args.files.now in
    let taken = g.F.Names.Tree.went c.lend-names.result.now in
    let left = g.F.Names.Tree.went c.replace_days.new.tree in
    let after = g.F.NamedFiles.went (g.F.NamedFiles.with_names c.args.files.now c.replace_days.new.tree) in
    let out0 = g.O.Sink.device c.args.output.now in
    let out = g.O.Sink.device c.replace_days.new.output in
    replace_as taken left before after out0 out0 out (λ printed takes. takes)
    (λ R does. lent before taken left after R c.lend-names.ensures.lends (c.lend-names.ensures.keeps c.replace_days.new.tree) does) c.args.asked.now c.replace_days.result c.replace_days.ensures
