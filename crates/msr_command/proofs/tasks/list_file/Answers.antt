use Rattle.std.proofs.Common.{◌≡◌, codes, rules}
use Rattle.msr_command.specs.Named.{IsReaderOf}
use Rattle.msr_command.proofs.Endings.{list_unread, over_named}
use Rattle.msr_command.proofs.Inputs.{comes_file, comes_standard}
use Rattle.msr_command.proofs.tasks.list_file.Goals as goal

pub returns-in-Err : goal.returns-in-Err
returns-in-Err g c =
    list_unread c.args.asked.now.form c.args.asked.now.options (g.F.NamedFiles.went c.args.files.now)
    c.args.asked.now.input.now (g.I.Source.device c.args.input.now)
    (g.O.Sink.device c.args.output.now) c.in-Err.fault c.in-Err.ensures.stop

pub returns-in-Ok-None-default : goal.returns-in-Ok-None-default
returns-in-Ok-None-default g c =
    let is : c.args.asked.now.input.now ≡ codes "-" = search rules in
    let does = c.list_from.ensures in
    over_named does (λ opened. comes_standard is (does.come tt))

pub returns-in-Ok-Some-default : goal.returns-in-Ok-Some-default
returns-in-Ok-Some-default g c =
    let no_name : c.args.asked.now.input.now ≡ codes "-" → ⊥ = search rules in
    let reads : IsReaderOf (g.F.NamedFiles.went c.args.files.now) c.args.asked.now.input.now (g.F.Reader.Source.device c.in-Ok-Some-default.file) =
    search rules in
    let does = c.list_from-in-Ok-Some-default.ensures in
    over_named does (λ opened. comes_file no_name reads (does.come tt))
