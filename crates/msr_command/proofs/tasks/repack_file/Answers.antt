use Rattle.std.proofs.Common.{◌≡◌, codes, rules}
use Rattle.msr_command.specs.Named.{IsReaderOf}
use Rattle.msr_command.proofs.Endings.{over_named, repack_unread}
use Rattle.msr_command.proofs.Inputs.{comes_file, comes_standard}
use Rattle.msr_command.proofs.tasks.repack_file.Goals as goal

pub returns-in-Err : goal.returns-in-Err
returns-in-Err g c =
    repack_unread (g.F.NamedFiles.went c.args.files.now) (g.F.NamedFiles.went c.args.files.now) c.args.asked.now
    (g.I.Source.device c.args.input.now) (g.O.Sink.device c.args.output.now) c.in-Err.fault c.in-Err.ensures.stop

pub returns-in-None : goal.returns-in-None
returns-in-None g c =
    let is : c.args.asked.now.input.now ≡ codes "-" = search rules in
    let does = c.repack_from.ensures in
    over_named does (λ opened. comes_standard is (does.come tt))

pub returns-in-Some : goal.returns-in-Some
returns-in-Some g c =
    let no_name : c.args.asked.now.input.now ≡ codes "-" → ⊥ = search rules in
    let reads : IsReaderOf (g.F.NamedFiles.went c.args.files.now) c.args.asked.now.input.now (g.F.Reader.Source.device c.in-Some.file) =
    search rules in
    let does = c.repack_from-in-Some.ensures in
    over_named does (λ opened. comes_file no_name reads (does.come tt))
