use Rattle.msr_command.proofs.Walks.{trial_as, cleared, lent}
use Rattle.msr_command.proofs.trying.try_watched.Goals as goal

pub returns : goal.returns
returns g c =
    let before = g.F.NamedFiles.went c.args.files.now in
    let taken = g.F.Names.Tree.went c.lend-names.result.now in
    let left = g.F.Names.Tree.went c.try_archive-tried.new.tree in
    let after = g.F.NamedFiles.went c.clear.new.self in
    let out0 = g.O.Sink.device c.args.output.now in
    let out = g.O.Sink.device c.try_archive-tried.new.output in
    trial_as taken left before after out0 out0 out (λ printed takes. takes)
    (λ R does. lent before taken left after R c.lend-names.ensures.lends (cleared (c.lend-names.ensures.keeps c.try_archive-tried.new.tree) c.clear.ensures) does) c.args.asked.now c.try_archive-tried.result c.try_archive-tried.ensures
