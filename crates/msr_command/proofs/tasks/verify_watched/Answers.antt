use Rattle.msr_command.proofs.Walks.{verify_known_as, cleared, lent}
use Rattle.msr_command.proofs.tasks.verify_watched.Goals as goal

pub returns : goal.returns
returns g c =
    let before = g.F.NamedFiles.went c.args.files.now in
    let taken = g.F.Names.Tree.went c.lend-names.result.now in
    let left = g.F.Names.Tree.went c.verify_read-found.new.tree in
    let after = g.F.NamedFiles.went c.clear.new.self in
    let out0 = g.O.Sink.device c.args.output.now in
    let out = g.O.Sink.device c.verify_read-found.new.output in
    λ asked is. verify_known_as taken left before after out0 out0 out (λ printed takes. takes)
    (λ R does. lent before taken left after R c.lend-names.ensures.lends (cleared (c.lend-names.ensures.keeps c.verify_read-found.new.tree) c.clear.ensures) does) asked c.verify_read-found.result (c.verify_read-found.ensures asked is)
