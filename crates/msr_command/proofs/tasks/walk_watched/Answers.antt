use Rattle.msr_command.proofs.Walks.{known_as, cleared, lent}
use Rattle.msr_command.proofs.tasks.walk_watched.Goals as goal

pub returns : goal.returns
returns g c =
    let before = g.F.NamedFiles.went c.args.files.now in
    let taken = g.F.Unlinked.Tree.went c.lend_unlinked-names.result.now in
    let left = g.F.Unlinked.Tree.went c.walk_archive-walked.new.tree in
    let after = g.F.NamedFiles.went c.clear.new.self in
    let out0 = g.O.Sink.device c.args.output.now in
    let out = g.O.Sink.device c.walk_archive-walked.new.output in
    λ asked is. known_as taken left before after out0 out0 out (λ printed takes. takes)
    (λ R does. lent before taken left after R c.lend_unlinked-names.ensures.lends (cleared (c.lend_unlinked-names.ensures.keeps c.walk_archive-walked.new.tree) c.clear.ensures) does) asked c.walk_archive-walked.result (c.walk_archive-walked.ensures asked is)
