use Rattle.std.proofs.Common.{refl}
use Rattle.msr_verify.specs.Files.{IsToldOfRoot, names_asked}
use Rattle.msr_folders.proofs.ReadingLemmas.{visits_nothing}
use Rattle.msr_verify.proofs.VisitedLemmas.{left_quiet}
use Rattle.msr_verify.proofs.visitors.JudgingEntryVisitor.leave_folder.Goals as goal

pub returns-clause-told : goal.returns-clause-told
returns-clause-told g c =
    let archive = c.args.self.now.archive.now in
    left_quiet archive (IsToldOfRoot archive.known (names_asked archive.names) archive.folders.root.now archive.folders.out.now archive.folders.reports.now) c.args._folder.now
    (g.T.Tree.went c.args._tree.now) (g.O.Sink.device c.args._out.now) c.args._tally.now (λ past. refl)

pub returns-clause-does : goal.returns-clause-does
returns-clause-does g c = visits_nothing (g.T.Tree.went c.args._tree.now)
