use Rattle.std.proofs.Common.{refl}
use Rattle.msr_folders.proofs.WalkedLemmas.{on_ok_as}
use Rattle.msr_walk.proofs.Archive.{changes_and_left, told_and_left}
use Rattle.msr_walk.proofs.walker.Walker.visit.Goals as goal

pub returns-clause-told : goal.returns-clause-told
returns-clause-told g c =
    on_ok_as c.visit_entries-visited.result (λ told. told_and_left (λ of. of.tally) c.args.self.now.archive.now c.args.self.now.apart c.as_slice.result.now
    _ _ _ _ _ _ _ _ c.as_slice.ensures.value refl told _ c.settle.ensures.works) c.visit_entries-visited.ensures.told

pub returns-clause-does : goal.returns-clause-does
returns-clause-does g c = changes_and_left c.args.self.now.archive.now c.args.self.now.apart _ _ _ _ _ c.visit_entries-visited.ensures.does c.settle.ensures.works
