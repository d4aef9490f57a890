use Rattle.std.proofs.Common.{subst, OnOk}
use Rattle.msr_folders.proofs.ReadingLemmas.{reads_same}
use Rattle.msr_folders.proofs.WalkedLemmas.{on_ok_as, tells_now}
use Rattle.msr_folders.specs.Entries.{AreEntriesOf}
use Rattle.msr_folders.specs.Walks.{TellsWalk}
use Rattle.msr_tree.specs.Reads.{OnlyReads}
use Rattle.msr_trial.specs.Entries.{IsTrialOfVisit}
use Rattle.msr_trial.specs.Walk.{TellsTrial}
use Rattle.msr_trial.proofs.walk.visit_archive.Goals as goal

pub returns-clause-told : goal.returns-clause-told
returns-clause-told g c =
    let asked = c.args.trier.now.asked.now in
    subst (λ below. OnOk c.visit_entries.result (TellsWalk (TellsTrial asked.days) (IsTrialOfVisit asked.root.now asked.days) OnlyReads OnlyReads (Unit {0})
    asked.root.now (λ past new. AreEntriesOf past asked.root.now below) (g.T.Tree.went c.args.tree.now) (g.T.Tree.went c.visit_entries.new.tree)
    (g.O.Sink.device c.args.out.now) (g.O.Sink.device c.visit_entries.new.out) c.args.tally.now c.visit_entries.new.tally))
    c.as_slice.ensures.value
    (on_ok_as c.visit_entries.result (λ told. tells_now (TellsTrial asked.days) (IsTrialOfVisit asked.root.now asked.days) OnlyReads OnlyReads (Unit {0})
    asked.root.now c.as_slice.result.now (g.T.Tree.went c.args.tree.now) (g.T.Tree.went c.visit_entries.new.tree)
    (g.O.Sink.device c.args.out.now) (g.O.Sink.device c.visit_entries.new.out) c.args.tally.now c.visit_entries.new.tally
    (λ old new reads. reads_same asked.root.now old new reads) told) c.visit_entries.ensures.told)
