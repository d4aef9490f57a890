use Rattle.std.proofs.Common.{subst, OnOk}
use Rattle.msr_folders.proofs.ReadingLemmas.{reads_same}
use Rattle.msr_folders.proofs.WalkedLemmas.{on_ok_as, tells_now}
use Rattle.msr_folders.specs.Entries.{AreEntriesOf}
use Rattle.msr_folders.specs.Walks.{TellsWalk}
use Rattle.msr_tree.specs.Reads.{OnlyReads}
use Rattle.msr_verify.specs.Files.{IsToldOfOut}
use Rattle.msr_verify.specs.Walk.{TellsEntries}
use Rattle.msr_verify.proofs.folders.walk_records.Goals as goal

pub returns-clause-told : goal.returns-clause-told
returns-clause-told g c =
    let archive = c.args.archive.now in
    let folders = archive.folders in
    subst (λ below. OnOk c.visit_entries.result (TellsWalk (TellsEntries archive) (IsToldOfOut archive.known folders.root.now folders.out.now) OnlyReads OnlyReads (Unit {0})
    folders.out.now (λ past new. AreEntriesOf past folders.out.now below) (g.T.Tree.went c.args.tree.now) (g.T.Tree.went c.visit_entries.new.tree)
    (g.O.Sink.device c.args.out.now) (g.O.Sink.device c.visit_entries.new.out) c.args.tally.now c.visit_entries.new.tally))
    c.as_slice.ensures.value
    (on_ok_as c.visit_entries.result (λ told. tells_now (TellsEntries archive) (IsToldOfOut archive.known folders.root.now folders.out.now) OnlyReads OnlyReads (Unit {0})
    folders.out.now c.as_slice.result.now (g.T.Tree.went c.args.tree.now) (g.T.Tree.went c.visit_entries.new.tree)
    (g.O.Sink.device c.args.out.now) (g.O.Sink.device c.visit_entries.new.out) c.args.tally.now c.visit_entries.new.tally
    (λ old new reads. reads_same folders.out.now old new reads) told) c.visit_entries.ensures.told)
