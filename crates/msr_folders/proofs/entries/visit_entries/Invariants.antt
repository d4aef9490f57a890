use Rattle.std.proofs.Common.{true, take}
use Rattle.msr_devices.specs.Device.{CanCountCall}
use Rattle.msr_folders.specs.Entries.{AreEntriesBelow, ForEach, IsMoment}
use Rattle.msr_folders.specs.Walks.{HoldsAt, TellsWalk}
use Rattle.msr_folders.proofs.entries.visit_entries.Given as goal

-- the folders so far were visited, what holds between visits holds, and the calls can be counted
abbrev pub invariant-loop-folder : goal.invariant-loop-folder
invariant-loop-folder g l = record {
  visited : TellsWalk (g.V.EntryVisitor.tells l.fn.walk.visitor.now) (g.V.EntryVisitor.says l.fn.walk.visitor.now)
      (g.V.EntryVisitor.does l.fn.walk.visitor.now true) (g.V.EntryVisitor.between l.fn.walk.visitor.now) (g.V.EntryVisitor.listless l.fn.walk.visitor.now) l.fn.walk.root.now
      (λ past new. ForEach (AreEntriesBelow (IsMoment (g.V.EntryVisitor.does l.fn.walk.visitor.now true) new) past l.fn.walk.root.now) (take l.folder-index l.fn.walk.below.now))
      (g.T.Tree.went l.fn.tree) (g.T.Tree.went l.tree) (g.O.Sink.device l.fn.out) (g.O.Sink.device l.out) l.fn.tally l.tally;
  holds : HoldsAt (g.T.Tree.went l.tree) (g.V.EntryVisitor.holds l.fn.walk.visitor.now l.tally);
  count : CanCountCall (g.O.Sink.device l.out);
}
