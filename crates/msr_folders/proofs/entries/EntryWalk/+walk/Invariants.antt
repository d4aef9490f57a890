use Rattle.std.proofs.Common.{◌+◌, ◌*◌, true, take}
use Rattle.msr_devices.specs.Device.{CanCountCall}
use Rattle.msr_folders.specs.Entries.{IsMoment}
use Rattle.msr_folders.specs.Walks.{HoldsAt, TellsWalk}
use Rattle.msr_folders.specs.Opening.{AreSoFar}
use Rattle.msr_tree.specs.Listing.{listed}
use Rattle.msr_folders.proofs.entries.EntryWalk.+walk.Given as goal

abbrev pub decreases-visit_path : goal.decreases-visit_path
decreases-visit_path g l = l.levels * 2

abbrev pub decreases-visit_folder : goal.decreases-visit_folder
decreases-visit_folder g l = l.levels * 2 + 1

-- the entries so far were visited, what holds between visits holds, and the calls can be counted
abbrev pub invariant-visit_folder-loop-name : goal.invariant-visit_folder-loop-name
invariant-visit_folder-loop-name g l = record {
  visited : TellsWalk (g.V.EntryVisitor.tells l.self.visitor.now) (g.V.EntryVisitor.says l.self.visitor.now)
      (g.V.EntryVisitor.does l.self.visitor.now true) (g.V.EntryVisitor.between l.self.visitor.now) (g.V.EntryVisitor.listless l.self.visitor.now) l.self.root.now
      (λ past new. AreSoFar (IsMoment (g.V.EntryVisitor.does l.self.visitor.now true) new) l.self.root.now l.fn.levels l.fn.folder
      (listed l.name-items) (take l.name-index (listed l.name-items)) past)
      (g.T.Tree.went l.fn.tree) (g.T.Tree.went l.tree) (g.O.Sink.device l.fn.out) (g.O.Sink.device l.out) l.fn.tally l.tally;
  holds : HoldsAt (g.T.Tree.went l.tree) (g.V.EntryVisitor.holds l.self.visitor.now l.tally);
  count : CanCountCall (g.O.Sink.device l.out);
}
