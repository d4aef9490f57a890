use Rattle.std.proofs.Common.{[], inl, inr, refl, Ok, Err}
use Rattle.msr_folders.proofs.WalkedLemmas.{on_ok_as}
use Rattle.msr_folders.specs.Entries.{Left}
use Rattle.msr_tree.proofs.Changes.{changes_none}
use Rattle.msr_tree.specs.Acts.{Acts}
use Rattle.msr_tree.specs.declared.tree.TreeFault.TheVariants as fault
use Rattle.msr_exchange.specs.Moves.{Anything}
use Rattle.msr_replace.specs.Said.{only_line}
use Rattle.msr_replace.specs.declared.lines.Outcome.TheVariants.{FolderFailed}
use Rattle.msr_replace.proofs.LinesTold.{none_told}
use Rattle.msr_replace.proofs.Saying.{none_said, visited, visited_still}
use Rattle.msr_replace.proofs.Touching.{touched_none, visit_does, visit_still}
use Rattle.msr_replace.proofs.visitor.ReplacerEntryVisitor.leave_folder.Goals as goal

pub returns-then-levels-gt0-clause-told : goal.returns-then-levels-gt0-clause-told
returns-then-levels-gt0-clause-told g c =
    visited_still c.args.self.now.course c.args.self.now.work (Left c.args.folder.now) [] (g.T.Tree.went c.args.tree.now)
    (g.O.Sink.device c.args.out.now) (g.O.Sink.device c.args.out.now) c.args.progress.now c.args.progress.now
    (λ past. (inl refl, changes_none [] past)) (none_said (g.O.Sink.device c.args.out.now) c.args.progress.now)

pub returns-in-Ok-clause-told : goal.returns-in-Ok-clause-told
returns-in-Ok-clause-told g c =
    visited c.args.self.now.course c.args.self.now.work (Left c.args.folder.now) [] (Acts [] (Anything {T = Unit {0}}) (Ok tt))
    (g.T.Tree.went c.args.tree.now) (g.T.Tree.went c.end_folder.new.tree)
    (g.O.Sink.device c.args.out.now) (g.O.Sink.device c.args.out.now) c.args.progress.now c.args.progress.now
    (λ old new is. (touched_none c.args.self.now.course c.args.self.now.work old new is.changes, (inl refl, is.changes))) c.in-Ok.ensures (none_said (g.O.Sink.device c.args.out.now) c.args.progress.now)

pub returns-in-Err-Memory-clause-stops : goal.returns-in-Err-Memory-clause-stops
returns-in-Err-Memory-clause-stops g c = none_told (g.O.Sink.device c.args.out.now)

pub returns-in-Err-Failed-clause-told : goal.returns-in-Err-Failed-clause-told
returns-in-Err-Failed-clause-told g c =
    on_ok_as c.tell.result (λ told. visited c.args.self.now.course c.args.self.now.work (Left c.args.folder.now) (only_line c.args.folder.now FolderFailed) (Acts [] (Anything {T = Unit {0}}) (Err fault.Failed))
    (g.T.Tree.went c.args.tree.now) (g.T.Tree.went c.end_folder.new.tree)
    (g.O.Sink.device c.args.out.now) (g.O.Sink.device c.tell.new.out) c.args.progress.now c.tell.new.progress
    (λ old new is. (touched_none c.args.self.now.course c.args.self.now.work old new is.changes, (inr (refl, is.cause refl), is.changes))) (rw c.in-Err-Failed.field-0-is at c.in-Err-Failed.ensures) told) c.tell.ensures.told

pub returns-then-levels-gt0-clause-does : goal.returns-then-levels-gt0-clause-does
returns-then-levels-gt0-clause-does g c = visit_still c.args.self.now.course c.args.self.now.work (g.T.Tree.went c.args.tree.now)

pub returns-in-Ok-clause-does : goal.returns-in-Ok-clause-does
returns-in-Ok-clause-does g c =
    visit_does c.args.self.now.course c.args.self.now.work (Acts [] (Anything {T = Unit {0}}) (Ok tt)) (g.T.Tree.went c.args.tree.now) (g.T.Tree.went c.end_folder.new.tree)
    (λ old new is. touched_none c.args.self.now.course c.args.self.now.work old new is.changes) c.in-Ok.ensures

pub returns-in-Err-Memory-clause-does : goal.returns-in-Err-Memory-clause-does
returns-in-Err-Memory-clause-does g c =
    visit_does c.args.self.now.course c.args.self.now.work (Acts [] (Anything {T = Unit {0}}) (Err fault.Memory)) (g.T.Tree.went c.args.tree.now) (g.T.Tree.went c.end_folder.new.tree)
    (λ old new is. touched_none c.args.self.now.course c.args.self.now.work old new is.changes) (rw c.in-Err-Memory.field-0-is at c.in-Err-Memory.ensures)

pub returns-in-Err-Failed-clause-does : goal.returns-in-Err-Failed-clause-does
returns-in-Err-Failed-clause-does g c =
    visit_does c.args.self.now.course c.args.self.now.work (Acts [] (Anything {T = Unit {0}}) (Err fault.Failed)) (g.T.Tree.went c.args.tree.now) (g.T.Tree.went c.end_folder.new.tree)
    (λ old new is. touched_none c.args.self.now.course c.args.self.now.work old new is.changes) (rw c.in-Err-Failed.field-0-is at c.in-Err-Failed.ensures)
