use Rattle.std.proofs.Common.{◌≡◌, ◌+◌, ◌++◌, ◌∙◌, false, true, List, ℕ, [], ◌∷◌, sym, ap, subst, take, get_or, length, arith}
use Rattle.std.proofs.Math.Seq.{take-length}
use Rattle.std.proofs.lemmas.List.{take_more}
use Rattle.std.proofs.lemmas.Result.{err_from_is_err_and}
use Rattle.std.specs.Borrow.{Bor}
use Rattle.msr_tree.specs.Steps.{Path}
use Rattle.msr_folders.proofs.WalkedLemmas.{does_both, does_walk, is_nothing, next_below, no_folder_yet, on_ok_as, stops_later, told_can_count, walked_folders}
use Rattle.msr_folders.specs.Entries.{AreEntriesBelow, AreEntriesBetween, ForEach, IsMoment}
use Rattle.msr_folders.specs.Walks.{TellsWalk}
use Rattle.msr_folders.proofs.entries.visit_entries.Goals as goal

pub returns-then-is_empty-clause-told : goal.returns-then-is_empty-clause-told
returns-then-is_empty-clause-told g c =
    let visitor = c.args.walk.now.visitor.now in
    let root : Path = c.args.walk.now.root.now in
    let none : c.args.walk.now.below.now ≡ [] = is_nothing c.args.walk.now.below.now c.is_empty.result c.is_empty.ensures c.if-is_empty.true in
    on_ok_as c.visit_folder.result (λ told. subst (λ folders. TellsWalk (g.V.EntryVisitor.tells visitor) (g.V.EntryVisitor.says visitor)
    (g.V.EntryVisitor.does visitor true) (g.V.EntryVisitor.between visitor) (g.V.EntryVisitor.listless visitor) root (λ past new. AreEntriesBetween (g.V.EntryVisitor.does visitor true) past new root folders)
    (g.T.Tree.went c.args.tree.now) (g.T.Tree.went c.visit_folder.new.tree)
    (g.O.Sink.device c.args.out.now) (g.O.Sink.device c.visit_folder.new.out) c.args.tally.now c.visit_folder.new.tally) (sym none) told)
    c.visit_folder.ensures.told

pub returns-then-is_empty-clause-stops : goal.returns-then-is_empty-clause-stops
returns-then-is_empty-clause-stops g c = c.visit_folder.ensures.stops

pub returns-then-is_empty-clause-does : goal.returns-then-is_empty-clause-does
returns-then-is_empty-clause-does g c = c.visit_folder.ensures.does

pub returns-then-is_empty-clause-holds : goal.returns-then-is_empty-clause-holds
returns-then-is_empty-clause-holds g c = c.visit_folder.ensures.holds

pub loop-folder-init : goal.loop-folder-init
loop-folder-init g c = record {
  visited = no_folder_yet g.V.EntryVisitor.tells g.V.EntryVisitor.stops g.V.EntryVisitor.says g.V.EntryVisitor.does g.V.EntryVisitor.between g.V.EntryVisitor.listless
      g.met.V.EntryVisitor.laws c.args.walk.now.visitor.now c.args.walk.now.root.now
      (g.T.Tree.went c.args.tree.now) (g.O.Sink.device c.args.out.now) c.args.tally.now;
  holds = c.requires.holds;
  count = c.requires.count;
}

pub loop-folder-preserved : goal.loop-folder-preserved
loop-folder-preserved g c =
    let folders : List (Bor Path) = c.args.walk.now.below.now in
    let i : ℕ = c.loop-folder.folder-index in
    let none : Bor Path = record { ref_ptr = (0, 0); now = [] } in
    let folder : Bor Path = get_or folders i none in
    let one_more : take (i + 1) folders ≡ take i folders ++ folder ∷ [] = take_more folders i none c.loop-folder-test.true in
    let visited = c.in_ok-visit_folder.ensures.told in
    record {
      visited = rw one_more (next_below g.V.EntryVisitor.tells g.V.EntryVisitor.stops g.V.EntryVisitor.says g.V.EntryVisitor.does g.V.EntryVisitor.between g.V.EntryVisitor.listless
          g.met.V.EntryVisitor.laws c.args.walk.now.visitor.now c.args.walk.now.root.now _ c.levels_below.result folder (take i folders)
          (g.T.Tree.went c.args.tree.now) (g.T.Tree.went c.loop-folder.tree) (g.T.Tree.went c.visit_folder-in-loop-folder.new.tree)
          (g.O.Sink.device c.args.out.now) (g.O.Sink.device c.loop-folder.out) (g.O.Sink.device c.visit_folder-in-loop-folder.new.out)
          c.args.tally.now c.loop-folder.tally c.visit_folder-in-loop-folder.new.tally
          c.levels_below.ensures c.unwrap_or-levels.ensures c.loop-folder.invariant.visited visited);
      holds = c.visit_folder-in-loop-folder.ensures.holds;
      count = told_can_count g.V.EntryVisitor.tells g.V.EntryVisitor.stops g.V.EntryVisitor.says g.V.EntryVisitor.does g.V.EntryVisitor.between g.V.EntryVisitor.listless
          g.met.V.EntryVisitor.laws c.args.walk.now.visitor.now c.args.walk.now.root.now visited.lines (g.O.Sink.device c.loop-folder.out) (g.O.Sink.device c.visit_folder-in-loop-folder.new.out)
          c.loop-folder.tally c.visit_folder-in-loop-folder.new.tally visited.told c.loop-folder.invariant.count;
    }

pub returns-in_err-visit_folder-clause-told : goal.returns-in_err-visit_folder-clause-told
returns-in_err-visit_folder-clause-told g c =
    let p = err_from_is_err_and c.from_residual.result c.from_residual.ensures.1 in rw p.1 tt

pub returns-in_err-visit_folder-clause-stops : goal.returns-in_err-visit_folder-clause-stops
returns-in_err-visit_folder-clause-stops g c =
    let p = err_from_is_err_and c.from_residual.result c.from_residual.ensures.1 in
    rw (p.1, p.2) (stops_later g.V.EntryVisitor.tells g.V.EntryVisitor.stops g.V.EntryVisitor.says g.V.EntryVisitor.does g.V.EntryVisitor.between g.V.EntryVisitor.listless
    g.met.V.EntryVisitor.laws c.args.walk.now.visitor.now c.args.walk.now.root.now
    (λ past new. ForEach (AreEntriesBelow (IsMoment (g.V.EntryVisitor.does c.args.walk.now.visitor.now true) new) past c.args.walk.now.root.now) (take c.loop-folder.folder-index c.args.walk.now.below.now))
    (g.T.Tree.went c.args.tree.now) (g.T.Tree.went c.loop-folder.tree) (g.O.Sink.device c.args.out.now) (g.O.Sink.device c.loop-folder.out)
    (g.O.Sink.device c.visit_folder-in-loop-folder.new.out) c.args.tally.now c.loop-folder.tally c.loop-folder.invariant.visited _ c.in_err-visit_folder.ensures.stops)

pub returns-in_err-visit_folder-clause-does : goal.returns-in_err-visit_folder-clause-does
returns-in_err-visit_folder-clause-does g c =
    let p = err_from_is_err_and c.from_residual.result c.from_residual.ensures.1 in
    rw p.1 (does_both g.V.EntryVisitor.tells g.V.EntryVisitor.stops g.V.EntryVisitor.says g.V.EntryVisitor.does g.V.EntryVisitor.between g.V.EntryVisitor.listless
    g.met.V.EntryVisitor.laws c.args.walk.now.visitor.now c.args.walk.now.root.now false
    (g.T.Tree.went c.args.tree.now) (g.T.Tree.went c.loop-folder.tree) (g.T.Tree.went c.visit_folder-in-loop-folder.new.tree)
    (does_walk g.V.EntryVisitor.tells g.V.EntryVisitor.stops g.V.EntryVisitor.says g.V.EntryVisitor.does g.V.EntryVisitor.between g.V.EntryVisitor.listless
    g.met.V.EntryVisitor.laws c.args.walk.now.visitor.now c.args.walk.now.root.now
    (λ past new. ForEach (AreEntriesBelow (IsMoment (g.V.EntryVisitor.does c.args.walk.now.visitor.now true) new) past c.args.walk.now.root.now) (take c.loop-folder.folder-index c.args.walk.now.below.now))
    (g.T.Tree.went c.args.tree.now) (g.T.Tree.went c.loop-folder.tree) (g.O.Sink.device c.args.out.now) (g.O.Sink.device c.loop-folder.out)
    c.args.tally.now c.loop-folder.tally c.loop-folder.invariant.visited)
    c.in_err-visit_folder.ensures.does)

pub returns-in_err-visit_folder-clause-holds : goal.returns-in_err-visit_folder-clause-holds
returns-in_err-visit_folder-clause-holds g c = c.visit_folder-in-loop-folder.ensures.holds

pub returns-clause-told : goal.returns-clause-told
returns-clause-told g c =
    let folders : List (Bor Path) = c.args.walk.now.below.now in
    let end : c.loop-folder.folder-index ≡ length folders = omega (arith, c.loop-folder-test.false, c.loop-folder.auto.folder-index-end) in
    let all : take c.loop-folder.folder-index folders ≡ folders = ap (λ n. take n folders) end ∙ take-length folders in
    walked_folders g.V.EntryVisitor.tells g.V.EntryVisitor.stops g.V.EntryVisitor.says g.V.EntryVisitor.does g.V.EntryVisitor.between g.V.EntryVisitor.listless
    g.met.V.EntryVisitor.laws c.args.walk.now.visitor.now c.args.walk.now.root.now folders c.is_empty.result c.is_empty.ensures c.if-is_empty.false
    (g.T.Tree.went c.args.tree.now) (g.T.Tree.went c.loop-folder.tree) (g.O.Sink.device c.args.out.now) (g.O.Sink.device c.loop-folder.out)
    c.args.tally.now c.loop-folder.tally
    (subst (λ some. TellsWalk (g.V.EntryVisitor.tells c.args.walk.now.visitor.now) (g.V.EntryVisitor.says c.args.walk.now.visitor.now)
    (g.V.EntryVisitor.does c.args.walk.now.visitor.now true) (g.V.EntryVisitor.between c.args.walk.now.visitor.now) (g.V.EntryVisitor.listless c.args.walk.now.visitor.now) c.args.walk.now.root.now
    (λ past new. ForEach (AreEntriesBelow (IsMoment (g.V.EntryVisitor.does c.args.walk.now.visitor.now true) new) past c.args.walk.now.root.now) some)
    (g.T.Tree.went c.args.tree.now) (g.T.Tree.went c.loop-folder.tree) (g.O.Sink.device c.args.out.now) (g.O.Sink.device c.loop-folder.out)
    c.args.tally.now c.loop-folder.tally) all c.loop-folder.invariant.visited)

pub returns-clause-does : goal.returns-clause-does
returns-clause-does g c =
    does_walk g.V.EntryVisitor.tells g.V.EntryVisitor.stops g.V.EntryVisitor.says g.V.EntryVisitor.does g.V.EntryVisitor.between g.V.EntryVisitor.listless
    g.met.V.EntryVisitor.laws c.args.walk.now.visitor.now c.args.walk.now.root.now
    (λ past new. ForEach (AreEntriesBelow (IsMoment (g.V.EntryVisitor.does c.args.walk.now.visitor.now true) new) past c.args.walk.now.root.now) (take c.loop-folder.folder-index c.args.walk.now.below.now))
    (g.T.Tree.went c.args.tree.now) (g.T.Tree.went c.loop-folder.tree) (g.O.Sink.device c.args.out.now) (g.O.Sink.device c.loop-folder.out)
    c.args.tally.now c.loop-folder.tally c.loop-folder.invariant.visited

pub returns-clause-holds : goal.returns-clause-holds
returns-clause-holds g c = c.loop-folder.invariant.holds
