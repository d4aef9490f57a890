use Rattle.std.proofs.Common.{◌≡◌, ◌≢◌, ◌<◌, ◌+◌, ◌++◌, ◌∙◌, false, true, List, ℕ, [], ◌∷◌, sym, ap, subst, take, get_or, length, arith, rules}
use Rattle.std.proofs.lemmas.List.{length-map, take_more}
use Rattle.std.proofs.Math.Seq.{take-length}
use Rattle.std.proofs.lemmas.Result.{err_from_is_err_and}
use Rattle.std.specs.Prelude.{is_ok, string_bytes}
use Rattle.msr_devices.specs.declared.fault.DeviceFault.TheVariants.{Memory}
use Rattle.msr_tree.specs.Listing.{listed}
use Rattle.msr_tree.specs.Steps.{Path}
use Rattle.msr_tree.specs.declared.kind.FileKind.TheVariants.{Folder}
use Rattle.msr_folders.specs.Entries.{AreOfEntry, IsMoment}
use Rattle.msr_folders.specs.Opening.{AreSoFar}
use Rattle.msr_folders.specs.Paths.{below}
use Rattle.msr_folders.specs.Walks.{TellsWalk}
use Rattle.msr_folders.proofs.WalkedLemmas.{all_names, does_both, does_end, does_then, does_visit, does_walk, goes_none, if_err_as, name_at, next_entry, next_folder, next_name, on_ok_as, stops_later, told_can_count}
use Rattle.msr_folders.proofs.entries.EntryWalk.+walk.Goals as goal

pub visit_path-returns-then-eq-clause-told : goal.visit_path-returns-then-eq-clause-told
visit_path-returns-then-eq-clause-told g t c =
    let is : c.in_ok-kind.kind ≡ Folder = grind (arith, c.eq.ensures, c.if-eq.true) in
    on_ok_as c.visit_folder.result (λ told. next_folder g.V.EntryVisitor.tells g.V.EntryVisitor.stops g.V.EntryVisitor.says g.V.EntryVisitor.does g.V.EntryVisitor.between
    g.V.EntryVisitor.listless g.met.V.EntryVisitor.laws c.args.self.now.visitor.now c.args.self.now.root.now c.args.levels c.args.path.now
    (g.T.Tree.went c.args.tree.now) (g.T.Tree.went c.visit_folder.new.tree) (g.O.Sink.device c.args.out.now) (g.O.Sink.device c.visit_folder.new.out)
    c.args.tally.now c.visit_folder.new.tally (c.in_ok-kind.ensures.some is) told) c.visit_folder.ensures.told

pub visit_path-returns-clause-told : goal.visit_path-returns-clause-told
visit_path-returns-clause-told g t c =
    let apart : c.in_ok-kind.kind ≢ Folder = λ is. absurd (grind (arith, c.eq.ensures, c.if-eq.false, is)) in
    on_ok_as c.visit_entry.result (λ told. next_entry g.V.EntryVisitor.tells g.V.EntryVisitor.stops g.V.EntryVisitor.says g.V.EntryVisitor.does g.V.EntryVisitor.between
    g.V.EntryVisitor.listless g.met.V.EntryVisitor.laws c.args.self.now.visitor.now c.args.self.now.root.now c.args.levels c.args.path.now c.in_ok-kind.kind
    (g.T.Tree.went c.args.tree.now) (g.T.Tree.went c.visit_entry.new.tree) (g.O.Sink.device c.args.out.now) (g.O.Sink.device c.visit_entry.new.out)
    c.args.tally.now c.visit_entry.new.tally apart c.in_ok-kind.ensures told) c.visit_entry.ensures.told

pub visit_path-returns-clause-does : goal.visit_path-returns-clause-does
visit_path-returns-clause-does g t c =
    does_visit g.V.EntryVisitor.tells g.V.EntryVisitor.stops g.V.EntryVisitor.says g.V.EntryVisitor.does g.V.EntryVisitor.between
    g.V.EntryVisitor.listless g.met.V.EntryVisitor.laws c.args.self.now.visitor.now c.args.self.now.root.now (is_ok c.visit_entry.result)
    (g.T.Tree.went c.args.tree.now) (g.T.Tree.went c.visit_entry.new.tree) c.visit_entry.ensures.does

pub visit_folder-returns-in_default-clause-told : goal.visit_folder-returns-in_default-clause-told
visit_folder-returns-in_default-clause-told g t c = rw c.in_default.is at c.in_ok-opened.ensures.told

pub visit_folder-loop-name-init : goal.visit_folder-loop-name-init
visit_folder-loop-name-init g t c =
    let visitor = c.args.self.now.visitor.now in
    let root : Path = c.args.self.now.root.now in
    let opened = rw c.in-Some.is at c.in_ok-opened.ensures.told in
    record {
      visited = subst (λ items. TellsWalk (g.V.EntryVisitor.tells visitor) (g.V.EntryVisitor.says visitor) (g.V.EntryVisitor.does visitor true) (g.V.EntryVisitor.between visitor) (g.V.EntryVisitor.listless visitor) root
          (λ past new. AreSoFar (IsMoment (g.V.EntryVisitor.does visitor true) new) root c.args.levels c.args.folder.now (listed items) [] past)
          (g.T.Tree.went c.args.tree.now) (g.T.Tree.went c.open_folder.new.tree)
          (g.O.Sink.device c.args.out.now) (g.O.Sink.device c.open_folder.new.out) c.args.tally.now c.open_folder.new.tally)
          (sym c.deref-name-items.ensures.value) opened;
      holds = c.open_folder.ensures.holds;
      count = told_can_count g.V.EntryVisitor.tells g.V.EntryVisitor.stops g.V.EntryVisitor.says g.V.EntryVisitor.does g.V.EntryVisitor.between
          g.V.EntryVisitor.listless g.met.V.EntryVisitor.laws visitor root
          opened.lines (g.O.Sink.device c.args.out.now) (g.O.Sink.device c.open_folder.new.out) c.args.tally.now c.open_folder.new.tally opened.told (search rules);
    }

pub visit_folder-loop-name-preserved : goal.visit_folder-loop-name-preserved
visit_folder-loop-name-preserved g t c =
    let root : Path = c.args.self.now.root.now in
    let folder : Path = c.args.folder.now in
    let levels : ℕ = c.args.levels in
    let visitor = c.args.self.now.visitor.now in
    let items = c.deref-name-items.result.now in
    let names : List Path = listed items in
    let i : ℕ = c.loop-name.name-index in
    let name : Path = get_or names i [] in
    let within : i < length names = omega (arith, c.loop-name-test.true, length-map items (λ s. string_bytes s)) in
    let one_more : take (i + 1) names ≡ take i names ++ name ∷ [] = take_more names i [] within in
    let named : name ≡ string_bytes c.name-item.result = name_at items i c.name-item.result c.loop-name-test.true (sym c.name-item.is) in
    let path : c.as_str-in-loop-name.result.now ≡ below folder name =
    c.as_str-in-loop-name.ensures.value ∙ (c.in_ok-path.ensures ∙ ap (λ n. below folder n) (c.as_str.ensures.value ∙ sym named)) in
    let visited = subst (λ p. TellsWalk (g.V.EntryVisitor.tells visitor) (g.V.EntryVisitor.says visitor) (g.V.EntryVisitor.does visitor true) (g.V.EntryVisitor.between visitor) (g.V.EntryVisitor.listless visitor) root
    (λ past new. AreOfEntry (IsMoment (g.V.EntryVisitor.does visitor true) new) past root levels p) (g.T.Tree.went c.loop-name.tree) (g.T.Tree.went c.visit_path.new.tree)
    (g.O.Sink.device c.loop-name.out) (g.O.Sink.device c.visit_path.new.out) c.loop-name.tally c.visit_path.new.tally) path c.in_ok-visit_path.ensures.told in
    record {
      visited = rw one_more (next_name g.V.EntryVisitor.tells g.V.EntryVisitor.stops g.V.EntryVisitor.says g.V.EntryVisitor.does g.V.EntryVisitor.between
          g.V.EntryVisitor.listless g.met.V.EntryVisitor.laws visitor root levels folder name names (take i names)
          (g.T.Tree.went c.args.tree.now) (g.T.Tree.went c.loop-name.tree) (g.T.Tree.went c.visit_path.new.tree)
          (g.O.Sink.device c.args.out.now) (g.O.Sink.device c.loop-name.out) (g.O.Sink.device c.visit_path.new.out)
          c.args.tally.now c.loop-name.tally c.visit_path.new.tally c.loop-name.invariant.visited visited);
      holds = c.visit_path.ensures.holds;
      count = told_can_count g.V.EntryVisitor.tells g.V.EntryVisitor.stops g.V.EntryVisitor.says g.V.EntryVisitor.does g.V.EntryVisitor.between
          g.V.EntryVisitor.listless g.met.V.EntryVisitor.laws visitor root
          visited.lines (g.O.Sink.device c.loop-name.out) (g.O.Sink.device c.visit_path.new.out) c.loop-name.tally c.visit_path.new.tally visited.told c.loop-name.invariant.count;
    }

pub visit_folder-returns-clause-told : goal.visit_folder-returns-clause-told
visit_folder-returns-clause-told g t c =
    let root : Path = c.args.self.now.root.now in
    let folder : Path = c.args.folder.now in
    let levels : ℕ = c.args.levels in
    let visitor = c.args.self.now.visitor.now in
    let items = c.deref-name-items.result.now in
    let names : List Path = listed items in
    let end : c.loop-name.name-index ≡ length names = omega (arith, c.loop-name-test.false, c.loop-name.auto.name-index-end, length-map items (λ s. string_bytes s)) in
    let all : take c.loop-name.name-index names ≡ names = ap (λ n. take n names) end ∙ take-length names in
    on_ok_as c.leave_folder.result (λ left. all_names g.V.EntryVisitor.tells g.V.EntryVisitor.stops g.V.EntryVisitor.says g.V.EntryVisitor.does g.V.EntryVisitor.between
    g.V.EntryVisitor.listless g.met.V.EntryVisitor.laws visitor root levels folder names
    (g.T.Tree.went c.args.tree.now) (g.T.Tree.went c.loop-name.tree) (g.T.Tree.went c.leave_folder.new.tree)
    (g.O.Sink.device c.args.out.now) (g.O.Sink.device c.loop-name.out) (g.O.Sink.device c.leave_folder.new.out)
    c.args.tally.now c.loop-name.tally c.leave_folder.new.tally
    (subst (λ taken. TellsWalk (g.V.EntryVisitor.tells visitor) (g.V.EntryVisitor.says visitor) (g.V.EntryVisitor.does visitor true) (g.V.EntryVisitor.between visitor) (g.V.EntryVisitor.listless visitor) root
    (λ past new. AreSoFar (IsMoment (g.V.EntryVisitor.does visitor true) new) root levels folder names taken past) (g.T.Tree.went c.args.tree.now) (g.T.Tree.went c.loop-name.tree)
    (g.O.Sink.device c.args.out.now) (g.O.Sink.device c.loop-name.out) c.args.tally.now c.loop-name.tally) all c.loop-name.invariant.visited) left)
    c.leave_folder.ensures.told

pub visit_folder-returns-clause-does : goal.visit_folder-returns-clause-does
visit_folder-returns-clause-does g t c =
    let visitor = c.args.self.now.visitor.now in
    let root : Path = c.args.self.now.root.now in
    does_then g.V.EntryVisitor.tells g.V.EntryVisitor.stops g.V.EntryVisitor.says g.V.EntryVisitor.does g.V.EntryVisitor.between
    g.V.EntryVisitor.listless g.met.V.EntryVisitor.laws visitor root (is_ok c.leave_folder.result)
    (g.T.Tree.went c.args.tree.now) (g.T.Tree.went c.loop-name.tree) (g.T.Tree.went c.leave_folder.new.tree)
    (does_walk g.V.EntryVisitor.tells g.V.EntryVisitor.stops g.V.EntryVisitor.says g.V.EntryVisitor.does g.V.EntryVisitor.between
    g.V.EntryVisitor.listless g.met.V.EntryVisitor.laws visitor root
    (λ past new. AreSoFar (IsMoment (g.V.EntryVisitor.does visitor true) new) root c.args.levels c.args.folder.now
    (listed c.deref-name-items.result.now) (take c.loop-name.name-index (listed c.deref-name-items.result.now)) past)
    (g.T.Tree.went c.args.tree.now) (g.T.Tree.went c.loop-name.tree)
    (g.O.Sink.device c.args.out.now) (g.O.Sink.device c.loop-name.out) c.args.tally.now c.loop-name.tally c.loop-name.invariant.visited)
    c.leave_folder.ensures.does

pub visit_folder-returns-clause-stops : goal.visit_folder-returns-clause-stops
visit_folder-returns-clause-stops g t c =
    if_err_as c.leave_folder.result (stops_later g.V.EntryVisitor.tells g.V.EntryVisitor.stops g.V.EntryVisitor.says g.V.EntryVisitor.does g.V.EntryVisitor.between
    g.V.EntryVisitor.listless g.met.V.EntryVisitor.laws c.args.self.now.visitor.now c.args.self.now.root.now
    (λ past new. AreSoFar (IsMoment (g.V.EntryVisitor.does c.args.self.now.visitor.now true) new) c.args.self.now.root.now c.args.levels c.args.folder.now
    (listed c.deref-name-items.result.now) (take c.loop-name.name-index (listed c.deref-name-items.result.now)) past)
    (g.T.Tree.went c.args.tree.now) (g.T.Tree.went c.loop-name.tree)
    (g.O.Sink.device c.args.out.now) (g.O.Sink.device c.loop-name.out) (g.O.Sink.device c.leave_folder.new.out) c.args.tally.now c.loop-name.tally
    c.loop-name.invariant.visited) c.leave_folder.ensures.stops

pub visit_folder-returns-clause-holds : goal.visit_folder-returns-clause-holds
visit_folder-returns-clause-holds g t c = c.leave_folder.ensures.holds

pub visit_folder-leave_folder-requires-clause-count : goal.visit_folder-leave_folder-requires-clause-count
visit_folder-leave_folder-requires-clause-count g t c = c.loop-name.invariant.count

pub visit_folder-leave_folder-requires-clause-holds : goal.visit_folder-leave_folder-requires-clause-holds
visit_folder-leave_folder-requires-clause-holds g t c = c.loop-name.invariant.holds

-- memory is refused for a path
pub visit_folder-returns-in_err-path-clause-told : goal.visit_folder-returns-in_err-path-clause-told
visit_folder-returns-in_err-path-clause-told g t c =
    let p = err_from_is_err_and c.from_residual-in_err-path.result c.from_residual-in_err-path.ensures.1 in rw p.1 tt

pub visit_folder-returns-in_err-path-clause-stops : goal.visit_folder-returns-in_err-path-clause-stops
visit_folder-returns-in_err-path-clause-stops g t c =
    let p = err_from_is_err_and c.from_residual-in_err-path.result c.from_residual-in_err-path.ensures.1 in
    rw (p.1, p.2) (stops_later g.V.EntryVisitor.tells g.V.EntryVisitor.stops g.V.EntryVisitor.says g.V.EntryVisitor.does g.V.EntryVisitor.between
    g.V.EntryVisitor.listless g.met.V.EntryVisitor.laws c.args.self.now.visitor.now c.args.self.now.root.now
    (λ past new. AreSoFar (IsMoment (g.V.EntryVisitor.does c.args.self.now.visitor.now true) new) c.args.self.now.root.now c.args.levels c.args.folder.now
    (listed c.deref-name-items.result.now) (take c.loop-name.name-index (listed c.deref-name-items.result.now)) past)
    (g.T.Tree.went c.args.tree.now) (g.T.Tree.went c.loop-name.tree)
    (g.O.Sink.device c.args.out.now) (g.O.Sink.device c.loop-name.out) (g.O.Sink.device c.loop-name.out) c.args.tally.now c.loop-name.tally
    c.loop-name.invariant.visited Memory (g.met.V.EntryVisitor.laws.refused c.args.self.now.visitor.now (g.O.Sink.device c.loop-name.out)))

pub visit_folder-returns-in_err-path-clause-does : goal.visit_folder-returns-in_err-path-clause-does
visit_folder-returns-in_err-path-clause-does g t c =
    let p = err_from_is_err_and c.from_residual-in_err-path.result c.from_residual-in_err-path.ensures.1 in
    rw p.1 (does_end g.V.EntryVisitor.tells g.V.EntryVisitor.stops g.V.EntryVisitor.says g.V.EntryVisitor.does g.V.EntryVisitor.between
    g.V.EntryVisitor.listless g.met.V.EntryVisitor.laws c.args.self.now.visitor.now c.args.self.now.root.now
    (g.T.Tree.went c.args.tree.now) (g.T.Tree.went c.loop-name.tree)
    (does_walk g.V.EntryVisitor.tells g.V.EntryVisitor.stops g.V.EntryVisitor.says g.V.EntryVisitor.does g.V.EntryVisitor.between
    g.V.EntryVisitor.listless g.met.V.EntryVisitor.laws c.args.self.now.visitor.now c.args.self.now.root.now
    (λ past new. AreSoFar (IsMoment (g.V.EntryVisitor.does c.args.self.now.visitor.now true) new) c.args.self.now.root.now c.args.levels c.args.folder.now
    (listed c.deref-name-items.result.now) (take c.loop-name.name-index (listed c.deref-name-items.result.now)) past)
    (g.T.Tree.went c.args.tree.now) (g.T.Tree.went c.loop-name.tree)
    (g.O.Sink.device c.args.out.now) (g.O.Sink.device c.loop-name.out) c.args.tally.now c.loop-name.tally c.loop-name.invariant.visited))

pub visit_folder-returns-in_err-path-clause-holds : goal.visit_folder-returns-in_err-path-clause-holds
visit_folder-returns-in_err-path-clause-holds g t c = c.loop-name.invariant.holds

-- an entry's visit stops
pub visit_folder-returns-in_err-visit_path-clause-told : goal.visit_folder-returns-in_err-visit_path-clause-told
visit_folder-returns-in_err-visit_path-clause-told g t c =
    let p = err_from_is_err_and c.from_residual-in_err-visit_path.result c.from_residual-in_err-visit_path.ensures.1 in rw p.1 tt

pub visit_folder-returns-in_err-visit_path-clause-stops : goal.visit_folder-returns-in_err-visit_path-clause-stops
visit_folder-returns-in_err-visit_path-clause-stops g t c =
    let p = err_from_is_err_and c.from_residual-in_err-visit_path.result c.from_residual-in_err-visit_path.ensures.1 in
    rw (p.1, p.2) (stops_later g.V.EntryVisitor.tells g.V.EntryVisitor.stops g.V.EntryVisitor.says g.V.EntryVisitor.does g.V.EntryVisitor.between
    g.V.EntryVisitor.listless g.met.V.EntryVisitor.laws c.args.self.now.visitor.now c.args.self.now.root.now
    (λ past new. AreSoFar (IsMoment (g.V.EntryVisitor.does c.args.self.now.visitor.now true) new) c.args.self.now.root.now c.args.levels c.args.folder.now
    (listed c.deref-name-items.result.now) (take c.loop-name.name-index (listed c.deref-name-items.result.now)) past)
    (g.T.Tree.went c.args.tree.now) (g.T.Tree.went c.loop-name.tree)
    (g.O.Sink.device c.args.out.now) (g.O.Sink.device c.loop-name.out) (g.O.Sink.device c.visit_path.new.out) c.args.tally.now c.loop-name.tally
    c.loop-name.invariant.visited _ c.in_err-visit_path.ensures.stops)

pub visit_folder-returns-in_err-visit_path-clause-does : goal.visit_folder-returns-in_err-visit_path-clause-does
visit_folder-returns-in_err-visit_path-clause-does g t c =
    let p = err_from_is_err_and c.from_residual-in_err-visit_path.result c.from_residual-in_err-visit_path.ensures.1 in
    rw p.1 (does_both g.V.EntryVisitor.tells g.V.EntryVisitor.stops g.V.EntryVisitor.says g.V.EntryVisitor.does g.V.EntryVisitor.between
    g.V.EntryVisitor.listless g.met.V.EntryVisitor.laws c.args.self.now.visitor.now c.args.self.now.root.now false
    (g.T.Tree.went c.args.tree.now) (g.T.Tree.went c.loop-name.tree) (g.T.Tree.went c.visit_path.new.tree)
    (does_walk g.V.EntryVisitor.tells g.V.EntryVisitor.stops g.V.EntryVisitor.says g.V.EntryVisitor.does g.V.EntryVisitor.between
    g.V.EntryVisitor.listless g.met.V.EntryVisitor.laws c.args.self.now.visitor.now c.args.self.now.root.now
    (λ past new. AreSoFar (IsMoment (g.V.EntryVisitor.does c.args.self.now.visitor.now true) new) c.args.self.now.root.now c.args.levels c.args.folder.now
    (listed c.deref-name-items.result.now) (take c.loop-name.name-index (listed c.deref-name-items.result.now)) past)
    (g.T.Tree.went c.args.tree.now) (g.T.Tree.went c.loop-name.tree)
    (g.O.Sink.device c.args.out.now) (g.O.Sink.device c.loop-name.out) c.args.tally.now c.loop-name.tally c.loop-name.invariant.visited)
    c.in_err-visit_path.ensures.does)

pub visit_folder-returns-in_err-visit_path-clause-holds : goal.visit_folder-returns-in_err-visit_path-clause-holds
visit_folder-returns-in_err-visit_path-clause-holds g t c = c.visit_path.ensures.holds

pub visit_path-returns-in_err-kind-clause-told : goal.visit_path-returns-in_err-kind-clause-told
visit_path-returns-in_err-kind-clause-told g t c =
    let p = err_from_is_err_and c.from_residual.result c.from_residual.ensures.1 in rw p.1 tt

pub visit_path-returns-in_err-kind-clause-stops : goal.visit_path-returns-in_err-kind-clause-stops
visit_path-returns-in_err-kind-clause-stops g t c =
    let p = err_from_is_err_and c.from_residual.result c.from_residual.ensures.1 in
    rw (p.1, p.2) (g.met.V.EntryVisitor.laws.refused c.args.self.now.visitor.now (g.O.Sink.device c.args.out.now))

pub visit_path-returns-in_err-kind-clause-does : goal.visit_path-returns-in_err-kind-clause-does
visit_path-returns-in_err-kind-clause-does g t c =
    let p = err_from_is_err_and c.from_residual.result c.from_residual.ensures.1 in
    rw p.1 (does_end g.V.EntryVisitor.tells g.V.EntryVisitor.stops g.V.EntryVisitor.says g.V.EntryVisitor.does g.V.EntryVisitor.between
    g.V.EntryVisitor.listless g.met.V.EntryVisitor.laws c.args.self.now.visitor.now c.args.self.now.root.now (g.T.Tree.went c.args.tree.now) (g.T.Tree.went c.args.tree.now)
    (goes_none (g.V.EntryVisitor.does c.args.self.now.visitor.now true) (g.T.Tree.went c.args.tree.now) (g.met.V.EntryVisitor.laws.still c.args.self.now.visitor.now)))

pub visit_path-overflow_sub-levels : goal.visit_path-overflow_sub-levels
visit_path-overflow_sub-levels g t c =
    let is : c.in_ok-kind.kind ≡ Folder = grind (arith, c.eq.ensures, c.if-eq.true) in c.in_ok-kind.ensures.some is

pub visit_path-returns-then-eq-clause-stops : goal.visit_path-returns-then-eq-clause-stops
visit_path-returns-then-eq-clause-stops g t c = c.visit_folder.ensures.stops

pub visit_path-returns-then-eq-clause-does : goal.visit_path-returns-then-eq-clause-does
visit_path-returns-then-eq-clause-does g t c = c.visit_folder.ensures.does

pub visit_path-returns-then-eq-clause-holds : goal.visit_path-returns-then-eq-clause-holds
visit_path-returns-then-eq-clause-holds g t c = c.visit_folder.ensures.holds

pub visit_path-returns-clause-stops : goal.visit_path-returns-clause-stops
visit_path-returns-clause-stops g t c = c.visit_entry.ensures.stops

pub visit_path-returns-clause-holds : goal.visit_path-returns-clause-holds
visit_path-returns-clause-holds g t c = c.visit_entry.ensures.holds
