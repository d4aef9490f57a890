use Rattle.std.proofs.Common.{◌∙◌, ◌∷◌, [], subst, sym}
use Rattle.std.specs.String.{string_bytes}
use Rattle.msr_folders.specs.Walks.{HoldsAt}
use Rattle.msr_naming.specs.declared.batch.Waiting.{Waiting}
use Rattle.msr_tree.specs.Calls.{Goes}
use Rattle.msr_walk.specs.Told.{SettlesNames}
use Rattle.msr_walk.proofs.Ours.{none_after, of_waits, wait_as, wait_more, wait_none, wait_without, waits_settled}
use Rattle.msr_walk.proofs.Working.{goes_waiting_then, settles_waiting}
use Rattle.msr_walk.specs.Waiting.{AreOfDay}
use Rattle.msr_walk.proofs.batch.Batch.add.Goals as goal

pub release-requires : goal.release-requires
release-requires g c =
    let archive = c.args.walker.now.archive.now in
    of_waits archive c.args.walker.now.apart c.args.path.now c.args.day c.args.self.now.days.items _ c.requires.path
    (waits_settled archive c.args.walker.now.apart c.args.path.now c.args.day c.args.self.now.days.items _ _ c.turn_to.ensures.works c.requires.day c.requires.none)

pub returns-then-not-turn_to-clause-days : goal.returns-then-not-turn_to-clause-days
returns-then-not-turn_to-clause-days g c = wait_none c.args.walker.now.archive.now _ _ _ (c.turn_to.ensures.settled c.if-not-turn_to.true)

pub returns-then-not-turn_to-clause-works : goal.returns-then-not-turn_to-clause-works
returns-then-not-turn_to-clause-works g c =
    let archive = c.args.walker.now.archive.now in
    goes_waiting_then archive c.args.walker.now.apart _ _ _ (settles_waiting archive _ _ _ c.turn_to.ensures.works) (settles_waiting archive _ _ _ c.release.ensures)

pub settle_full-requires : goal.settle_full-requires
settle_full-requires g c =
    let archive = c.args.walker.now.archive.now in
    wait_as archive _ _ _ _ c.in-Ok.ensures.items
    (wait_more archive c.args.walker.now.apart c.args.path.now c.args.day c.args.self.now.days.items (string_bytes c.turn_to.new.self.folder) c.turn_to.new.self.days.items _ c.requires.path
    (c.turn_to.ensures.folder c.if-not-turn_to.false ∙ c.folder_of.ensures) c.turn_to.ensures.some
    (waits_settled archive c.args.walker.now.apart c.args.path.now c.args.day c.args.self.now.days.items _ _ c.turn_to.ensures.works c.requires.day c.requires.none)
    (none_after archive c.args.path.now c.args.self.now.days.items _ _ _ c.turn_to.ensures.works c.requires.none) c.turn_to.ensures.days)

pub returns-in-Ok-clause-works : goal.returns-in-Ok-clause-works
returns-in-Ok-clause-works g c =
    let archive = c.args.walker.now.archive.now in
    goes_waiting_then archive c.args.walker.now.apart _ _ _ (settles_waiting archive _ _ _ c.turn_to.ensures.works) c.settle_full.ensures.works

pub release-requires-in-Err : goal.release-requires-in-Err
release-requires-in-Err g c =
    let archive = c.args.walker.now.archive.now in
    subst (λ day. HoldsAt (g.T.Tree.went c.turn_to.new.tree) (λ past. AreOfDay archive day.files)) (sym c.in-Err.ensures.value_returned)
    (of_waits archive c.args.walker.now.apart c.args.path.now c.args.day c.args.self.now.days.items _ c.requires.path
    (waits_settled archive c.args.walker.now.apart c.args.path.now c.args.day c.args.self.now.days.items _ _ c.turn_to.ensures.works c.requires.day c.requires.none))

pub returns-in-Err-clause-days : goal.returns-in-Err-clause-days
returns-in-Err-clause-days g c =
    let archive = c.args.walker.now.archive.now in
    wait_as archive _ _ _ _ c.in-Err.ensures.items
    (wait_without archive c.args.walker.now.apart c.args.path.now c.args.day c.args.self.now.days.items (string_bytes c.turn_to.new.self.folder) c.turn_to.new.self.days.items _ _ c.turn_to.ensures.some
    (waits_settled archive c.args.walker.now.apart c.args.path.now c.args.day c.args.self.now.days.items _ _ c.turn_to.ensures.works c.requires.day c.requires.none)
    (none_after archive c.args.path.now c.args.self.now.days.items _ _ _ c.turn_to.ensures.works c.requires.none) c.turn_to.ensures.days
    (subst (λ (d : Waiting _). Goes (g.T.Tree.went c.turn_to.new.tree) (g.T.Tree.went c.release-in-Err.new.tree) (SettlesNames archive (d.files.stamp.part ∷ []))) c.in-Err.ensures.value_returned c.release-in-Err.ensures))

pub returns-in-Err-clause-works : goal.returns-in-Err-clause-works
returns-in-Err-clause-works g c =
    let archive = c.args.walker.now.archive.now in
    goes_waiting_then archive c.args.walker.now.apart _ _ _ (settles_waiting archive _ _ _ c.turn_to.ensures.works) (settles_waiting archive _ _ _ c.release-in-Err.ensures)
