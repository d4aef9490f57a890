use Rattle.std.proofs.Common.{◌≡◌, ◌∷◌, [], inl, inr, refl, rules, subst, sym}
use Rattle.msr_folders.specs.Walks.{HoldsAt}
use Rattle.msr_naming.specs.declared.batch.Waiting.{Waiting}
use Rattle.msr_tree.specs.Calls.{Goes}
use Rattle.msr_walk.proofs.Ours.{drops_waiting, keeps_waiting}
use Rattle.msr_walk.proofs.Working.{goes_settles_none, removed_at}
use Rattle.msr_walk.specs.Told.{SettlesNames}
use Rattle.msr_walk.specs.Waiting.{AreOfDay}
use Rattle.msr_walk.proofs.batch.keep_ours.Goals as goal

pub returns-then-not-is_ours-clause-ours : goal.returns-then-not-is_ours-clause-ours
returns-then-not-is_ours-clause-ours g c = inr refl

pub returns-then-not-is_ours-clause-waits : goal.returns-then-not-is_ours-clause-waits
returns-then-not-is_ours-clause-waits g c =
    let at : c.as_str.result.now ≡ c.args.day.files.stamp.part = search rules in
    drops_waiting c.args.walker.now.archive.now c.args.day c.args.ours.now.items _ _ c.args.walker.now.apart _ refl
    (removed_at c.args.walker.now.archive.now c.args.walker.now.apart c.args.day.files c.as_str.result.now c.remove.result _ _ at c.requires c.remove.ensures)

pub returns-then-not-is_ours-clause-works : goal.returns-then-not-is_ours-clause-works
returns-then-not-is_ours-clause-works g c =
    let at : c.as_str.result.now ≡ c.args.day.files.stamp.part = search rules in
    removed_at c.args.walker.now.archive.now c.args.walker.now.apart c.args.day.files c.as_str.result.now c.remove.result _ _ at c.requires c.remove.ensures

pub returns-in-Ok-clause-ours : goal.returns-in-Ok-clause-ours
returns-in-Ok-clause-ours g c = inl c.in-Ok.ensures.items

pub returns-in-Ok-clause-waits : goal.returns-in-Ok-clause-waits
returns-in-Ok-clause-waits g c = keeps_waiting c.args.walker.now.archive.now c.args.day c.args.ours.now.items _ _ c.in-Ok.ensures.items

pub returns-in-Ok-clause-works : goal.returns-in-Ok-clause-works
returns-in-Ok-clause-works g c = goes_settles_none c.args.walker.now.archive.now _ _

pub release-requires : goal.release-requires
release-requires g c = subst (λ day. HoldsAt (g.T.Tree.went c.args.tree.now) (λ past. AreOfDay c.args.walker.now.archive.now day.files)) (sym c.in-Err.ensures.value_returned) c.requires

pub returns-in-Err-clause-ours : goal.returns-in-Err-clause-ours
returns-in-Err-clause-ours g c = inr c.in-Err.ensures.items

pub returns-in-Err-clause-waits : goal.returns-in-Err-clause-waits
returns-in-Err-clause-waits g c =
    drops_waiting c.args.walker.now.archive.now c.args.day c.args.ours.now.items _ _ c.args.walker.now.apart _ c.in-Err.ensures.items
    (subst (λ (d : Waiting _). Goes (g.T.Tree.went c.args.tree.now) (g.T.Tree.went c.release.new.tree) (SettlesNames c.args.walker.now.archive.now (d.files.stamp.part ∷ []))) c.in-Err.ensures.value_returned c.release.ensures)

pub returns-in-Err-clause-works : goal.returns-in-Err-clause-works
returns-in-Err-clause-works g c =
    subst (λ (d : Waiting _). Goes (g.T.Tree.went c.args.tree.now) (g.T.Tree.went c.release.new.tree) (SettlesNames c.args.walker.now.archive.now (d.files.stamp.part ∷ []))) c.in-Err.ensures.value_returned c.release.ensures
