use Rattle.std.proofs.Common.{◌∙◌, ap}
use Rattle.std.specs.String.{string_bytes}
use Rattle.msr_walk.proofs.Ours.{of_days_as, of_days_at, settled_all, wait_as}
use Rattle.msr_walk.proofs.Working.{goes_settles_none, held_after}
use Rattle.msr_walk.proofs.batch.Batch.settle.Goals as goal

pub returns-then-is_empty-clause-works : goal.returns-then-is_empty-clause-works
returns-then-is_empty-clause-works g c = goes_settles_none c.args.walker.now.archive.now _ _

pub all_ours-ours-requires : goal.all_ours-ours-requires
all_ours-ours-requires g c =
    let archive = c.args.walker.now.archive.now in
    of_days_as archive c.args.self.now.days.items _ _ (ap (λ v. v.items) c.replace-days.ensures.value) (of_days_at archive (string_bytes c.args.self.now.folder) c.args.self.now.days.items _ c.requires)

pub name_all-requires : goal.name_all-requires
name_all-requires g c =
    let archive = c.args.walker.now.archive.now in
    let folder = string_bytes c.args.self.now.folder in
    wait_as archive folder c.all_ours-ours.result.items _ _ c.as_slice.ensures.value
    (c.all_ours-ours.ensures.wait.on folder (wait_as archive folder c.args.self.now.days.items _ _ (ap (λ v. v.items) c.replace-days.ensures.value) c.requires))

pub release_all-requires : goal.release_all-requires
release_all-requires g c =
    let archive = c.args.walker.now.archive.now in
    let folder = string_bytes c.args.self.now.folder in
    of_days_as archive c.all_ours-ours.result.items _ _ c.as_slice-2.ensures.value
    (held_after _ _ _ _ c.name_all.ensures.works (of_days_at archive folder c.all_ours-ours.result.items _
    (c.all_ours-ours.ensures.wait.on folder (wait_as archive folder c.args.self.now.days.items _ _ (ap (λ v. v.items) c.replace-days.ensures.value) c.requires))))

pub returns-clause-days : goal.returns-clause-days
returns-clause-days g c = ap (λ v. v.items) c.name_all.ensures.days ∙ (ap (λ v. v.items) c.replace-days.ensures.after ∙ c.new.ensures.items)

pub returns-clause-works : goal.returns-clause-works
returns-clause-works g c =
    settled_all c.args.walker.now.archive.now c.args.walker.now.apart c.args.self.now.days.items _ c.all_ours-ours.result.items _ _
    (ap (λ v. v.items) c.replace-days.ensures.value) c.as_slice.ensures.value c.as_slice-2.ensures.value c.all_ours-ours.ensures.some _ _ _ _
    c.all_ours-ours.ensures.works c.name_all.ensures.works c.release_all.ensures
