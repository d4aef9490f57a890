use Rattle.std.proofs.Common.{[], ◌∷◌}
use Rattle.std.proofs.lemmas.Result.{err_from_is_err_and}
use Rattle.msr_tree.specs.Steps.{FolderStored}
use Rattle.msr_naming.proofs.Plan.{doing, goes_later, goes_one, goes_stopped, stopping}
use Rattle.msr_naming.proofs.batch.store_both.Goals as goal

pub returns-in_err-store_folder : goal.returns-in_err-store_folder
returns-in_err-store_folder g c =
    let p = err_from_is_err_and c.from_residual.result c.from_residual.ensures.1 in
    let why = c.in_err-store_folder.field-0.0 in
    rw (p.1, p.2) (goes_stopped (FolderStored c.args.out.now ∷ []) (FolderStored c.args.reports.now ∷ []) why _ _
    (goes_one (FolderStored c.args.out.now) (stopping why) _ _ c.in_err-store_folder.ensures))

pub returns : goal.returns
returns g c = goes_later (FolderStored c.args.out.now ∷ []) (FolderStored c.args.reports.now ∷ []) c.in_ok-store_folder.field-0 c.store_folder-2.result _ _ _
    (goes_one (FolderStored c.args.out.now) (doing c.in_ok-store_folder.field-0) _ _ c.in_ok-store_folder.ensures)
    (goes_one (FolderStored c.args.reports.now) c.store_folder-2.result _ _ c.store_folder-2.ensures)
