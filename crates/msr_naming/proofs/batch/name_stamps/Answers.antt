use Rattle.std.proofs.Common.{List, [], ◌∷◌, map, subst}
use Rattle.std.proofs.lemmas.Result.{err_from_is_err_and}
use Rattle.msr_tree.specs.Calls.{Goes}
use Rattle.msr_tree.specs.Steps.{FolderStored, Step}
use Rattle.msr_tree.proofs.Acting.{goes_as}
use Rattle.msr_naming.specs.Naming.{Performs}
use Rattle.msr_naming.proofs.Plan.{goes_later, goes_stopped, stopping}
use Rattle.msr_naming.proofs.Promises.{stamps_named}
use Rattle.msr_naming.proofs.Stamps.{stamping, stamping_each}
use Rattle.msr_naming.proofs.batch.name_stamps.Goals as goal

pub returns-in_err-store_both : goal.returns-in_err-store_both
returns-in_err-store_both g c =
    let p = err_from_is_err_and c.from_residual.result c.from_residual.ensures.1 in
    let why = c.in_err-store_both.field-0.0 in
    rw (p.1, p.2) (goes_as _ _ _ _ (λ p q performs. stamps_named c.args.out.now c.args.reports.now (map (λ day. day.files) c.args.days.now) (stopping why) p q performs)
    (goes_stopped (FolderStored c.args.out.now ∷ FolderStored c.args.reports.now ∷ []) (map stamping (map (λ day. day.files) c.args.days.now)) why _ _ c.in_err-store_both.ensures))

pub returns : goal.returns
returns g c =
    let stores : List Step = FolderStored c.args.out.now ∷ FolderStored c.args.reports.now ∷ [] in
    let later = subst (λ (l : List Step). Goes (g.T.Tree.went c.store_both.new.tree) (g.T.Tree.went c.stamp_all.new.tree) (Performs l c.stamp_all.result)) (stamping_each (λ day. day.files) c.args.days.now) c.stamp_all.ensures in
    goes_as _ _ _ _ (λ p q performs. stamps_named c.args.out.now c.args.reports.now (map (λ day. day.files) c.args.days.now) c.stamp_all.result p q performs)
    (goes_later stores (map stamping (map (λ day. day.files) c.args.days.now)) c.in_ok-store_both.field-0 c.stamp_all.result _ _ _ c.in_ok-store_both.ensures later)
