use Rattle.std.proofs.Common.{[], Bool, true, ◌≡◌, ◌∷◌, refl, subst}
use Rattle.std.proofs.lemmas.Result.{err_from_is_err_and}
use Rattle.msr_tree.specs.Calls.{Goes}
use Rattle.msr_tree.specs.Acts.{Acts}
use Rattle.msr_tree.specs.Steps.{FolderStored, Removed}
use Rattle.msr_tree.proofs.Acting.{IfRenamed, giving, goes_renamed, goes_step, stopped_as, then_ok, then_stopped, within_renamed}
use Rattle.msr_exchange.specs.Names.{folder_at, path_at}
use Rattle.msr_exchange.specs.Moves.{GivesName}
use Rattle.msr_exchange.proofs.Moved.{named_by}
use Rattle.msr_exchange.proofs.moves.name_new.Goals as goal

pub returns-in_err-rename_new : goal.returns-in_err-rename_new
returns-in_err-rename_new g c =
    let p = err_from_is_err_and c.from_residual.result c.from_residual.ensures.1 in
    let part = path_at c.args.names.now c.args.part in
    let to = path_at c.args.names.now c.args.place in
    rw (p.1, p.2) (stopped_as {A = Bool} {B = Bool} (to ∷ part ∷ []) _ _ _ _ _
    (goes_renamed (to ∷ part ∷ []) _ _ part to _ _ _ c.at.ensures c.at-2.ensures (within_renamed part to) (λ name none. none.0) c.in_err-rename_new.ensures))

pub returns-in_err-store_folder : goal.returns-in_err-store_folder
returns-in_err-store_folder g c =
    let p = err_from_is_err_and c.from_residual-in_err-store_folder.result c.from_residual-in_err-store_folder.ensures.1 in
    let part = path_at c.args.names.now c.args.part in
    let to = path_at c.args.names.now c.args.place in
    let folder = folder_at c.args.names.now c.args.place in
    let first = goes_renamed (to ∷ part ∷ []) _ _ part to _ _ _ c.at.ensures c.at-2.ensures (within_renamed part to) (λ name none. none.0) c.in_ok-rename_new.ensures in
    let same : FolderStored c.folder.result.now ≡ FolderStored folder = rw c.folder.ensures refl in
    let second = goes_step {T = Unit {0}} (to ∷ part ∷ []) _ (FolderStored folder) _ _ _ same (λ name none. refl) c.in_err-store_folder.ensures in
    rw (p.1, p.2) (then_stopped {A = Bool} {B = Unit {0}} {C = Bool} (to ∷ part ∷ []) _ _ _ _ _ _ _ _ first second)

pub returns-then-branch : goal.returns-then-branch
returns-then-branch g c =
    let part = path_at c.args.names.now c.args.part in
    let to = path_at c.args.names.now c.args.place in
    let folder = folder_at c.args.names.now c.args.place in
    let first : Goes (g.T.Tree.went c.args.tree.now) (g.T.Tree.went c.rename_new.new.self) (Acts (to ∷ part ∷ []) (IfRenamed part to) (giving true)) =
    subst (λ b. Goes (g.T.Tree.went c.args.tree.now) (g.T.Tree.went c.rename_new.new.self) (Acts (to ∷ part ∷ []) (IfRenamed part to) (giving b))) c.if-branch.true
    (goes_renamed (to ∷ part ∷ []) _ _ part to _ _ _ c.at.ensures c.at-2.ensures (within_renamed part to) (λ name none. none.0) c.in_ok-rename_new.ensures) in
    let same : FolderStored c.folder.result.now ≡ FolderStored folder = rw c.folder.ensures refl in
    let second = goes_step {T = Unit {0}} (to ∷ part ∷ []) _ (FolderStored folder) _ _ _ same (λ name none. refl) c.in_ok-store_folder.ensures in
    then_ok {A = Bool} {B = Unit {0}} {C = Bool} (to ∷ part ∷ []) _ _ (GivesName part to) _ _ _ _ _ _
    (λ p q r renamed stored a b. λ is bytes ready. named_by part to folder p q r (c.requires.inside c.args.place) renamed stored bytes ready) first second

pub returns-in_err-remove : goal.returns-in_err-remove
returns-in_err-remove g c =
    let p = err_from_is_err_and c.from_residual-in_err-remove.result c.from_residual-in_err-remove.ensures.1 in
    let part = path_at c.args.names.now c.args.part in
    let to = path_at c.args.names.now c.args.place in
    let first = goes_renamed (to ∷ part ∷ []) _ _ part to _ _ _ c.at.ensures c.at-2.ensures (within_renamed part to) (λ name none. none.0) c.in_ok-rename_new.ensures in
    let same : Removed c.at-3.result.now ≡ Removed part = rw c.at-3.ensures refl in
    let second = goes_step {T = Unit {0}} (to ∷ part ∷ []) _ (Removed part) _ _ _ same (λ name none. none.1.0) c.in_err-remove.ensures in
    rw (p.1, p.2) (then_stopped {A = Bool} {B = Unit {0}} {C = Bool} (to ∷ part ∷ []) _ _ _ _ _ _ _ _ first second)

pub returns : goal.returns
returns g c =
    let part = path_at c.args.names.now c.args.part in
    let to = path_at c.args.names.now c.args.place in
    let first = goes_renamed (to ∷ part ∷ []) _ _ part to _ _ _ c.at.ensures c.at-2.ensures (within_renamed part to) (λ name none. none.0) c.in_ok-rename_new.ensures in
    let same : Removed c.at-3.result.now ≡ Removed part = rw c.at-3.ensures refl in
    let second = goes_step {T = Unit {0}} (to ∷ part ∷ []) _ (Removed part) _ _ _ same (λ name none. none.1.0) c.in_ok-remove.ensures in
    then_ok {A = Bool} {B = Unit {0}} {C = Bool} (to ∷ part ∷ []) _ _ (GivesName part to) _ _ _ _ _ _ (λ p q r renamed removed a b. λ is. cc) first second
