use Rattle.std.proofs.Common.{[], ◌≡◌, ◌∷◌, refl, subst}
use Rattle.std.proofs.lemmas.Result.{err_from_is_err_and}
use Rattle.msr_tree.specs.Steps.{FileStored, FolderStored}
use Rattle.msr_tree.proofs.Acting.{goes_does, stopped_as, then_given}
use Rattle.msr_exchange.specs.Names.{folder_at, path_at}
use Rattle.msr_exchange.specs.Moves.{Stores}
use Rattle.msr_exchange.proofs.Moved.{settled_by}
use Rattle.msr_exchange.proofs.moves.settle.Goals as goal

pub returns-in_err-store_file : goal.returns-in_err-store_file
returns-in_err-store_file g c =
    let p = err_from_is_err_and c.from_residual.result c.from_residual.ensures.1 in
    rw (p.1, p.2) (stopped_as {A = Unit {0}} {B = Unit {0}} [] _ _ _ _ _ (goes_does {T = Unit {0}} [] _ _ _ _ (λ name none. refl) c.in_err-store_file.ensures))

pub returns : goal.returns
returns g c =
    let name = path_at c.args.names.now c.args.place in
    let folder = folder_at c.args.names.now c.args.place in
    let first = goes_does {T = Unit {0}} [] (FileStored c.at.result.now) _ _ _ (λ other none. refl) c.in_ok-store_file.ensures in
    let second = goes_does {T = Unit {0}} [] (FolderStored c.folder.result.now) _ _ _ (λ other none. refl) c.store_folder.ensures in
    then_given {A = Unit {0}} {B = Unit {0}} [] _ _ (Stores name) _ _ _ _ _ (λ p q r b stored settled one two. settled_by name folder p q r (c.requires.inside c.args.place)
    (subst (λ n. q ≡ FileStored n ∷ p) c.at.ensures stored) (subst (λ n. r ≡ FolderStored n ∷ q) c.folder.ensures settled)) first second
