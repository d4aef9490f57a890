use Rattle.std.proofs.Common.{false, [], ◌≡◌, ◌∷◌, refl, sym, subst}
use Rattle.std.proofs.lemmas.Result.{err_from_is_err_and}
use Rattle.std.specs.Str.{bytes_eq}
use Rattle.msr_tree.specs.Calls.{Copied}
use Rattle.msr_tree.specs.Steps.{FileStored, IsNoneOf, Path}
use Rattle.msr_tree.proofs.Acting.{goes_copies, goes_does, stopped_as, then_given}
use Rattle.msr_exchange.specs.Names.{path_at}
use Rattle.msr_exchange.specs.Moves.{Prepares}
use Rattle.msr_exchange.proofs.Moved.{copied_stored}
use Rattle.msr_exchange.proofs.moves.copy_stored.Goals as goal

pub returns-in_err-copy : goal.returns-in_err-copy
returns-in_err-copy g c =
    let p = err_from_is_err_and c.from_residual.result c.from_residual.ensures.1 in
    let to = path_at c.args.names.now c.args.to in
    let apart : (name : Path) → IsNoneOf name (to ∷ []) → bytes_eq name c.at-2.result.now ≡ false = λ name none. subst (λ n. bytes_eq name n ≡ false) (sym c.at-2.ensures) none.0 in
    rw (p.1, p.2) (stopped_as {A = Unit {0}} {B = Unit {0}} (to ∷ []) _ _ _ _ _ (goes_copies {T = Unit {0}} (to ∷ []) c.at.result.now c.at-2.result.now _ _ _ apart c.in_err-copy.ensures))

pub returns : goal.returns
returns g c =
    let from = path_at c.args.names.now c.args.from in
    let to = path_at c.args.names.now c.args.to in
    let apart : (name : Path) → IsNoneOf name (to ∷ []) → bytes_eq name c.at-2.result.now ≡ false = λ name none. subst (λ n. bytes_eq name n ≡ false) (sym c.at-2.ensures) none.0 in
    let first = goes_copies {T = Unit {0}} (to ∷ []) c.at.result.now c.at-2.result.now _ _ _ apart c.in_ok-copy.ensures in
    let second = goes_does {T = Unit {0}} (to ∷ []) (FileStored c.at-3.result.now) _ _ _ (λ name none. refl) c.store_file.ensures in
    then_given {A = Unit {0}} {B = Unit {0}} (to ∷ []) _ _ (Prepares from to) _ _ _ _ _ (λ p q r b copied stored one two. copied_stored from to p q r
    (subst (λ n. Copied n to p q) c.at.ensures (subst (λ n. Copied c.at.result.now n p q) c.at-2.ensures copied.1))
    (subst (λ n. r ≡ FileStored n ∷ q) c.at-3.ensures stored)) first second
