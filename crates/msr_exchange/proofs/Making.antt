-- Making a file, as an act.
use Rattle.std.proofs.Common.{◌≡◌, ⊎_elim, ℕ, false, List, [], Result, Ok, Err, IsErrOf, sym, subst}
use Rattle.std.specs.Str.{bytes_eq}
use Rattle.msr_devices.specs.Device.{Device}
use Rattle.msr_tree.specs.Acts.{Acts}
use Rattle.msr_tree.specs.Calls.{Begins, Finishes, Goes, PerhapsDone}
use Rattle.msr_tree.specs.Steps.{ChangesOnly, IsNoneOf, Made, Path, Step}
use Rattle.msr_tree.specs.declared.tree.TreeFault.{TreeFault}
use Rattle.msr_tree.specs.declared.tree.TreeFault.TheVariants as fault
use Rattle.msr_tree.proofs.Acting.{changes_step, giving, goes_as, stopped, stopped_as, stopping, then_given}
use Rattle.msr_tree.proofs.Changes.{changes_none}
use Rattle.msr_exchange.specs.Moves.{Anything}

-- nothing is done
pub goes_none : {T : Type 0} (names : List Path) (Done : (old new : List Step) → T → Type 0) (one : List Step → Type 0) → Goes one one (Acts names Done (stopping T fault.Memory))
goes_none names Done one = record { from = λ new went. (new, went, record { changes = changes_none names new; cause = λ is. cc; does = tt }) }

pub never_failed : {A B : Type 0} (a : A) (b : B) → IsErrOf (giving b) fault.Failed → IsErrOf (giving a) fault.Failed
never_failed a b is = cc

module _ (names : List Path) (path : Path) (apart : (name : Path) → IsNoneOf name names → bytes_eq name path ≡ false) where
  perhaps : (bytes : List ℕ) (old left : List Step) → PerhapsDone (Made path bytes) old left → ChangesOnly names old left
  perhaps bytes old left may = ⊎_elim
      (λ same. subst (λ l. ChangesOnly names old l) (sym same) (changes_none names old))
      (λ done. subst (λ l. ChangesOnly names old l) (sym done) (changes_step names (Made path bytes) old apart))
      may

  begun : {T : Type 0} (device : T → Device) (result : Result T TreeFault) (old new : List Step) → Begins path device result old new → Acts names (Anything {T = T}) result old new
  begun device (Ok writer) old new begins = record {
    changes = subst (λ l. ChangesOnly names old l) (sym begins.1) (changes_step names (Made path []) old apart);
    cause = λ is. cc;
    does = tt;
  }
  begun device (Err why) old new begins = stopped names _ why _ old new (λ left may. perhaps [] old left may) begins

  ended : {T : Type 0} (device : Device) (result : Result T TreeFault) (old new : List Step) → Finishes path device result old new → Acts names (Anything {T = T}) result old new
  ended device (Ok x) old new finishes = record {
    changes = subst (λ l. ChangesOnly names old l) (sym finishes.2) (changes_step names (Made path finishes.0) old apart);
    cause = λ is. cc;
    does = tt;
  }
  ended device (Err why) old new finishes = stopped names _ why _ old new (λ left may. perhaps may.0 old left may.1) finishes

  pub goes_begun : {T : Type 0} (device : T → Device) (given : Path) (result : Result T TreeFault) (one two : List Step → Type 0) → given ≡ path
      → Goes one two (Begins given device result) → Goes one two (Acts names (Anything {T = T}) result)
  goes_begun device given result one two same goes =
      goes_as _ _ one two (λ p q begins. begun device result p q begins) (subst (λ n. Goes one two (Begins n device result)) same goes)

  pub goes_ended : {T : Type 0} (device : Device) (given : Path) (result : Result T TreeFault) (one two : List Step → Type 0) → given ≡ path
      → Goes one two (Finishes given device result) → Goes one two (Acts names (Anything {T = T}) result)
  goes_ended device given result one two same goes =
      goes_as _ _ one two (λ p q finishes. ended device result p q finishes) (subst (λ n. Goes one two (Finishes n device result)) same goes)

  pub begun_stopped : {W B : Type 0} (device : W → Device) (given : Path) (why : TreeFault) (one two : List Step → Type 0) → given ≡ path
      → Goes one two (Begins given device (stopping W why)) → Goes one two (Acts names (Anything {T = B}) (stopping B why))
  begun_stopped {W = W} {B = B} device given why one two same goes =
      stopped_as {A = W} {B = B} names (Anything {T = W}) (Anything {T = B}) why one two (goes_begun device given (stopping W why) one two same goes)

  pub begun_then : {W B : Type 0} (device : W → Device) (given : Path) (writer : W) (result : Result B TreeFault) (one mid two : List Step → Type 0) → given ≡ path
      → Goes one mid (Begins given device (giving writer)) → Goes mid two (Acts names (Anything {T = B}) result) → Goes one two (Acts names (Anything {T = B}) result)
  begun_then {W = W} {B = B} device given writer result one mid two same first goes =
      then_given {A = W} {B = B} names (Anything {T = W}) (Anything {T = B}) (Anything {T = B}) writer result one mid two (λ p q r b x y c d. tt) (goes_begun device given (giving writer) one mid same first) goes

  pub ended_then : {B : Type 0} (device : Device) (given : Path) (result : Result B TreeFault) (one mid two : List Step → Type 0) → given ≡ path
      → Goes one mid (Finishes given device (giving {A = Unit {0}} tt)) → Goes mid two (Acts names (Anything {T = B}) result) → Goes one two (Acts names (Anything {T = B}) result)
  ended_then {B = B} device given result one mid two same first goes =
      then_given {A = Unit {0}} {B = B} names (Anything {T = Unit {0}}) (Anything {T = B}) (Anything {T = B}) tt result one mid two (λ p q r b x y c d. tt) (goes_ended {T = Unit {0}} device given (giving {A = Unit {0}} tt) one mid same first) goes
