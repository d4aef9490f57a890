-- The files of a day in their making.
use Rattle.std.proofs.Common.{◌≡◌, List, [], ◌∷◌, sym, subst, Result}
use Rattle.msr_devices.specs.Device.{Device}
use Rattle.msr_tree.specs.Folders.{ActsOnFiles}
use Rattle.msr_tree.specs.Calls.{Begins, Goes}
use Rattle.msr_tree.specs.Steps.{ChangesOnly, IsNoneOf, Path, Step}
use Rattle.msr_tree.specs.declared.tree.TreeFault.{TreeFault}
use Rattle.msr_tree.proofs.Acting.{goes_as}
use Rattle.msr_tree.proofs.Changes as change
use Rattle.msr_naming.specs.Making.{IsBegun, LeadsToTaken}
use Rattle.msr_naming.proofs.Begun.{begun}
use Rattle.msr_making.specs.Parts.{called_told}
use Rattle.msr_making.specs.declared.answer.Stop.{Stop}

pub goes_begun : (path : Path) {W : Type 0} (device : W → Device) (result : Result W Stop) (answer : Result W TreeFault) (one two : List Step → Type 0) → called_told result ≡ answer
    → Goes one two (Begins path device answer) → Goes one two (ActsOnFiles (path ∷ []) (IsBegun device) (called_told result))
goes_begun path {W = W} device result answer one two is goes =
    goes_as _ _ one two (λ p q begins. begun path device (called_told result) p q begins) (subst (λ (a : Result W TreeFault). Goes one two (Begins path device a)) (sym is) goes)

-- what was made stays while other names change
pub taken_kept : (names : List Path) (path : Path) (writer : Device) (old new : List Step) → IsNoneOf path names → ChangesOnly names old new → LeadsToTaken path writer old → LeadsToTaken path writer new
taken_kept names path writer old new none changes taken = record {
  bytes = taken.bytes;
  took = taken.took;
  has = change.ready_kept names path taken.bytes old new none changes taken.has;
}
