-- A stamp is written.
use Rattle.std.proofs.Common.{◌≡◌, ℕ, Bool, true, false, List, [], ◌∷◌, refl, subst, Result, Ok, Err, Some, OnOk}
use Rattle.std.specs.Result.{is_err, is_ok}
use Rattle.msr_devices.specs.Device.{Device, Takes, unused}
use Rattle.msr_tree.specs.Folders.{ActsOnFiles}
use Rattle.msr_tree.specs.Calls.{FinishesStored, Goes}
use Rattle.msr_tree.specs.Steps.{IsReady, Path, Step}
use Rattle.msr_tree.specs.declared.tree.TreeFault.{TreeFault}
use Rattle.msr_tree.proofs.Acting.{giving, goes_as}
use Rattle.msr_tree.proofs.Filing.{changes_none, changes_then}
use Rattle.msr_naming.specs.Making.{IsBegun, LeadsToTaken, WritesText}
use Rattle.msr_naming.proofs.Begun.{goes_both, goes_finished, taken_is}

module _ (path : Path) (text : List ℕ) where
  pub unstamped : (one : List Step → Type 0) → Goes one one (WritesText path text false)
  unstamped one = record { from = λ new went. (new, went, record { changes = changes_none (path ∷ []) new; ready = λ is. absurd cc }) }

  pub unbegun : {A : Type 0} (Done : (old new : List Step) → A → Type 0) (result : Result A TreeFault) (one two : List Step → Type 0) → Goes one two (ActsOnFiles (path ∷ []) Done result) → Goes one two (WritesText path text false)
  unbegun Done result one two goes = goes_as _ _ one two (λ p q acts. record { changes = acts.changes; ready = λ is. absurd cc }) goes

  taken_ready : (begun taken : Device) (answer : Result (Unit {0}) TreeFault) (is : Bool) (old new : List Step) → begun ≡ unused (Some []) → Takes begun taken text
      → (is ≡ true → answer ≡ Ok tt) → ActsOnFiles (path ∷ []) (λ sooner later x. LeadsToTaken path taken later) answer old new → is ≡ true → IsReady path text new
  taken_ready begun taken answer is old new starts takes ok acts so =
      let there : ActsOnFiles (path ∷ []) (λ sooner later x. LeadsToTaken path taken later) (giving {A = Unit {0}} tt) old new = subst (λ (a : Result (Unit {0}) TreeFault). ActsOnFiles (path ∷ []) (λ sooner later x. LeadsToTaken path taken later) a old new) (ok so) acts in
      taken_is path begun taken text new starts takes there.does

  pub stamped : {W : Type 0} (device : W → Device) (writer : W) (taken : Device) (answer : Result (Unit {0}) TreeFault) (is : Bool) (one mid two : List Step → Type 0) → Takes (device writer) taken text
      → (is ≡ true → answer ≡ Ok tt) → Goes one mid (ActsOnFiles (path ∷ []) (IsBegun device) (giving writer)) → Goes mid two (FinishesStored path taken answer) → Goes one two (WritesText path text is)
  stamped device writer taken answer is one mid two takes ok first second = goes_both _ _ _ one mid two
      (λ p q r x y. record {
        changes = changes_then (path ∷ []) p q r x.changes y.changes;
        ready = taken_ready (device writer) taken answer is q r x.does takes ok y;
      }) first (goes_finished path taken answer mid two second)

-- what a test of an answer says
pub on_ok : {E P : Type 0} (r : Result (Unit {0}) E) → is_err r ≡ false → OnOk r P → P
on_ok (Ok x) not is = is
on_ok (Err e) not is = absurd cc

pub ok_is : (r : Result (Unit {0}) TreeFault) → is_ok r ≡ true → r ≡ Ok tt
ok_is (Ok x) so = refl
ok_is (Err e) so = absurd cc
