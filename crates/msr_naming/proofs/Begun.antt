-- A file in its making.
use Rattle.std.proofs.Common.{◌≡◌, ⊎_elim, ℕ, List, [], ◌∷◌, refl, sym, ap, subst, Result, Ok, Err, Some, arith}
use Rattle.msr_devices.specs.Device.{Device, Takes, unused}
use Rattle.msr_tree.specs.Folders.{ActsOnFiles, ChangesFiles}
use Rattle.msr_tree.specs.Calls.{Begins, DoesStep, FinishesStored, Goes, PerhapsDone}
use Rattle.msr_tree.specs.Steps.{FileStored, IsReady, Made, Path, Removed, Step, seen}
use Rattle.msr_tree.specs.declared.tree.TreeFault.{TreeFault}
use Rattle.msr_tree.proofs.Acting.{goes_as}
use Rattle.msr_tree.proofs.Changes.{ready_stored}
use Rattle.msr_tree.proofs.Crash.{is_self}
use Rattle.msr_tree.proofs.Filing.{acts_does, changes_none, changes_step, changes_then, no_fewer, stopped}
use Rattle.msr_naming.specs.Making.{IsBegun, LeadsToTaken}

-- one call, and then another
pub goes_both : (One Two Both : (old new : List Step) → Type 0) (before mid after : List Step → Type 0)
    → ((old middle new : List Step) → One old middle → Two middle new → Both old new) → Goes before mid One → Goes mid after Two → Goes before after Both
goes_both One Two Both before mid after so one two = record {
  from = λ new went.
      let later = two.from new went in
      let sooner = one.from later.0 later.1 in
      (sooner.0, sooner.1, so sooner.0 later.0 new sooner.2 later.2);
}

seen_made : (path : Path) (bytes : List ℕ) (past : List Step) → seen (Made path bytes ∷ past) path ≡ Some bytes
seen_made path bytes past = rw (is_self path) refl

module _ (path : Path) where
  perhaps : (bytes : List ℕ) (old left : List Step) → PerhapsDone (Made path bytes) old left → ChangesFiles (path ∷ []) old left
  perhaps bytes old left may = ⊎_elim
      (λ same. subst (λ l. ChangesFiles (path ∷ []) old l) (sym same) (changes_none (path ∷ []) old))
      (λ done. subst (λ l. ChangesFiles (path ∷ []) old l) (sym done) (changes_step (path ∷ []) (Made path bytes) old (λ name none. none.0) tt))
      may

  both : (bytes : List ℕ) (old new : List Step) → new ≡ FileStored path ∷ Made path bytes ∷ old → ChangesFiles (path ∷ []) old new
  both bytes old new is = subst (λ l. ChangesFiles (path ∷ []) old l) (sym is)
      (changes_then (path ∷ []) old (Made path bytes ∷ old) (FileStored path ∷ Made path bytes ∷ old)
      (changes_step (path ∷ []) (Made path bytes) old (λ name none. none.0) tt)
      (changes_step (path ∷ []) (FileStored path) (Made path bytes ∷ old) (λ name none. refl) tt))

  pub begun : {W : Type 0} (device : W → Device) (result : Result W TreeFault) (old new : List Step) → Begins path device result old new → ActsOnFiles (path ∷ []) (IsBegun device) result old new
  begun device (Ok writer) old new begins = record {
    changes = subst (λ l. ChangesFiles (path ∷ []) old l) (sym begins.1) (changes_step (path ∷ []) (Made path []) old (λ name none. none.0) tt);
    cause = λ is. cc;
    does = begins.2;
  }
  begun device (Err why) old new begins = stopped (path ∷ []) _ why _ old new (λ left may. perhaps [] old left may) begins

  finished : (writer : Device) (result : Result (Unit {0}) TreeFault) (old new : List Step) → FinishesStored path writer result old new → ActsOnFiles (path ∷ []) (λ sooner later x. LeadsToTaken path writer later) result old new
  finished writer (Ok x) old new finishes = record {
    changes = both finishes.0 old new finishes.2;
    cause = λ is. cc;
    does = record {
      bytes = finishes.0;
      took = finishes.1;
      has = subst (λ (l : List Step). IsReady path finishes.0 l) (sym finishes.2) (ready_stored path finishes.0 (Made path finishes.0 ∷ old) (seen_made path finishes.0 old));
    };
  }
  finished writer (Err why) old new finishes = stopped (path ∷ []) _ why _ old new
      (λ left may. ⊎_elim (λ perhaps_made. perhaps may.0 old left perhaps_made) (λ is. both may.0 old left is) may.1) finishes

  pub goes_finished : (writer : Device) (answer : Result (Unit {0}) TreeFault) (one two : List Step → Type 0)
      → Goes one two (FinishesStored path writer answer) → Goes one two (ActsOnFiles (path ∷ []) (λ sooner later x. LeadsToTaken path writer later) answer)
  goes_finished writer answer one two goes = goes_as _ _ one two (λ p q finishes. finished writer answer p q finishes) goes

  -- what was there was removed, and then it is made
  pub begun_again : {W A : Type 0} (device : W → Device) (first last : Result W TreeFault) (removed : Result A TreeFault) (one two three four : List Step → Type 0)
      → Goes one two (ActsOnFiles (path ∷ []) (IsBegun device) first) → Goes two three (DoesStep (Removed path) removed) → Goes three four (ActsOnFiles (path ∷ []) (IsBegun device) last)
      → Goes one four (ActsOnFiles (path ∷ []) (IsBegun device) last)
  begun_again device first last removed one two three four a b c =
      goes_both _ _ _ one three four
      (λ p q r before acts. record {
        changes = changes_then (path ∷ []) p q r before acts.changes;
        cause = λ is.
            let few = no_fewer (path ∷ []) p q before in
            let more = acts.cause is in
            omega arith;
        does = acts.does;
      })
      (goes_both _ _ (λ p q. ChangesFiles (path ∷ []) p q) one two three
      (λ p q r x y. changes_then (path ∷ []) p q r x.changes (acts_does (path ∷ []) (Removed path) removed q r (λ name none. none.0) tt y).changes) a b) c

-- a file that was begun has what was written
pub taken_is : (path : Path) (begun writer : Device) (bytes : List ℕ) (past : List Step) → begun ≡ unused (Some []) → Takes begun writer bytes → LeadsToTaken path writer past → IsReady path bytes past
taken_is path begun writer bytes past is takes taken =
    let wrote = takes.back [] (ap (λ (d : Device). d.bytes) is) in
    let took = taken.took in
    let same : taken.bytes ≡ bytes = cc in
    subst (λ (b : List ℕ). IsReady path b past) same taken.has
