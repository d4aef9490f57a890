-- What is done with the names of a day.
use Rattle.std.specs.Prelude.{◌≡◌, ◌≢◌, ◌⊎◌, ℕ, Bool, true, List, [], ◌∷◌, Option, None, Some, Result, IfOk, IsSome}
use Rattle.std.specs.List.{All}
use Rattle.msr_tree.specs.Acts.{Acts}
use Rattle.msr_tree.specs.Steps.{AtEachMoment, ChangesOnly, IsReady, Leaves, MayLeave, Path, Step, now, seen}
use Rattle.msr_tree.specs.declared.tree.TreeFault.{TreeFault}

-- the bytes that are seen under a name are left by each crash
abbrev pub Stores : Path → {T : Type 0} → (old new : List Step) → T → Type 0
Stores name old new answer = (bytes : List ℕ) → seen old name ≡ Some bytes → Leaves new name (Some bytes)

-- the bytes that are seen under one name are ready under another
abbrev pub Prepares : (from to : Path) → {T : Type 0} → (old new : List Step) → T → Type 0
Prepares from to old new answer = (bytes : List ℕ) → seen old from ≡ Some bytes → IsReady to bytes new

abbrev pub PreparesIf : (from to : Path) → (old new : List Step) → Bool → Type 0
PreparesIf from to old new answer = answer ≡ true → (bytes : List ℕ) → seen old from ≡ Some bytes → IsReady to bytes new

-- if this is the answer, what is seen under one name is seen under another
abbrev pub ShowsIf : (from to : Path) → (old new : List Step) → Bool → Type 0
ShowsIf from to old new answer = answer ≡ true → (bytes : List ℕ) → seen old from ≡ Some bytes → seen new to ≡ Some bytes

abbrev pub PreparesIfNone : (from to : Path) → {R : Type 0} → (old new : List Step) → Option R → Type 0
PreparesIfNone from to old new answer = answer ≡ None → (bytes : List ℕ) → seen old from ≡ Some bytes → IsReady to bytes new

-- if this is the answer, what was ready under one name is left by each crash under the other
abbrev pub GivesName : (from to : Path) → (old new : List Step) → Bool → Type 0
GivesName from to old new answer = answer ≡ true → (bytes : List ℕ) → IsReady from bytes old → Leaves new to (Some bytes)

-- if nothing is told that speaks against it, the bytes that are seen under one name are left by each crash under another
abbrev pub KeepsAs : (from to : Path) → {R : Type 0} → (old new : List Step) → Option R → Type 0
KeepsAs from to old new answer = answer ≡ None → (bytes : List ℕ) → seen old from ≡ Some bytes → Leaves new to (Some bytes)

-- and both names lead to them already
abbrev pub IsKeptAs : (from to : Path) → {R : Type 0} → (old new : List Step) → Option R → Type 0
IsKeptAs from to old new answer = answer ≡ None
    → (seen old from ≡ seen old to) × ((bytes : List ℕ) → seen old from ≡ Some bytes → Leaves new to (Some bytes))

-- What is seen under one name gets another, on the disk, by way of that of its part. If another file has that name, it is
-- told, and nothing changes.
pub record KeepsName {R : Type 0} (from to part : Path) (result : Result (Option R) TreeFault) (old new : List Step) : Type 0 where
  pub acts : Acts (to ∷ part ∷ []) (KeepsAs from to) result old new
  pub taken : (bytes : List ℕ) → seen old to ≡ Some bytes → seen old from ≢ Some bytes
      → ChangesOnly [] old new × IfOk result IsSome

abbrev pub NamesIfNone : (from to : Path) → {R : Type 0} → (old new : List Step) → Option R → Type 0
NamesIfNone from to old new answer = answer ≡ None → (bytes : List ℕ) → IsReady from bytes old → Leaves new to (Some bytes)

-- if this is the answer, the same bytes are seen under both names
abbrev pub IsSeenAs : (one other : Path) → (old new : List Step) → Bool → Type 0
IsSeenAs one other old new answer = answer ≡ true → seen old one ≡ seen old other

-- nothing is known
abbrev pub Anything : {T : Type 0} → (old new : List Step) → T → Type 0
Anything old new answer = Unit {0}

-- These names lead to nothing, and no name that led to nothing leads to a file.
pub record Clears {T : Type 0} (names : List Path) (old new : List Step) (answer : T) : Type 0 where
  pub gone : All (λ name. now new name ≡ None) names
  pub none_given : (name : Path) → now old name ≡ None → now new name ≡ None

-- each crash leaves one or the other under a name
abbrev pub LeavesEither : Path → (one other : Option (List ℕ)) → List Step → Type 0
LeavesEither name one other past = (after : Option (List ℕ)) → MayLeave past name after → (after ≡ one) ⊎ (after ≡ other)

-- What is ready under one name gets another in place of what has it: at each moment a crash leaves the one or the other.
pub record TakesName {T : Type 0} (from to : Path) (result : Result T TreeFault) (old new : List Step) : Type 0 where
  pub acts : Acts (to ∷ from ∷ []) (λ sooner later _. (bytes : List ℕ) → IsReady from bytes sooner → Leaves later to (Some bytes)) result old new
  pub moments : (before : Option (List ℕ)) (bytes : List ℕ) → Leaves old to before → IsReady from bytes old
      → AtEachMoment (LeavesEither to before (Some bytes)) old new
