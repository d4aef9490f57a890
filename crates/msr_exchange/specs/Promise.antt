-- What is promised of a day whose two files change places.
use Rattle.std.specs.Prelude.{◌<◌, ◌≡◌, ◌≢◌, ◌⊎◌, ℕ, List, [], ◌∷◌, Option, None, Some, Result, IfOk, IfSome, IsErrOf}
use Rattle.msr_tree.specs.Steps.{AtEachMoment, ChangesOnly, Leaves, MayLeave, Path, Step, failures, now, seen}
use Rattle.msr_tree.specs.declared.tree.TreeFault.{TreeFault}
use Rattle.msr_tree.specs.declared.tree.TreeFault.TheVariants.{Failed}
use Rattle.msr_exchange.specs.Names.{Names, all, path_at}
use Rattle.msr_exchange.specs.declared.names.Place.{Place}
use Rattle.msr_exchange.specs.declared.names.Place.TheVariants.{Day, DayPart, Note}
use Rattle.msr_exchange.specs.declared.told.Told.{Told}
use Rattle.msr_exchange.specs.declared.told.Told.TheVariants.{Changed, Done, Refused, Same}

-- each crash leaves these bytes under one name or under the other
abbrev pub IsUnderEither : (one other : Path) → (bytes : List ℕ) → List Step → Type 0
IsUnderEither one other bytes past = (after beside : Option (List ℕ)) → MayLeave past one after → MayLeave past other beside
    → (after ≡ Some bytes) ⊎ (beside ≡ Some bytes)

-- Each crash leaves one of the two contents in ROOT, whole, and each of the two in ROOT or under its own name.
pub record KeepsBoth (names : Names) (one : Place) (a : List ℕ) (other : Place) (b : List ℕ) (past : List Step) : Type 0 where
  pub day : (after : Option (List ℕ)) → MayLeave past (path_at names Day) after → (after ≡ Some a) ⊎ (after ≡ Some b)
  pub first : IsUnderEither (path_at names Day) (path_at names one) a past
  pub second : IsUnderEither (path_at names Day) (path_at names other) b past

-- Each crash leaves the other's content in ROOT, and the one under its own name.
pub record HaveChanged (names : Names) (one : Place) (a b : List ℕ) (past : List Step) : Type 0 where
  pub day : Leaves past (path_at names Day) (Some b)
  pub waits : Leaves past (path_at names one) (Some a)

-- what an answer says of the two contents
pub record Says (names : Names) (one : Place) (a b : List ℕ) (new : List Step) (told : Told) : Type 0 where
  pub done : told ≡ Done → HaveChanged names one a b new
  pub same : told ≡ Same → Leaves new (path_at names Day) (Some b)

-- Where both files are kept, and this holds of their contents, both are kept at each moment since; no other names change;
-- and the answer is so.
pub record Keeps (names : Names) (one other : Place) (Before : (a b : List ℕ) → List Step → Type 0) (result : Result Told TreeFault) (old new : List Step) : Type 0 where
  pub changes : ChangesOnly (all names) old new
  pub cause : IsErrOf result Failed → failures old < failures new
  pub safe : (a b : List ℕ) → Before a b old → AtEachMoment (KeepsBoth names one a other b) old new
  pub answers : (a b : List ℕ) → Before a b old → IfOk result (λ told. Says names one a b new told)

-- what has a name, and is another file than the day's, has it at each moment since
abbrev pub LeavesAlone : (name day : Path) → (old new : List Step) → Type 0
LeavesAlone name day old new = (bytes : List ℕ) → seen old name ≡ Some bytes → seen old day ≢ Some bytes
    → AtEachMoment (λ past. seen past name ≡ Some bytes) old new

-- Both files are kept, and another one that has the name of the first is left alone.
pub record KeepsAll (names : Names) (one other : Place) (Before : (a b : List ℕ) → List Step → Type 0) (result : Result Told TreeFault) (old new : List Step) : Type 0 where
  pub keeps : Keeps names one other Before result old new
  pub alone : LeavesAlone (path_at names one) (path_at names Day) old new

-- the other file has the day's name
abbrev pub HasItsPlace : Told → Type 0
HasItsPlace Done = Unit {0}
HasItsPlace Same = Unit {0}
HasItsPlace Changed = ⊥
HasItsPlace (Refused why) = ⊥

-- A file that only waits under its own name, since no file has the day's, is left by each crash under one of the two; and
-- if all is done, under the day's.
abbrev pub KeepsWaiting : (names : Names) (other : Place) (result : Result Told TreeFault) (old new : List Step) → Type 0
KeepsWaiting names other result old new = (b : List ℕ) → now old (path_at names Day) ≡ None → Leaves old (path_at names other) (Some b)
    → AtEachMoment (IsUnderEither (path_at names Day) (path_at names other) b) old new
    × IfOk result (λ told. HasItsPlace told → Leaves new (path_at names Day) (Some b))

-- What is done with a file that only waits under its own name: where this holds of it, it is left so at each moment.
pub record PutsBack (names : Names) (other : Place) (Before : (b : List ℕ) → List Step → Type 0) (result : Result Told TreeFault) (old new : List Step) : Type 0 where
  pub changes : ChangesOnly (path_at names Day ∷ path_at names DayPart ∷ path_at names Note ∷ path_at names other ∷ []) old new
  pub cause : IsErrOf result Failed → failures old < failures new
  pub moments : (b : List ℕ) → Before b old → AtEachMoment (IsUnderEither (path_at names Day) (path_at names other) b) old new
  pub done : (b : List ℕ) → Before b old → IfOk result (λ told. HasItsPlace told → Leaves new (path_at names Day) (Some b))

-- The same, of a day whose original gets its place again, also if no file has it.
pub record Restores (names : Names) (one other : Place) (Before : (a b : List ℕ) → List Step → Type 0) (result : Result Told TreeFault) (old new : List Step) : Type 0 where
  pub all_kept : KeepsAll names one other Before result old new
  pub gives_back : KeepsWaiting names other result old new

-- both are kept, and what has the other name is the other file
pub record AreKept (names : Names) (one other : Place) (a b : List ℕ) (past : List Step) : Type 0 where
  pub keeps : KeepsBoth names one a other b past
  pub comes : IfSome (seen past (path_at names other)) (λ bytes. bytes ≡ b)
