-- The states between which the files of a day change places.
use Rattle.std.specs.Prelude.{◌≡◌, List, ℕ, Some}
use Rattle.msr_tree.specs.Steps.{IsReady, Leaves, Step, seen}
use Rattle.msr_exchange.specs.Names.{Names, path_at}
use Rattle.msr_exchange.specs.Promise.{AreKept, KeepsBoth}
use Rattle.msr_exchange.specs.declared.names.Place.{Place}
use Rattle.msr_exchange.specs.declared.names.Place.TheVariants.{Day, DayPart}

-- the names lead to the same bytes
pub record HaveOneContent (names : Names) (one other : Place) (a b : List ℕ) (past : List Step) : Type 0 where
  pub kept : AreKept names one other a b past
  pub same : seen past (path_at names Day) ≡ seen past (path_at names other)

-- the day's file has the other's bytes, on the disk
pub record IsInPlace (names : Names) (one other : Place) (a b : List ℕ) (past : List Step) : Type 0 where
  pub keeps : KeepsBoth names one a other b past
  pub day : Leaves past (path_at names Day) (Some b)

-- both are seen, the one in ROOT
pub record AreSeenApart (names : Names) (one other : Place) (a b : List ℕ) (past : List Step) : Type 0 where
  pub keeps : KeepsBoth names one a other b past
  pub day : seen past (path_at names Day) ≡ Some a
  pub comes : seen past (path_at names other) ≡ Some b

-- both are on the disk, the one in ROOT
pub record AreHome (names : Names) (one other : Place) (a b : List ℕ) (past : List Step) : Type 0 where
  pub day : Leaves past (path_at names Day) (Some a)
  pub comes : Leaves past (path_at names other) (Some b)

-- and the one also has its own name
pub record IsAside (names : Names) (one other : Place) (a b : List ℕ) (past : List Step) : Type 0 where
  pub home : AreHome names one other a b past
  pub waits : Leaves past (path_at names one) (Some a)

-- and the other is ready beside the name in ROOT
pub record IsPrepared (names : Names) (one other : Place) (a b : List ℕ) (past : List Step) : Type 0 where
  pub aside : IsAside names one other a b past
  pub ready : IsReady (path_at names DayPart) b past

-- both have their own names, and the other is in ROOT
pub record HavePlaces (names : Names) (one other : Place) (a b : List ℕ) (past : List Step) : Type 0 where
  pub day : Leaves past (path_at names Day) (Some b)
  pub waits : Leaves past (path_at names one) (Some a)
  pub comes : Leaves past (path_at names other) (Some b)

-- and the one is ready to go back
pub record MayGoBack (names : Names) (one other : Place) (a b : List ℕ) (past : List Step) : Type 0 where
  pub places : HavePlaces names one other a b past
  pub ready : IsReady (path_at names DayPart) a past

-- a file waits under its own name
pub record Waits (names : Names) (other : Place) (b : List ℕ) (past : List Step) : Type 0 where
  pub waits : Leaves past (path_at names other) (Some b)

-- and is ready beside the name in ROOT
pub record IsReadyToReturn (names : Names) (other : Place) (b : List ℕ) (past : List Step) : Type 0 where
  pub waits : Leaves past (path_at names other) (Some b)
  pub ready : IsReady (path_at names DayPart) b past

-- it has that name
pub record HasReturned (names : Names) (b : List ℕ) (past : List Step) : Type 0 where
  pub day : Leaves past (path_at names Day) (Some b)
