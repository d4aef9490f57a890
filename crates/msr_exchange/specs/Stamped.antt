-- What is done with the stamp of a day whose files have changed places.
use Rattle.std.specs.Prelude.{◌≡◌, ◌⊎◌, ℕ, Bool, false, true, List, [], ◌∷◌, codes, length, Option, None, Some, IfSome, IsSomeAnd}
use Rattle.std.specs.Str.{bytes_eq}
use Rattle.msr_tree.specs.Steps.{AtEachMoment, ChangesOnly, IsReady, Leaves, MayLeave, Path, Step, now}
use Rattle.msr_tree.specs.declared.facts.Facts.{Facts}
use Rattle.msr_tree.specs.declared.facts.Kind.TheVariants.{Regular}
use Rattle.msr_naming.specs.Stamp.{stamp_of, stamp_text}
use Rattle.msr_naming.specs.declared.stamp.Stamp.{Stamp}
use Rattle.msr_naming.specs.declared.stamp.StampOf.{StampOf}
use Rattle.msr_naming.specs.declared.stamp.StampOf.TheVariants as stamped
use Rattle.msr_exchange.specs.Names.{AreStampNames, Names, StampPlaces, all, path_below}
use Rattle.msr_exchange.specs.Promise.{KeepsBoth}
use Rattle.msr_exchange.specs.Work.{parts_in}
use Rattle.msr_exchange.specs.declared.work.DayWork.{DayWork}
use Rattle.msr_exchange.specs.declared.names.Place.TheVariants.{Original, Records}

-- the names that change when a day's files change places
abbrev pub all_and_stamp : Names → StampPlaces → List Path
all_and_stamp names stamp = stamp.path ∷ stamp.part ∷ all names

abbrev pub stamp_names : StampPlaces → List Path
stamp_names stamp = stamp.path ∷ stamp.part ∷ []

-- the name of the stamp that is in its making in a folder, and all such names there
abbrev pub stamp_part_in : DayWork → (folder : List ℕ) → Path
stamp_part_in work folder = path_below work.reports.now (path_below folder (codes ".msrepack-replace.stamp"))

abbrev pub all_parts_in : DayWork → (folder : List ℕ) → List Path
all_parts_in work folder = stamp_part_in work folder ∷ parts_in work folder

-- The text is that of a stamp of a file with as many bytes.
pub record IsStampText (of : StampOf) (bytes text : List ℕ) : Type 0 where
  pub stamp : Stamp
  pub as_long : stamp.bytes ≡ length bytes
  pub is : text ≡ stamp_text of stamp

-- A text that a crash leaves under a name is one that a crash might have left before, or such a one.
pub record LeavesTexts (name : Path) (Is : (text : List ℕ) → Type 0) (old past : List Step) : Type 0 where
  pub may : (text : List ℕ) → MayLeave past name (Some text) → MayLeave old name (Some text) ⊎ Is text

-- so at each moment since
abbrev pub AddsTexts : (name : Path) → (Is : (text : List ℕ) → Type 0) → (old new : List Step) → Type 0
AddsTexts name Is old new = AtEachMoment (LeavesTexts name Is old) old new

-- What a crash leaves of the stamp might have been left before, or it is the stamp of the file that each crash leaves in
-- ROOT.
pub record LeavesStamp (names : Names) (stamp : StampPlaces) (of : StampOf) (bytes : List ℕ) (old past : List Step) : Type 0 where
  pub may : (text : List ℕ) → MayLeave past stamp.path (Some text)
      → MayLeave old stamp.path (Some text) ⊎ (IsStampText of bytes text × Leaves past names.day (Some bytes))

-- the stamp of what was found, a regular file
pub record IsStampOfFound (facts : Facts) (stamp : Stamp) : Type 0 where
  pub regular : facts.kind ≡ Regular
  pub is : stamp ≡ stamp_of facts

pub record FindsStamp (name : Path) (found : Option Stamp) (old new : List Step) : Type 0 where
  pub changes : ChangesOnly [] old new
  pub is : IfSome found (λ stamp. IsSomeAnd (now old name) (λ file. stamp.bytes ≡ length file.bytes))

-- What was made gets the stamp's name, if the two names are apart.
pub record NamesStamp (stamp : StampPlaces) (old new : List Step) : Type 0 where
  pub changes : ChangesOnly (stamp_names stamp) old new
  pub adds : (text : List ℕ) → bytes_eq stamp.path stamp.part ≡ false → IsReady stamp.part text old
      → AddsTexts stamp.path (λ other. other ≡ text) old new

-- No stamp gets the name.
pub record DropsStamp (names : Names) (stamp : StampPlaces) (old new : List Step) : Type 0 where
  pub changes : ChangesOnly (stamp_names stamp) old new
  pub adds : AreStampNames names stamp → AddsTexts stamp.path (λ text. ⊥) old new

-- This stamp gets it, or none.
pub record GivesStamp (names : Names) (stamp : StampPlaces) (of : StampOf) (value : Stamp) (old new : List Step) : Type 0 where
  pub changes : ChangesOnly (stamp_names stamp) old new
  pub adds : AreStampNames names stamp → AddsTexts stamp.path (λ text. text ≡ stamp_text of value) old new

-- The stamp is that of the file in ROOT, or none is left.
pub record StampsDay (names : Names) (stamp : StampPlaces) (of : StampOf) (old new : List Step) : Type 0 where
  pub changes : ChangesOnly (stamp_names stamp) old new
  pub adds : AreStampNames names stamp → (bytes : List ℕ) → Leaves old names.day (Some bytes)
      → AtEachMoment (LeavesStamp names stamp of bytes old) old new

-- the answer tells whether the records are not in OUT
pub record TellsGone (name : Path) (gone : Bool) (old new : List Step) : Type 0 where
  pub changes : ChangesOnly [] old new
  pub none : gone ≡ true → now old name ≡ None

-- The stamp is that of the records, if they are in ROOT, and no longer in OUT.
pub record StampsRecords (names : Names) (stamp : StampPlaces) (old new : List Step) : Type 0 where
  pub changes : ChangesOnly (stamp_names stamp) old new
  pub adds : AreStampNames names stamp → (a b : List ℕ) → KeepsBoth names Original a Records b old
      → AtEachMoment (LeavesStamp names stamp stamped.Records b old) old new
