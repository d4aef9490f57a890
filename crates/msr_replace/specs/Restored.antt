-- What is told of a day whose original was to get its place again.
use Rattle.std.specs.Prelude.{◌<◌, ◌≡◌, ℕ, List, None, Some, Result, IfOk, IsErrOf}
use Rattle.msr_tree.specs.Steps.{AtEachMoment, ChangesOnly, Leaves, Step, failures, now}
use Rattle.msr_tree.specs.declared.tree.TreeFault.{TreeFault}
use Rattle.msr_tree.specs.declared.tree.TreeFault.TheVariants.{Failed}
use Rattle.msr_naming.specs.declared.stamp.StampOf.TheVariants as stamped
use Rattle.msr_exchange.specs.Names.{Names, StampPlaces, all}
use Rattle.msr_exchange.specs.Promise.{AreKept, IsUnderEither, KeepsBoth, LeavesAlone}
use Rattle.msr_exchange.specs.Stamped.{LeavesStamp, all_and_stamp}
use Rattle.msr_replace.specs.declared.answers.DayRefusal.{DayRefusal}
use Rattle.msr_replace.specs.declared.answers.DayRefusal.TheVariants as said
use Rattle.msr_replace.specs.declared.answers.DayRestored.{DayRestored}
use Rattle.msr_replace.specs.declared.answers.DayRestored.TheVariants as restored
use Rattle.msr_exchange.specs.declared.moves.Hindrance.TheVariants as hindrance
use Rattle.msr_exchange.specs.declared.names.Place.TheVariants.{Original, Records}
use Rattle.msr_exchange.specs.declared.told.Refusal.{Refusal}
use Rattle.msr_exchange.specs.declared.told.Refusal.TheVariants as refusal
use Rattle.msr_exchange.specs.declared.told.Told.{Told}
use Rattle.msr_exchange.specs.declared.told.Told.TheVariants as told

-- why a day is refused
abbrev pub refusal_of : Refusal → DayRefusal
refusal_of (refusal.Day hindrance.Dress) = said.Dress
refusal_of (refusal.Day hindrance.Link) = said.Link
refusal_of (refusal.Day hindrance.Taken) = said.Link
refusal_of (refusal.Aside hindrance.Link) = said.AsideLink
refusal_of (refusal.Aside hindrance.Taken) = said.AsideTaken
refusal_of (refusal.Aside hindrance.Dress) = said.AsideDress
refusal_of (refusal.Records hindrance.Link) = said.RecordsLink
refusal_of (refusal.Records hindrance.Taken) = said.RecordsTaken
refusal_of (refusal.Records hindrance.Dress) = said.Dress

abbrev pub restored_of : Told → DayRestored
restored_of told.Done = restored.Restored
restored_of told.Same = restored.Restored
restored_of told.Changed = restored.Changed
restored_of (told.Refused why) = restored.Refused (refusal_of why)

-- What is promised of a day whose original is to get its place again, as of the way there; and if no file has that place,
-- the original is left by each crash under one of its two names, at the end under the day's.
pub record PutsBackDay (names : Names) (result : Result DayRestored TreeFault) (old new : List Step) : Type 0 where
  pub changes : ChangesOnly (all names) old new
  pub cause : IsErrOf result Failed → failures old < failures new
  pub safe : (a b : List ℕ) → AreKept names Records Original a b old → AtEachMoment (KeepsBoth names Records a Original b) old new
  pub alone : LeavesAlone names.records names.day old new
  pub answers : (a b : List ℕ) → AreKept names Records Original a b old → IfOk result (λ answer. answer ≡ restored.Restored → Leaves new names.day (Some b))
  pub gives_back : (b : List ℕ) → now old names.day ≡ None → Leaves old names.original (Some b)
      → AtEachMoment (IsUnderEither names.day names.original b) old new
      × IfOk result (λ answer. answer ≡ restored.Restored → Leaves new names.day (Some b))

-- The same; and the stamp that a crash leaves might have been left before, or is that of the original, which then has its
-- place again.
pub record RestoresDay (names : Names) (stamp : StampPlaces) (result : Result DayRestored TreeFault) (old new : List Step) : Type 0 where
  pub changes : ChangesOnly (all_and_stamp names stamp) old new
  pub cause : IsErrOf result Failed → failures old < failures new
  pub safe : (a b : List ℕ) → AreKept names Records Original a b old → AtEachMoment (KeepsBoth names Records a Original b) old new
  pub alone : LeavesAlone names.records names.day old new
  pub answers : (a b : List ℕ) → AreKept names Records Original a b old → IfOk result (λ answer. answer ≡ restored.Restored → Leaves new names.day (Some b))
  pub gives_back : (b : List ℕ) → now old names.day ≡ None → Leaves old names.original (Some b)
      → AtEachMoment (IsUnderEither names.day names.original b) old new
      × IfOk result (λ answer. answer ≡ restored.Restored → Leaves new names.day (Some b))
  pub stamps : (a b : List ℕ) → AreKept names Records Original a b old → AtEachMoment (LeavesStamp names stamp stamped.Input b old) old new
