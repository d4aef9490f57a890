-- What is done with the stamp of a day whose original was to get its place again.
use Rattle.std.specs.Prelude.{◌≡◌, ◌≢◌, ℕ, List, Some}
use Rattle.msr_tree.specs.Steps.{AtEachMoment, ChangesOnly, Leaves, Step}
use Rattle.msr_naming.specs.declared.stamp.StampOf.TheVariants as stamped
use Rattle.msr_exchange.specs.Names.{AreStampNames, Names, StampPlaces}
use Rattle.msr_exchange.specs.Stamped.{LeavesStamp, stamp_names}
use Rattle.msr_replace.specs.declared.answers.DayRestored.{DayRestored}
use Rattle.msr_replace.specs.declared.answers.DayRestored.TheVariants.{Restored}

-- If it got it, a stamp that a crash leaves might have been left before, or is that of the original.
pub record StampsRestored (names : Names) (stamp : StampPlaces) (answer : DayRestored) (old new : List Step) : Type 0 where
  pub changes : ChangesOnly (stamp_names stamp) old new
  pub adds : AreStampNames names stamp → answer ≡ Restored → (bytes : List ℕ) → Leaves old names.day (Some bytes)
      → AtEachMoment (LeavesStamp names stamp stamped.Input bytes old) old new
  pub none : answer ≢ Restored → new ≡ old
