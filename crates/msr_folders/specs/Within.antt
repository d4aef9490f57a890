-- What is changed within two folders.
use Rattle.std.specs.Prelude.{◌≡◌, List, ◌++◌}
use Rattle.msr_tree.specs.Listing.{has_folder}
use Rattle.msr_tree.specs.Steps.{Path, Spares, Step}
use Rattle.msr_folders.specs.Entries.{StandsWithin}

-- Only names within these two folders lead elsewhere, and no folder is made.
pub record ChangesWithin (one two : Path) (old new : List Step) : Type 0 where
  pub made : List Step
  pub since : new ≡ made ++ old
  pub spares : (name : Path) → ¬ (StandsWithin one name) → ¬ (StandsWithin two name) → Spares name made
  pub folders : (place : Path) → has_folder new place ≡ has_folder old place

-- What stands within a folder stands in neither of two others.
pub record IsSeparate (root one two : Path) : Type 0 where
  pub from_one : (place : Path) → StandsWithin root place → ¬ (StandsWithin one place)
  pub from_two : (place : Path) → StandsWithin root place → ¬ (StandsWithin two place)
