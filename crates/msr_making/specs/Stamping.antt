-- What is done with the stamp of a day.
use Rattle.std.specs.Prelude.{◌≡◌, Bool, true, List, [], ◌∷◌}
use Rattle.msr_tree.specs.Folders.{ChangesFiles}
use Rattle.msr_tree.specs.Steps.{IsReady, Step}
use Rattle.msr_tree.specs.declared.facts.Facts.{Facts}
use Rattle.msr_naming.specs.declared.files.DayFiles.{DayFiles}
use Rattle.msr_naming.specs.Stamp.{stamp_of, stamp_text}
use Rattle.msr_naming.specs.declared.stamp.StampOf.TheVariants.{Input}
use Rattle.msr_making.specs.declared.answer.Left.{Left}
use Rattle.msr_making.specs.declared.answer.Left.TheVariants as left
use Rattle.msr_making.specs.declared.looks.Sight.{Sight}
use Rattle.msr_making.specs.declared.looks.Sight.TheVariants.{Found}

-- That of the day's own file, as a look found it, waits for its name.
pub record IsStampOf (sight : Sight) (files : DayFiles) (new : List Step) : Type 0 where
  pub facts : Facts
  pub found : sight ≡ Found facts
  pub ready : IsReady files.stamp.part (stamp_text Input (stamp_of facts)) new

pub record StampsAsked (sight : Sight) (files : DayFiles) (is_stored : Bool) (answer : Left) (old new : List Step) : Type 0 where
  pub changes : ChangesFiles (files.stamp.part ∷ []) old new
  pub waits : answer ≡ left.Stamp → (is_stored ≡ true) × IsStampOf sight files new
