-- What is changed on a walk.
use Rattle.std.specs.Prelude.{◌≡◌, ◌⊎◌, Bool, true, false, List, [], ◌∷◌, ◌++◌, Result}
use Rattle.msr_exchange.specs.Stamped.{all_and_stamp, all_parts_in}
use Rattle.msr_exchange.specs.Work.{names_in, stamp_in}
use Rattle.msr_exchange.specs.declared.work.DayWork.{DayWork}
use Rattle.msr_folders.specs.Days.{IsDay}
use Rattle.msr_tree.specs.Steps.{ChangesOnly, IsNoneOf, Path, Spares, Step}
use Rattle.msr_tree.specs.declared.tree.TreeFault.{TreeFault}
use Rattle.msr_replace.specs.Answers.{Replaces, report_in}
use Rattle.msr_replace.specs.Restored.{RestoresDay}
use Rattle.msr_replace.specs.declared.answers.DayAnswer.{DayAnswer}
use Rattle.msr_replace.specs.declared.answers.DayRestored.{DayRestored}
use Rattle.msr_replace.specs.declared.replacer.Course.{Course}
use Rattle.msr_replace.specs.declared.replacer.Course.TheVariants as course

-- It is none of the names that a day may change, nor of what is in its making in a folder.
pub record IsOfNoDay (work : DayWork) (name : Path) : Type 0 where
  pub days : (path : Path) → IsDay path → IsNoneOf name (all_and_stamp (names_in work path) (stamp_in work path))
  pub parts : (folder : Path) → IsNoneOf name (all_parts_in work folder)

-- what is done with a day: its records get the place of its file, or its original gets it back, as that is promised
abbrev pub IsOfDayDone : Course → DayWork → Path → (old new : List Step) → Type 0
IsOfDayDone course.Root work path old new =
    (result : Result DayAnswer TreeFault) × Replaces work (names_in work path) (report_in work path) (stamp_in work path) result old new
IsOfDayDone course.Out work path old new = ⊥
IsOfDayDone course.Aside work path old new = (result : Result DayRestored TreeFault) × RestoresDay (names_in work path) (stamp_in work path) result old new

-- one call: of a day; or of a folder, in which no more is changed than what is in its making
abbrev pub IsOneCall : Course → DayWork → (old new : List Step) → Type 0
IsOneCall on work old new =
    ((path : Path) × IsDay path × IsOfDayDone on work path old new) ⊎ ((folder : Path) × ChangesOnly (all_parts_in work folder) old new)

-- one after another, up to these moments, and nothing between
abbrev pub AreCalls : Course → DayWork → (moments : List (List Step)) → (old new : List Step) → Type 0
AreCalls on work [] old new = new ≡ old
AreCalls on work (at ∷ moments) old new = IsOneCall on work old at × AreCalls on work moments at new

-- What was done since changes names of days, and of what is in its making, and no other, by such calls alone.
pub record TouchesDays (on : Course) (work : DayWork) (old new : List Step) : Type 0 where
  pub made : List Step
  pub since : new ≡ made ++ old
  pub spares : (name : Path) → IsOfNoDay work name → Spares name made
  pub moments : List (List Step)
  pub calls : AreCalls on work moments old new

-- which days are worked on
abbrev pub course_of : (undo : Bool) → Course
course_of true = course.Aside
course_of false = course.Root
