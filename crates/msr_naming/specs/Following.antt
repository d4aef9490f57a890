-- What is done with the names of a day where a folder may not be stored.
use Rattle.std.specs.Prelude.{Bool, true, false, List, [], ◌∷◌, ◌++◌, ◌≡◌, map, reverse, Result, Err}
use Rattle.msr_tree.specs.Steps.{Step}
use Rattle.msr_tree.specs.declared.tree.TreeFault.{TreeFault}
use Rattle.msr_tree.specs.declared.tree.TreeFault.TheVariants.{Failed}
use Rattle.msr_naming.specs.Naming.{Performs, act_step, told}
use Rattle.msr_naming.specs.declared.files.DayFiles.{DayFiles}
use Rattle.msr_naming.specs.declared.fallback.Naming.{Naming}
use Rattle.msr_naming.specs.declared.files.Name.TheVariants.{Records, RecordsPart, Report, ReportPart, Stamp}
use Rattle.msr_naming.specs.declared.naming.Act.{Act}
use Rattle.msr_naming.specs.declared.naming.Act.TheVariants.{Remove, Store, Rename}

-- the last of what is done over older files: the records get their name
abbrev pub last_acts : List Act
last_acts = Rename RecordsPart Records ∷ []

-- before, the report's name is stored
abbrev pub over_report_acts : List Act
over_report_acts = Store Report ∷ last_acts

-- and before, it gets it
abbrev pub report_acts : List Act
report_acts = Rename ReportPart Report ∷ []

abbrev pub over_gone_acts : List Act
over_gone_acts = Rename ReportPart Report ∷ over_report_acts

-- where no folder is stored
abbrev pub unstored_acts : List Act
unstored_acts = Remove Stamp ∷ Remove Records ∷ Rename ReportPart Report ∷ Rename RecordsPart Records ∷ []

-- The first steps were done, then this one failed, and then the rest was done.
pub record FallsBack (first : List Step) (step : Step) (rest : List Step) (result : Result (Unit {0}) TreeFault) (old new : List Step) : Type 0 where
  pub before : List Step
  pub mid : List Step
  pub done : before ≡ reverse first ++ old
  pub stopped : Performs (step ∷ []) (Err Failed) before mid
  pub after : Performs rest result mid new

-- all steps were done in order, up to what failed first, or only the first ones and the rest
abbrev pub FollowsPlanIf : Bool → (whole first : List Step) → Step → (rest : List Step) → Result (Unit {0}) TreeFault → (old new : List Step) → Type 0
FollowsPlanIf true whole first step rest result old new = Performs whole result old new
FollowsPlanIf false whole first step rest result old new = FallsBack first step rest result old new

-- the records of a day get their name after some steps, between which the folder of the report is to be stored
abbrev pub FollowsPlan : DayFiles → (whole first : List Act) → Naming → (old new : List Step) → Type 0
FollowsPlan files whole first naming old new =
    FollowsPlanIf naming.is_stored (map (act_step files) whole) (map (act_step files) first) (act_step files (Store Report)) (map (act_step files) last_acts)
    (told naming.answer) old new
