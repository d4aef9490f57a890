-- What a day is that is left as it is.
use Rattle.std.specs.Prelude.{◌≡◌, ℕ, Bool, true, List, IsSomeAnd}
use Rattle.msr_making.specs.Places.{paths_of}
use Rattle.msr_making.specs.Told.{IsLeftThere}
use Rattle.msr_making.specs.declared.answer.Repacked.{Repacked}
use Rattle.msr_naming.specs.Promise.{HasOwn}
use Rattle.msr_naming.specs.Stamp.{stamp_text}
use Rattle.msr_naming.specs.declared.files.DayFiles.{DayFiles}
use Rattle.msr_naming.specs.declared.stamp.StampOf.TheVariants.{Input}
use Rattle.msr_options.specs.declared.days.DayOptions.{DayOptions}
use Rattle.msr_tree.specs.Steps.{Path, Step, seen}

-- The stamp of a day that an earlier walk left is of the records and the report that stand beside it, if whatever the power
-- leaves of the day when it is cut is its own.
abbrev pub LeftDayIsStamped : Type 0
LeftDayIsStamped = (asked : DayOptions) (input : Path) (files : DayFiles) (repacked : Repacked) (past : List Step)
    → (is_own : (records report : List ℕ) → Bool) → (is_of : (stamp records report : List ℕ) → Bool) → HasOwn is_own is_of files past
    → (left : IsLeftThere asked (paths_of input files) repacked past)
    → IsSomeAnd (seen past files.records.path) (λ records. is_of (stamp_text Input left.stamp) records left.kept.report.text ≡ true)
