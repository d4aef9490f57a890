-- What a walk to its end told of the folders, by what their names lead to.
use Rattle.std.specs.Prelude.{◌≡◌, ◌<◌, ℕ, Bool, true, false, List, ◌++◌, Option, None, IsSome, is_some, String}
use Rattle.std.specs.Borrow.{Bor}
use Rattle.msr_devices.specs.Device.{Device, Takes}
use Rattle.msr_exchange.specs.declared.work.DayWork.{DayWork}
use Rattle.msr_folders.specs.Entries.{Visit}
use Rattle.msr_folders.specs.Stopping.{AreTold, AreToldFirst, entries_of}
use Rattle.msr_folders.specs.Visits.{IsWalk}
use Rattle.msr_folders.specs.declared.found.WalkFound.{WalkFound}
use Rattle.msr_options.specs.declared.task.Replacing.{Replacing}
use Rattle.msr_tree.specs.Calls.{Goes}
use Rattle.msr_tree.specs.Steps.{Step}
use Rattle.msr_replace.specs.Entries.{IsExchangeEntry, IsExchangeEntryLine, IsStoppedAt}
use Rattle.msr_replace.specs.Said.{IsCourse, Said, TellsSaid}
use Rattle.msr_replace.specs.Sums.{exchange_summary}
use Rattle.msr_replace.specs.Touched.{TouchesDays, course_of}
use Rattle.msr_replace.specs.Walk.{TellsFound}
use Rattle.msr_replace.specs.declared.progress.Progress.{Progress}
use Rattle.msr_replace.specs.declared.replacer.Course.TheVariants as course

-- What is to be done with each day is what is asked for.
pub record IsWorkOf (asked : Replacing) (work : DayWork) : Type 0 where
  pub root : work.root.now ≡ asked.folders.root.now
  pub out : work.out.now ≡ asked.folders.out.now
  pub reports : work.reports.now ≡ asked.folders.reports.now
  pub aside : work.aside.now ≡ asked.aside.now
  pub only_smaller : work.only_smaller ≡ asked.only_smaller
  pub touch : work.touch ≡ asked.touch
  pub int24 : work.int24 ≡ asked.int24
  pub any_age : asked.older_than ≡ 0 → work.changed_before ≡ None
  pub of_age : 0 < asked.older_than → IsSome work.changed_before

-- Days were replaced, or restored, in the folders that are asked for, and nothing else was changed.
pub record ChangesAsked (asked : Replacing) (old new : List Step) : Type 0 where
  pub work : DayWork
  pub is_work : IsWorkOf asked work
  pub touches : TouchesDays (course_of asked.undo) work old new

-- The archive was walked, and then its records.
pub record AreBothCourses (work : DayWork) (below : List (Bor (List ℕ))) (said : List Said) (old new : List Step) : Type 0 where
  pub mid : List Step
  pub visits : List Visit
  pub one : List Said
  pub archive : IsCourse course.Root work below visits one old mid
  pub records : List Visit
  pub two : List Said
  pub orphans : IsCourse course.Out work below records two mid new
  pub whole : said ≡ one ++ two

abbrev pub AreCourses : (undo : Bool) → DayWork → List (Bor (List ℕ)) → List Said → (old new : List Step) → Type 0
AreCourses true work below said old new = (visits : List Visit) × IsCourse course.Aside work below visits said old new
AreCourses false work below said old new = AreBothCourses work below said old new

-- All courses were walked.
pub record TellsCourses (undo : Bool) (work : DayWork) (below : List (Bor (List ℕ))) (before after : List Step → Type 0)
    (out0 out : Device) (old new : Progress) : Type 0 where
  pub said : List Said
  pub tells : TellsSaid said out0 out old new
  pub goes : Goes before after (AreCourses undo work below said)

-- The whole text was printed: of each entry what is said of it, in order, up to one in which the tree failed, and then the
-- sums.
pub record ReplacesTree {Z : Type 0} (asked : Replacing) (before after : List Step → Type 0) (out0 out : Device) (failed : Option (String Z))
    (found : WalkFound) : Type 0 where
  pub work : DayWork
  pub is_work : IsWorkOf asked work
  pub said : List Said
  pub first : AreToldFirst said
  pub all : is_some failed ≡ false → AreTold said
  pub stopped : IsStoppedAt (entries_of said) failed
  pub printed : List ℕ
  pub prints : Takes out0 out printed
  pub text : IsWalk IsExchangeEntry IsExchangeEntryLine (exchange_summary asked.undo) printed (entries_of said)
  pub tells : TellsFound (entries_of said) found
  pub goes : Goes before after (AreCourses asked.undo work asked.below.items said)
