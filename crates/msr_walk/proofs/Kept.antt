-- Records that keep their own reports on a walk.
use Rattle.std.proofs.Common.{List, [], ◌∷◌, ◌++◌}
use Rattle.msr_folders.specs.Days.{IsDay}
use Rattle.msr_options.specs.declared.task.Archiving.{Archiving}
use Rattle.msr_tree.specs.Steps.{AtEachMoment, ChangesOnly, IsNoneOf, Path, Step, Throughout}
use Rattle.msr_walk.specs.Files.{HaveNames, files_of}
use Rattle.msr_walk.specs.Kills.{KeepsReports, day_names_in}
use Rattle.msr_walk.specs.Laws.{spared}

-- what holds at each moment in other words
module _ (P Q : List Step → Type 0) (so : (past : List Step) → P past → Q past) where
  throughout_so : (old made : List Step) → Throughout P old made → Throughout Q old made
  throughout_so old [] holds = so old holds
  throughout_so old (step ∷ made) holds = (throughout_so old made holds.0, so (step ∷ made ++ old) holds.1)

  pub each_so : (old new : List Step) → AtEachMoment P old new → AtEachMoment Q old new
  each_so old new each = record { made = each.made; since = each.since; holds = throughout_so old each.made each.holds }

-- none of these names is that of records or of a report
pub keeps_aside : (archive : Archiving) (names : List Path) (old new : List Step)
    → (HaveNames archive.folders.out.now archive.folders.reports.now → (path : Path) → IsDay path → IsNoneOf (day_names_in archive path).records names × IsNoneOf (day_names_in archive path).report names)
    → ChangesOnly names old new → KeepsReports archive old new
keeps_aside archive names old new none changes = record {
  each = λ have path day. record {
    each = λ number is_own own has. spared is_own (files_of (day_names_in archive path) number) old new changes.made changes.since
        (changes.spares (day_names_in archive path).records (none have path day).0) (changes.spares (day_names_in archive path).report (none have path day).1) has;
  };
}
