-- A call over files alone: what Changes.antt and Acting.antt say, with the folders as they were.
use Rattle.std.proofs.Common.{◌≡◌, ◌≤◌, List, ◌∷◌, Option, Result, Err, ℕ}
use Rattle.msr_tree.specs.Acts.{Acts}
use Rattle.msr_tree.specs.Calls.{DoesStep, Stops, Tells}
use Rattle.msr_tree.specs.Folders.{ActsOnFiles, ChangesFiles, IsOfFile, LeavesFolders, NamesAndFolders}
use Rattle.msr_tree.specs.Steps.{IsNoneOf, IsReady, Leaves, Path, Step, failures, now, seen}
use Rattle.msr_tree.specs.declared.tree.TreeFault.{TreeFault}
use Rattle.msr_tree.proofs.Acting as act
use Rattle.msr_tree.proofs.Acting.{Within}
use Rattle.msr_tree.proofs.Changes as change
use Rattle.msr_tree.proofs.Folders.{leaves_does, leaves_none, leaves_step, leaves_stops, leaves_tells}

pub changes_then : (names : List Path) (old mid new : List Step) → ChangesFiles names old mid → ChangesFiles names mid new → ChangesFiles names old new
changes_then names old mid new one two = act.rest_then NamesAndFolders names old mid new one two

pub changes_none : (names : List Path) (old : List Step) → ChangesFiles names old old
changes_none names old = record { changes = change.changes_none names old; folders = leaves_none old }

pub changes_more : (few more : List Path) (old new : List Step) → ((name : Path) → IsNoneOf name more → IsNoneOf name few) → ChangesFiles few old new → ChangesFiles more old new
changes_more few more old new so changes = act.rest_more NamesAndFolders few more old new so changes

pub changes_step : (names : List Path) (step : Step) (old : List Step) → Within names step → IsOfFile step → ChangesFiles names old (step ∷ old)
changes_step names step old within is = record { changes = act.changes_step names step old within; folders = leaves_step step old is }

pub now_kept : (names : List Path) (name : Path) (old new : List Step) → IsNoneOf name names → ChangesFiles names old new → now new name ≡ now old name
now_kept names name old new none changes = change.now_kept names name old new none changes.changes

pub seen_kept : (names : List Path) (name : Path) (old new : List Step) → IsNoneOf name names → ChangesFiles names old new → seen new name ≡ seen old name
seen_kept names name old new none changes = change.seen_kept names name old new none changes.changes

pub leaves_kept : (names : List Path) (name : Path) (what : Option (List ℕ)) (old new : List Step) → IsNoneOf name names → ChangesFiles names old new → Leaves old name what → Leaves new name what
leaves_kept names name what old new none changes holds = change.leaves_kept names name what old new none changes.changes holds

pub ready_kept : (names : List Path) (name : Path) (bytes : List ℕ) (old new : List Step) → IsNoneOf name names → ChangesFiles names old new → IsReady name bytes old → IsReady name bytes new
ready_kept names name bytes old new none changes ready = change.ready_kept names name bytes old new none changes.changes ready

pub no_fewer : (names : List Path) (old new : List Step) → ChangesFiles names old new → failures old ≤ failures new
no_fewer names old new changes = act.no_fewer names old new changes.changes

-- what is done of files leaves the folders, too
pub on_files : {T : Type 0} (names : List Path) (Done : (old new : List Step) → T → Type 0) (result : Result T TreeFault) (old new : List Step) → LeavesFolders old new → Acts names Done result old new → ActsOnFiles names Done result old new
on_files names Done result old new leaves acts = record { changes = record { changes = acts.changes; folders = leaves }; cause = acts.cause; does = acts.does }

pub stopped : {T : Type 0} (names : List Path) (Done : (old new : List Step) → T → Type 0) (why : TreeFault) (Left : List Step → Type 0) (old new : List Step)
    → ((left : List Step) → Left left → ChangesFiles names old left) → Stops why Left old new → ActsOnFiles names Done (Err why) old new
stopped names Done why Left old new so stops = on_files names Done (Err why) old new
    (leaves_stops why Left old new (λ left is. (so left is).folders) stops)
    (act.stopped names Done why Left old new (λ left is. (so left is).changes) stops)

pub acts_does : {T : Type 0} (names : List Path) (step : Step) (result : Result T TreeFault) (old new : List Step) → Within names step → IsOfFile step → DoesStep step result old new → ActsOnFiles names (λ old new answer. new ≡ step ∷ old) result old new
acts_does names step result old new within is does = on_files names _ result old new (leaves_does step result old new is does) (act.acts_does names step result old new within does)

pub acts_tells : {T : Type 0} (names : List Path) (Says : List Step → T → Type 0) (result : Result T TreeFault) (old new : List Step) → Tells Says result old new → ActsOnFiles names (λ old new answer. (new ≡ old) × Says old answer) result old new
acts_tells names Says result old new tells = on_files names _ result old new (leaves_tells Says result old new tells) (act.acts_tells names Says result old new tells)
