-- What is done with files leaves the folders of a tree.
use Rattle.std.proofs.Common.{◌≡◌, ⊎_elim, ℕ, zero, suc, List, [], ◌∷◌, ◌++◌, refl, ◌∙◌, sym, subst, take, reverse, Result, Ok, Err}
use Rattle.std.proofs.lemmas.List.{reverse-append}
use Rattle.msr_tree.specs.Calls.{DoesStep, PerhapsDone, Stops, Tells}
use Rattle.msr_tree.specs.Folders.{AreOfFiles, IsOfFile, LeavesFolders}
use Rattle.msr_tree.specs.Steps.{Failed, FileStored, FolderMade, FolderStored, Linked, Made, Removed, Renamed, Step, Unlisted}
use Rattle.msr_tree.specs.declared.tree.TreeFault.{TreeFault}
use Rattle.msr_tree.specs.declared.tree.TreeFault.TheVariants as fault

pub leaves_none : (past : List Step) → LeavesFolders past past
leaves_none past = record { folders = λ place. refl; unlisted = refl }

pub leaves_then : (old mid new : List Step) → LeavesFolders old mid → LeavesFolders mid new → LeavesFolders old new
leaves_then old mid new one two = record {
  folders = λ place. two.folders place ∙ one.folders place;
  unlisted = two.unlisted ∙ one.unlisted;
}

pub leaves_step : (step : Step) (past : List Step) → IsOfFile step → LeavesFolders past (step ∷ past)
leaves_step (Made at bytes) past is = record { folders = λ place. refl; unlisted = refl }
leaves_step (Linked from to) past is = record { folders = λ place. refl; unlisted = refl }
leaves_step (Renamed from to) past is = record { folders = λ place. refl; unlisted = refl }
leaves_step (Removed at) past is = record { folders = λ place. refl; unlisted = refl }
leaves_step (FileStored at) past is = record { folders = λ place. refl; unlisted = refl }
leaves_step (FolderStored at) past is = record { folders = λ place. refl; unlisted = refl }
leaves_step (FolderMade at) past is = absurd is
leaves_step (Unlisted at) past is = absurd is
leaves_step Failed past is = record { folders = λ place. refl; unlisted = refl }

pub leaves_steps : (steps past : List Step) → AreOfFiles steps → LeavesFolders past (steps ++ past)
leaves_steps [] past are = leaves_none past
leaves_steps (step ∷ steps) past are =
    leaves_then past (steps ++ past) (step ∷ steps ++ past) (leaves_steps steps past are.1) (leaves_step step (steps ++ past) are.0)

are_both : (one two : List Step) → AreOfFiles one → AreOfFiles two → AreOfFiles (one ++ two)
are_both [] two a b = b
are_both (step ∷ one) two a b = (a.0, are_both one two a.1 b)

-- the first of some steps
pub are_some : (n : ℕ) (steps : List Step) → AreOfFiles steps → AreOfFiles (reverse (take n steps))
are_some zero steps are = tt
are_some (suc n) [] are = tt
are_some (suc n) (step ∷ steps) are =
    subst (λ (l : List Step). AreOfFiles l) (sym (reverse-append (step ∷ []) (take n steps)))
    (are_both (reverse (take n steps)) (step ∷ []) (are_some n steps are.1) (are.0, tt))

pub leaves_as : (old left new : List Step) → left ≡ new → LeavesFolders old new → LeavesFolders old left
leaves_as old left new is leaves = subst (λ l. LeavesFolders old l) (sym is) leaves

pub leaves_failed : (old left : List Step) → LeavesFolders old left → LeavesFolders old (Failed ∷ left)
leaves_failed old left leaves = leaves_then old left (Failed ∷ left) leaves (leaves_step Failed left tt)

pub leaves_stops : (why : TreeFault) (Left : List Step → Type 0) (old new : List Step) → ((left : List Step) → Left left → LeavesFolders old left)
    → Stops why Left old new → LeavesFolders old new
leaves_stops fault.Memory Left old new so stops = leaves_as old new old stops (leaves_none old)
leaves_stops fault.Failed Left old new so stops = leaves_as old new (Failed ∷ stops.0) stops.2 (leaves_failed old stops.0 (so stops.0 stops.1))

leaves_perhaps : (step : Step) (old left : List Step) → IsOfFile step → PerhapsDone step old left → LeavesFolders old left
leaves_perhaps step old left is may = ⊎_elim
    (λ same. leaves_as old left old same (leaves_none old))
    (λ done. leaves_as old left (step ∷ old) done (leaves_step step old is))
    may

-- a call of one step
pub leaves_does : {T : Type 0} (step : Step) (result : Result T TreeFault) (old new : List Step) → IsOfFile step → DoesStep step result old new → LeavesFolders old new
leaves_does step (Ok x) old new is does = leaves_as old new (step ∷ old) does (leaves_step step old is)
leaves_does step (Err why) old new is does = leaves_stops why _ old new (λ left may. leaves_perhaps step old left is may) does

-- a call that changes nothing
pub leaves_tells : {T : Type 0} (Says : List Step → T → Type 0) (result : Result T TreeFault) (old new : List Step) → Tells Says result old new → LeavesFolders old new
leaves_tells Says (Ok x) old new tells = leaves_as old new old tells.0 (leaves_none old)
leaves_tells Says (Err why) old new tells = leaves_stops why _ old new (λ left same. leaves_as old left old same (leaves_none old)) tells
