-- What is done with some names changes no other, and no folder.
use Rattle.std.proofs.Common.{◌≡◌, ⊎_elim, ℕ, zero, suc, false, List, [], ◌∷◌, ◌++◌, map, take, reverse, refl, sym, subst}
use Rattle.std.proofs.lemmas.List.{reverse-append}
use Rattle.std.specs.Str.{bytes_eq}
use Rattle.msr_tree.specs.Folders.{AreOfFiles, ChangesFiles}
use Rattle.msr_tree.specs.Steps.{Failed, FolderStored, IsNoneOf, Path, Spares, Step, touches}
use Rattle.msr_tree.proofs.Folders.{are_some, leaves_as, leaves_failed, leaves_steps}
use Rattle.msr_naming.specs.declared.files.DayFiles.{DayFiles}
use Rattle.msr_naming.specs.declared.files.Name.{Name}
use Rattle.msr_naming.specs.declared.files.Name.TheVariants.{Records, RecordsPart, Report, ReportPart, Stamp, StampPart}
use Rattle.msr_naming.specs.declared.naming.Act.{Act}
use Rattle.msr_naming.specs.declared.naming.Act.TheVariants.{Remove, Store, Rename}
use Rattle.msr_naming.specs.Naming.{DoesSome, act_step, day_paths, name_path}
use Rattle.msr_naming.specs.Promise.{stamp_paths}
use Rattle.msr_naming.proofs.Names.{not_renamed}
use Rattle.msr_naming.proofs.Stamps.{stamping}

spares_more : (name : Path) (one two : List Step) → Spares name one → Spares name two → Spares name (two ++ one)
spares_more name one [] a b = a
spares_more name one (step ∷ two) a b = (spares_more name one two a b.0, b.1)

-- the first of some steps
spares_some : (name : Path) (n : ℕ) (steps : List Step) → Spares name steps → Spares name (reverse (take n steps))
spares_some name zero steps spares = tt
spares_some name (suc n) [] spares = tt
spares_some name (suc n) (step ∷ steps) spares =
    subst (λ (l : List Step). Spares name l) (sym (reverse-append (step ∷ []) (take n steps)))
    (spares_more name (step ∷ []) (reverse (take n steps)) (tt, spares.1) (spares_some name n steps spares.0))

pub only_some : (names : List Path) (steps old new : List Step) → ((name : Path) → IsNoneOf name names → Spares name steps) → AreOfFiles steps → DoesSome steps old new → ChangesFiles names old new
only_some names steps old new spares are does =
    let made = reverse (take does.0 steps) in
    let leaves = leaves_steps made old (are_some does.0 steps are) in
    ⊎_elim
    (λ so. record {
      changes = record { made = made; since = so; spares = λ name none. spares_some name does.0 steps (spares name none) };
      folders = leaves_as old new _ so leaves;
    })
    (λ so. record {
      changes = record { made = Failed ∷ made; since = so; spares = λ name none. (spares_some name does.0 steps (spares name none), refl) };
      folders = leaves_as old new _ so (leaves_failed old _ leaves);
    })
    does.2

module _ (files : DayFiles) (name : Path) (none : IsNoneOf name (day_paths files)) where
  apart : (at : Name) → bytes_eq name (name_path files at) ≡ false
  apart Records = none.0
  apart RecordsPart = none.1.0
  apart Report = none.1.1.0
  apart ReportPart = none.1.1.1.0
  apart Stamp = none.1.1.1.1.0
  apart StampPart = none.1.1.1.1.1.0

  act_spares : (act : Act) → touches (act_step files act) name ≡ false
  act_spares (Remove at) = apart at
  act_spares (Store at) = refl
  act_spares (Rename from to) = not_renamed (name_path files from) (name_path files to) name (apart to) (apart from)

  acts_spare : (acts : List Act) → Spares name (map (act_step files) acts)
  acts_spare [] = tt
  acts_spare (act ∷ acts) = (acts_spare acts, act_spares act)

acts_are : (files : DayFiles) (acts : List Act) → AreOfFiles (map (act_step files) acts)
acts_are files [] = tt
acts_are files (Remove at ∷ acts) = (tt, acts_are files acts)
acts_are files (Store at ∷ acts) = (tt, acts_are files acts)
acts_are files (Rename from to ∷ acts) = (tt, acts_are files acts)

-- those of a day
pub only_named : (files : DayFiles) (acts : List Act) (old new : List Step) → DoesSome (map (act_step files) acts) old new → ChangesFiles (day_paths files) old new
only_named files acts old new does = only_some (day_paths files) (map (act_step files) acts) old new (λ name none. acts_spare files name none acts) (acts_are files acts) does

stamps_spare : (name : Path) (days : List DayFiles) → IsNoneOf name (stamp_paths days) → Spares name (map stamping days)
stamps_spare name [] none = tt
stamps_spare name (files ∷ days) none = (stamps_spare name days none.1.1, not_renamed files.stamp.part files.stamp.path name none.0 none.1.0)

stamps_are : (days : List DayFiles) → AreOfFiles (map stamping days)
stamps_are [] = tt
stamps_are (files ∷ days) = (tt, stamps_are days)

-- those of stamps
pub only_stamped : (out reports : Path) (days : List DayFiles) (old new : List Step) → DoesSome (FolderStored out ∷ FolderStored reports ∷ map stamping days) old new → ChangesFiles (stamp_paths days) old new
only_stamped out reports days old new does =
    only_some (stamp_paths days) (FolderStored out ∷ FolderStored reports ∷ map stamping days) old new (λ name none. ((stamps_spare name days none, refl), refl)) (tt, (tt, stamps_are days)) does
