-- What is made of a day stays what it is.
use Rattle.std.proofs.Common.{◌≢◌, ◌≤◌, inl, inr, ⊎_elim, Bool, true, false, List, [], refl, sym, ◌∙◌, ap, subst, option_map, arith}
use Rattle.msr_naming.specs.declared.files.DayFiles.{DayFiles}
use Rattle.msr_options.specs.declared.hint.Side.{Side}
use Rattle.msr_options.specs.declared.hint.Side.TheVariants.{File, Outputs, Records, Report}
use Rattle.msr_tree.specs.Folders.{ChangesFiles}
use Rattle.msr_tree.specs.Steps.{Path, Step, failures}
use Rattle.msr_tree.proofs.Filing.{now_kept}
use Rattle.msr_making.specs.Clearing.{StaysOrGoes}
use Rattle.msr_making.specs.Ending.{FailsFor}
use Rattle.msr_making.specs.Parts.{IsMadeSide}
use Rattle.msr_making.specs.Places.{DayPaths, paths_of}
use Rattle.msr_making.specs.Told.{AreSpared, AreUntouched, IsClearedFor, IsClearedThere, IsKeptBeside, IsKeptFor, IsLeftFor}
use Rattle.msr_making.specs.declared.answer.DayFault.{DayFault}
use Rattle.msr_making.specs.declared.answer.DayFault.TheVariants.{CannotOpen, ClaimedByAnother}
use Rattle.msr_making.proofs.Owns.{AreNone}

pub untouched_by : (input : Path) (files : DayFiles) (names : List Path) → AreNone files names → (old new : List Step) → ChangesFiles names old new → AreUntouched (paths_of input files) old new
untouched_by input files names none old new changes = (
  now_kept names files.records.path old new none.records changes,
  now_kept names files.report.path old new none.report changes,
  now_kept names files.stamp.path old new none.stamp changes,
)

-- where no name changes
pub still_there : (paths : DayPaths) (old new : List Step) → ChangesFiles [] old new → AreUntouched paths old new
still_there paths old new changes = (
  now_kept [] paths.records old new tt changes,
  now_kept [] paths.report old new tt changes,
  now_kept [] paths.stamp old new tt changes,
)

module _ (paths : DayPaths) (old new : List Step) where
  beside : (side : Side) → AreUntouched paths old new → IsKeptBeside side paths old new
  beside Records is = inl is
  beside Report is = inl is
  beside File is = is
  beside Outputs is = is

  pub kept_for : (why : DayFault) → AreUntouched paths old new → IsKeptFor why paths old new
  kept_for (CannotOpen unopened) is = beside unopened.side is
  kept_for ClaimedByAnother is = inl is
  kept_for why is = is

module _ (paths : DayPaths) (old mid new : List Step) where
  pub untouched_then : AreUntouched paths old mid → AreUntouched paths mid new → AreUntouched paths old new
  untouched_then one two = (two.0 ∙ one.0, two.1 ∙ one.1, two.2 ∙ one.2)

  pub ends_then : (stays : Bool) (why : DayFault) → failures mid ≤ failures new → AreUntouched paths mid new → StaysOrGoes stays why paths old mid → StaysOrGoes stays why paths old new
  ends_then true why more still is = untouched_then is still
  ends_then false ClaimedByAnother more still is = untouched_then is still
  ends_then false why more still is = ⊎_elim
      (λ none. inl (
        ap (λ found. option_map (λ file. file.bytes) found) still.0 ∙ none.0,
        ap (λ found. option_map (λ file. file.bytes) found) still.1 ∙ none.1,
        ap (λ found. option_map (λ file. file.bytes) found) still.2 ∙ none.2,
      ))
      (λ failed. inr (omega arith)) is

  pub spared_later : failures old ≤ failures mid → AreUntouched paths old mid → AreSpared paths mid new → AreSpared paths old new
  spared_later few one two = ⊎_elim (λ still. inl (untouched_then one still)) (λ failed. inr (omega arith)) two

  pub spared_then : failures old ≤ failures mid → failures mid ≤ failures new → AreSpared paths old mid → AreSpared paths mid new → AreSpared paths old new
  spared_then few more one two = ⊎_elim (λ still. spared_later few still two) (λ failed. inr (omega arith)) one

  module _ (spare : AreSpared paths mid new → AreSpared paths old new) where
    beside_then : (side : Side) → IsKeptBeside side paths old mid → IsKeptBeside side paths mid new → IsKeptBeside side paths old new
    beside_then Records one two = spare two
    beside_then Report one two = spare two
    beside_then File one two = untouched_then one two
    beside_then Outputs one two = untouched_then one two

    kept_then : (why : DayFault) → IsKeptFor why paths old mid → IsKeptFor why paths mid new → IsKeptFor why paths old new
    kept_then (CannotOpen unopened) one two = beside_then unopened.side one two
    kept_then ClaimedByAnother one two = spare two
    kept_then why one two = untouched_then one two

    cleared_later : (why : DayFault) → failures old ≤ failures mid → IsClearedFor why paths mid new → IsClearedFor why paths old new
    cleared_later (CannotOpen unopened) few is = spare is
    cleared_later ClaimedByAnother few is = spare is
    cleared_later why few is = ⊎_elim (λ none. inl none) (λ failed. inr (omega arith)) is

    -- whether it is to stay or not
    pub left_then : (stays : Bool) (why : DayFault) → failures old ≤ failures mid → IsKeptFor why paths old mid → IsLeftFor stays why paths mid new → IsLeftFor stays why paths old new
    left_then true why few one two = kept_then why one two
    left_then false why few one two = cleared_later why few two

    -- or it went
    gone_then : (why : DayFault) → failures old ≤ failures mid → failures mid ≤ failures new → FailsFor why old mid → StaysOrGoes false why paths mid new → IsClearedFor why paths old new
    gone_then (CannotOpen unopened) few more fails is = inr (omega arith)
    gone_then ClaimedByAnother few more fails is = spare (inl is)
    gone_then why few more fails is = ⊎_elim (λ none. inl none) (λ failed. inr (omega arith)) is

    pub given_then : (stays : Bool) (why : DayFault) → failures old ≤ failures mid → failures mid ≤ failures new → FailsFor why old mid → IsKeptFor why paths old mid
        → StaysOrGoes stays why paths mid new → IsLeftFor stays why paths old new
    given_then true why few more fails one two = kept_then why one (kept_for paths mid new why two)
    given_then false why few more fails one two = gone_then why few more fails two

module _ (paths : DayPaths) (old new : List Step) where
  pub goes_for : (why : DayFault) → why ≢ ClaimedByAnother → IsClearedThere paths old new → StaysOrGoes false why paths old new
  goes_for ClaimedByAnother other is = absurd (other refl)
  goes_for why other is = is

  -- what another walk has stays
  pub left_claimed : (stays : Bool) → AreSpared paths old new → IsLeftFor stays ClaimedByAnother paths old new
  left_claimed true is = is
  left_claimed false is = is

  -- nothing was touched, and nothing is to go
  pub left_untouched : (stays : Bool) (why : DayFault) → AreUntouched paths old new → IsClearedFor why paths old new → IsLeftFor stays why paths old new
  left_untouched true why is cleared = kept_for paths old new why is
  left_untouched false why is cleared = cleared

-- a file that is made
pub spared_made : (paths : DayPaths) (side : Side) (old new : List Step) → IsMadeSide side → AreSpared paths old new → IsKeptBeside side paths old new
spared_made paths side old new is spared =
    ⊎_elim (λ e. subst (λ (s : Side). IsKeptBeside s paths old new) (sym e) spared) (λ e. subst (λ (s : Side). IsKeptBeside s paths old new) (sym e) spared) is
