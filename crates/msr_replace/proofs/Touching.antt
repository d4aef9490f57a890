-- What a call changes that is made on a walk.
use Rattle.std.proofs.Common.{inl, inr, ⊎_elim, [], ◌∷◌, List, Result}
use Rattle.msr_exchange.specs.Stamped.{all_and_stamp, all_parts_in}
use Rattle.msr_exchange.specs.Work.{names_in, stamp_in}
use Rattle.msr_exchange.specs.declared.work.DayWork.{DayWork}
use Rattle.msr_folders.specs.Days.{IsDay}
use Rattle.msr_folders.proofs.WalkedLemmas.{goes_none, goes_so, goes_then}
use Rattle.msr_folders.specs.Walks.{VisitDoes}
use Rattle.msr_tree.proofs.Acting.{acts_tells}
use Rattle.msr_tree.proofs.Changes.{changes_more}
use Rattle.msr_tree.specs.Calls.{Goes, Tells}
use Rattle.msr_tree.specs.Steps.{ChangesOnly, Path, Step}
use Rattle.msr_tree.specs.declared.tree.TreeFault.{TreeFault}
use Rattle.msr_replace.specs.Touched.{AreCalls, IsOfDayDone, IsOneCall, TouchesDays}
use Rattle.msr_replace.specs.Touching.{touched_call, touched_parts, touched_still, touched_then}
use Rattle.msr_replace.specs.declared.replacer.Course.{Course}
use Rattle.msr_replace.specs.declared.replacer.Course.TheVariants as course

-- of a day
pub touched_day : (on : Course) (work : DayWork) (path : Path) (old new : List Step) → IsDay path → ChangesOnly (all_and_stamp (names_in work path) (stamp_in work path)) old new
    → IsOfDayDone on work path old new → TouchesDays on work old new
touched_day on work path old new day changes done =
    touched_call on work (all_and_stamp (names_in work path) (stamp_in work path)) old new (λ name none. none.days path day) changes (inl (path, day, done))

-- of nothing
pub touched_none : (on : Course) (work : DayWork) (old new : List Step) → ChangesOnly [] old new → TouchesDays on work old new
touched_none on work old new changes = touched_parts on work [] old new (changes_more [] (all_parts_in work []) old new (λ name none. tt) changes)

pub touched_tells : {A : Type 0} (on : Course) (work : DayWork) (Says : List Step → A → Type 0) (result : Result A TreeFault) (old new : List Step) → Tells Says result old new
    → TouchesDays on work old new
touched_tells on work Says result old new tells = touched_none on work old new (acts_tells [] Says result old new tells).changes

-- and what a visit does
pub visit_still : (on : Course) (work : DayWork) (before : List Step → Type 0) → Goes before before (VisitDoes (TouchesDays on work) ⊥)
visit_still on work before = goes_none _ before (λ past. record { does = touched_still on work past; lists_none = λ none. absurd none })

pub visit_does : (on : Course) (work : DayWork) (R : (old new : List Step) → Type 0) (before after : List Step → Type 0) → ((old new : List Step) → R old new → TouchesDays on work old new)
    → Goes before after R → Goes before after (VisitDoes (TouchesDays on work) ⊥)
visit_does on work R before after so goes = goes_so R _ before after (λ old new went is. record { does = so old new is; lists_none = λ none. absurd none }) goes

-- with no day of the records anything is done
calls_out : (work : DayWork) (moments : List (List Step)) (old new : List Step) → AreCalls course.Out work moments old new → AreCalls course.Root work moments old new
calls_out work [] old new are = are
calls_out work (at ∷ moments) old new are =
    let one : IsOneCall course.Root work old at = ⊎_elim (λ day. absurd day.2) (λ parts. inr parts) are.0 in
    (one, calls_out work moments at new are.1)

touched_out : (work : DayWork) (old new : List Step) → TouchesDays course.Out work old new → TouchesDays course.Root work old new
touched_out work old new touches = record {
  made = touches.made;
  since = touches.since;
  spares = touches.spares;
  moments = touches.moments;
  calls = calls_out work touches.moments old new touches.calls;
}

-- the archive, and then its records
pub touched_both : (work : DayWork) (before mid after : List Step → Type 0) → Goes before mid (TouchesDays course.Root work) → Goes mid after (TouchesDays course.Out work)
    → Goes before after (TouchesDays course.Root work)
touched_both work before mid after =
    goes_then _ _ _ before mid after (λ old between new one two. touched_then course.Root work old between new one (touched_out work between new two))
