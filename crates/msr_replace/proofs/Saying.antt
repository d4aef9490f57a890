-- What is said on a walk, visit by visit.
use Rattle.std.proofs.Common.{◌≡◌, ◌<◌, inl, inr, ℕ, true, false, List, [], ◌∷◌, ◌++◌, refl, ◌∙◌, ap, subst, arith, Option, None, Some, is_some, String, Result, Err}
use Rattle.std.specs.Borrow.{Bor}
use Rattle.std.specs.List.{AllByRecursion}
use Rattle.msr_devices.specs.Device.{Device, Takes}
use Rattle.msr_devices.proofs.Chaining.{takes_append}
use Rattle.msr_devices.specs.declared.fault.DeviceFault.{DeviceFault}
use Rattle.msr_exchange.specs.declared.work.DayWork.{DayWork}
use Rattle.msr_folders.proofs.StoppingLemmas.{not_both, until_line, until_more, until_none, until_stopped}
use Rattle.msr_folders.proofs.VisitLemmas.{these_one}
use Rattle.msr_folders.proofs.WalkedLemmas.{goes_none, goes_so, goes_then}
use Rattle.msr_folders.specs.Entries.{AreEntriesBetween, Visit}
use Rattle.msr_folders.specs.Visits.{IsWalk}
use Rattle.msr_folders.specs.Walks.{TellsVisit, TellsWalk}
use Rattle.msr_folders.specs.declared.found.WalkFound.{WalkFound}
use Rattle.msr_options.specs.declared.task.Replacing.{Replacing}
use Rattle.msr_tree.specs.Calls.{Goes, Tells}
use Rattle.msr_tree.specs.Steps.{Failed, Path, Step, failures}
use Rattle.msr_tree.specs.declared.tree.TreeFault.TheVariants as fault
use Rattle.msr_replace.specs.Entries.{ExchangeEntry, IsExchangeEntry, IsExchangeEntryLine, IsExchangeOf, IsExchangeTally, IsStoppedAt, entry_of, has_failed}
use Rattle.msr_replace.specs.Said.{DoesFor, IsSaid, IsSaidGoing, Said, TellsSaid, only_line, walked}
use Rattle.msr_replace.specs.Sums.{exchange_summary}
use Rattle.msr_replace.specs.Touched.{TouchesDays}
use Rattle.msr_replace.specs.Tree.{IsWorkOf, ReplacesTree, TellsCourses}
use Rattle.msr_replace.specs.Walk.{HasCome, Prints, TellsFound}
use Rattle.msr_replace.specs.declared.lines.Outcome.{Outcome}
use Rattle.msr_replace.specs.declared.progress.Progress.{Progress}
use Rattle.msr_replace.specs.declared.replacer.Course.{Course}
use Rattle.msr_replace.specs.declared.replacer.Course.TheVariants as course
use Rattle.msr_replace.specs.Touching.{touched_still}

all_going : {Z : Type 0} (before : List ExchangeEntry) (failed : Option (String Z)) → is_some failed ≡ false → IsStoppedAt before failed
    → AllByRecursion (λ (e : ExchangeEntry). has_failed e.outcome ≡ false) before
all_going before None e h = h
all_going before (Some x) e h = absurd (not_both true refl e)

none_failed : {Z : Type 0} (failed : Option (String Z)) → failed ≡ None → is_some failed ≡ false
none_failed failed e = ap (λ f. is_some f) e

pub none_said : (out : Device) (progress : Progress) → TellsSaid [] out out progress progress
none_said = until_none IsExchangeEntry IsExchangeEntryLine HasCome (λ progress. is_some progress.failed)

-- one line
pub line_said : (path : Path) (outcome : Outcome) (out0 out : Device) (old new : Progress) → IsExchangeOf path outcome → Prints path outcome out0 out
    → ((before : List ExchangeEntry) → IsExchangeTally before old.tally → IsExchangeTally (before ++ entry_of path outcome ∷ []) new.tally)
    → old.failed ≡ None
    → ((before : List ExchangeEntry) → AllByRecursion (λ (e : ExchangeEntry). has_failed e.outcome ≡ false) before → IsStoppedAt (before ++ entry_of path outcome ∷ []) new.failed)
    → TellsSaid (only_line path outcome) out0 out old new
line_said path outcome out0 out old new is printed counted none stopped =
    until_line IsExchangeEntry IsExchangeEntryLine HasCome (λ progress. is_some progress.failed) (entry_of path outcome) out0 out old new (none_failed old.failed none)
    (these_one IsExchangeEntry IsExchangeEntryLine HasCome out0 out old new (entry_of path outcome) printed.line is printed.is_line printed.takes printed.calm
    (λ before h. record { counted = counted before h.counted; stopped = stopped before (all_going before old.failed (none_failed old.failed none) h.stopped) }))

pub said_more : (one two : List Said) (out0 out1 out : Device) (old mid new : Progress) → TellsSaid one out0 out1 old mid → TellsSaid two out1 out mid new
    → TellsSaid (one ++ two) out0 out old new
said_more = until_more IsExchangeEntry IsExchangeEntryLine HasCome (λ progress. is_some progress.failed)

pub failed_tells : {A : Type 0} (Says : List Step → A → Type 0) (old new : List Step) → Tells {T = A} Says (Err fault.Failed) old new → failures old < failures new
failed_tells Says old new is =
    let more : failures new ≡ failures (Failed ∷ old) = ap (λ l. failures l) (is.2 ∙ ap (λ l. Failed ∷ l) is.1) in
    omega (arith, more)

pub does_of : {A : Type 0} (on : Course) (work : DayWork) (R : (old new : List Step) → Type 0) (Is : A → (old new : List Step) → Type 0) (result : Result A DeviceFault) (before after : List Step → Type 0)
    → ((old new : List Step) → R old new → DoesFor on work Is result old new) → Goes before after R → Goes before after (DoesFor on work Is result)
does_of on work R Is result before after so goes = goes_so _ _ before after (λ old new went is. so old new is) goes

module _ (on : Course) (work : DayWork) where
  abbrev pub Visits : Visit → (before after : List Step → Type 0) (out0 out : Device) (old new : Progress) → Type 0
  Visits visit before after out0 out old new = TellsVisit TellsSaid (IsSaid on work) (TouchesDays on work) ⊥ visit before after out0 out old new

  pub visited : (visit : Visit) (said : List Said) (R : (old new : List Step) → Type 0) (before after : List Step → Type 0) (out0 out : Device) (progress0 progress : Progress)
      → ((old new : List Step) → R old new → TouchesDays on work old new × IsSaidGoing on work old new visit said)
      → Goes before after R → TellsSaid said out0 out progress0 progress → Visits visit before after out0 out progress0 progress
  visited visit said R before after out0 out progress0 progress so goes told = record {
    lines = said;
    told = told;
    goes = goes_so _ _ before after (λ old new went is.
        let both = so old new is in
        record { done = record { does = both.0; lists_none = λ none. absurd none }; says = inr both.1 }) goes;
  }

  pub visited_still : (visit : Visit) (said : List Said) (before : List Step → Type 0) (out0 out : Device) (progress0 progress : Progress)
      → ((past : List Step) → IsSaidGoing on work past past visit said) → TellsSaid said out0 out progress0 progress
      → Visits visit before before out0 out progress0 progress
  visited_still visit said before out0 out progress0 progress so told = record {
    lines = said;
    told = told;
    goes = goes_none _ before (λ past. record { done = record { does = touched_still on work past; lists_none = λ none. absurd none }; says = inr (so past) });
  }

  -- where the tree has failed before
  pub passed_by : (visit : Visit) (before : List Step → Type 0) (out : Device) (progress : Progress) → is_some progress.failed ≡ true
      → Visits visit before before out out progress progress
  passed_by visit before out progress some = record {
    lines = None ∷ [];
    told = until_stopped IsExchangeEntry IsExchangeEntryLine HasCome (λ p. is_some p.failed) out progress some;
    goes = goes_none _ before (λ past. record { done = record { does = touched_still on work past; lists_none = λ none. absurd none }; says = inl (refl, refl) });
  }

  abbrev pub Walks : (below : List (Bor Path)) (before after : List Step → Type 0) (out0 out : Device) (old new : Progress) → Type 0
  Walks below before after out0 out old new = TellsWalk TellsSaid (IsSaid on work) (TouchesDays on work) (TouchesDays on work) ⊥ (walked on work) (λ past new. AreEntriesBetween (TouchesDays on work) past new (walked on work) below)
      before after out0 out old new

pub both_courses : (work : DayWork) (below : List (Bor Path)) (before mid after : List Step → Type 0) (out0 out1 out : Device) (old between new : Progress)
    → Walks course.Root work below before mid out0 out1 old between → Walks course.Out work below mid after out1 out between new
    → TellsCourses false work below before after out0 out old new
both_courses work below before mid after out0 out1 out old between new one two = record {
  said = one.lines ++ two.lines;
  tells = said_more one.lines two.lines out0 out1 out old between new one.told two.told;
  goes = goes_then _ _ _ before mid after (λ past middle now first second. record {
    mid = middle;
    visits = one.visits;
    one = one.lines;
    archive = first;
    records = two.visits;
    two = two.lines;
    orphans = second;
    whole = refl;
  }) one.goes two.goes;
}

pub one_course : (work : DayWork) (below : List (Bor Path)) (before after : List Step → Type 0) (out0 out : Device) (old new : Progress)
    → Walks course.Aside work below before after out0 out old new → TellsCourses true work below before after out0 out old new
one_course work below before after out0 out old new walk = record {
  said = walk.lines;
  tells = walk.told;
  goes = goes_so _ _ before after (λ past now went is. (walk.visits, is)) walk.goes;
}

-- and what a walk to its end printed
pub tree_ends : (asked : Replacing) (work : DayWork) (before after : List Step → Type 0) (out0 out1 out : Device) (old new : Progress) (found : WalkFound)
    → IsWorkOf asked work → (courses : TellsCourses asked.undo work asked.below.items before after out0 out1 old new)
    → Takes out1 out (exchange_summary asked.undo courses.tells.told.told.entries) → TellsFound courses.tells.told.told.entries found → HasCome [] old
    → ReplacesTree asked before after out0 out new.failed found
tree_ends asked work before after out0 out1 out old new found of courses prints end empty =
    let these = courses.tells.told.told in
    let printed : List ℕ = these.lines ++ exchange_summary asked.undo these.entries in
    let come : HasCome these.entries new = these.counts [] empty in
    record {
      work = work;
      is_work = of;
      said = courses.said;
      first = courses.tells.first;
      all = courses.tells.all;
      stopped = subst (λ entries. IsStoppedAt entries new.failed) courses.tells.told.are come.stopped;
      printed = printed;
      prints = takes_append out0 out1 out these.lines (exchange_summary asked.undo these.entries) these.prints prints;
      text = subst (λ entries. IsWalk IsExchangeEntry IsExchangeEntryLine (exchange_summary asked.undo) printed entries) courses.tells.told.are
          (record { lines = these.lines; are_entries = these.are_entries; are_lines = these.are_lines; whole = refl });
      tells = subst (λ entries. TellsFound entries found) courses.tells.told.are end;
      goes = courses.goes;
    }
