-- The laws of what is changed on a walk, visit by visit.
use Rattle.std.proofs.Common.{inr, subst, List, [], ◌∷◌, ◌++◌, refl, sym, ◌∙◌, ap, append_assoc, is_some}
use Rattle.msr_exchange.specs.Stamped.{all_parts_in}
use Rattle.msr_exchange.specs.declared.work.DayWork.{DayWork}
use Rattle.msr_folders.proofs.StoppingLemmas.{stopping_laws}
use Rattle.msr_folders.specs.Walks.{VisitLaws}
use Rattle.msr_tree.specs.Steps.{ChangesOnly, Failed, IsNoneOf, Path, Spares, Step, Unlisted}
use Rattle.msr_replace.specs.Entries.{IsExchangeEntry, IsExchangeEntryLine}
use Rattle.msr_replace.specs.Said.{Said, TellsSaid}
use Rattle.msr_replace.specs.Touched.{AreCalls, IsOfNoDay, IsOneCall, TouchesDays}
use Rattle.msr_replace.specs.Walk.{HasCome, StopsTellingExchanges}
use Rattle.msr_replace.specs.declared.progress.Progress.{Progress}
use Rattle.msr_replace.specs.declared.replacer.Course.{Course}

spares_more : (name : Path) (one two : List Step) → Spares name one → Spares name two → Spares name (two ++ one)
spares_more name one [] a b = a
spares_more name one (step ∷ two) a b = (spares_more name one two a b.0, b.1)

-- one call
pub touched_call : (on : Course) (work : DayWork) (names : List Path) (old new : List Step) → ((name : Path) → IsOfNoDay work name → IsNoneOf name names)
    → ChangesOnly names old new → IsOneCall on work old new → TouchesDays on work old new
touched_call on work names old new so changes call = record {
  made = changes.made;
  since = changes.since;
  spares = λ name none. changes.spares name (so name none);
  moments = new ∷ [];
  calls = (call, refl);
}

pub touched_parts : (on : Course) (work : DayWork) (folder : Path) (old new : List Step) → ChangesOnly (all_parts_in work folder) old new → TouchesDays on work old new
touched_parts on work folder old new changes =
    touched_call on work (all_parts_in work folder) old new (λ name none. none.parts folder) changes (inr (folder, changes))

pub touched_still : (on : Course) (work : DayWork) (past : List Step) → TouchesDays on work past past
touched_still on work past = record { made = []; since = refl; spares = λ name none. tt; moments = []; calls = refl }

calls_then : (on : Course) (work : DayWork) (one two : List (List Step)) (old mid new : List Step) → AreCalls on work one old mid → AreCalls on work two mid new
    → AreCalls on work (one ++ two) old new
calls_then on work [] two old mid new a b = subst (λ l. AreCalls on work two l new) a b
calls_then on work (at ∷ one) two old mid new a b = (a.0, calls_then on work one two at mid new a.1 b)

pub touched_then : (on : Course) (work : DayWork) (old mid new : List Step) → TouchesDays on work old mid → TouchesDays on work mid new → TouchesDays on work old new
touched_then on work old mid new one two = record {
  made = two.made ++ one.made;
  since = two.since ∙ ap (λ l. two.made ++ l) one.since ∙ sym (append_assoc two.made one.made old);
  spares = λ name none. spares_more name one.made two.made (one.spares name none) (two.spares name none);
  moments = one.moments ++ two.moments;
  calls = calls_then on work one.moments two.moments old mid new one.calls two.calls;
}

pub touching_laws : {V : Type 0} → (on : V → Course) → (work : V → DayWork)
    → VisitLaws {V = V} {L = Said} {T = Progress} (λ visitor. TellsSaid) (λ visitor. StopsTellingExchanges) (λ visitor goes_on. TouchesDays (on visitor) (work visitor))
    (λ visitor. TouchesDays (on visitor) (work visitor))
touching_laws {V = V} on work =
    let laws = stopping_laws IsExchangeEntry IsExchangeEntryLine HasCome (λ progress. is_some progress.failed) {V = V} in
    record {
      calm = laws.calm;
      none = laws.none;
      more = laws.more;
      refused = laws.refused;
      later = laws.later;
      still = λ visitor. touched_still (on visitor) (work visitor);
      onward = λ visitor goes_on. touched_then (on visitor) (work visitor);
      ends = λ visitor old new touches. touches;
      rests = λ visitor. touched_still (on visitor) (work visitor);
      rests_on = λ visitor. touched_then (on visitor) (work visitor);
      resting = λ visitor old new touches. touches;
      unlisted = λ visitor past folder. touched_parts (on visitor) (work visitor) [] past (Failed ∷ Unlisted folder ∷ past)
          (record { made = Failed ∷ Unlisted folder ∷ []; since = refl; spares = λ name none. ((tt, refl), refl) });
    }
