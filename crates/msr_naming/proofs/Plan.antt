-- What holds after each of some steps holds at each moment of a call that does some of them.
use Rattle.std.proofs.Common.{◌≡◌, ◌<◌, ◌≤◌, ◌⊎◌, ◌+◌, inl, inr, ⊎_elim, ℕ, List, [], ◌∷◌, ◌++◌, length, map, take, drop, reverse, sym, ◌∙◌, ap, subst, refl, Result, Ok, Err, OnOk, IsErrOf, arith, get_or, add-one, append_assoc}
use Rattle.std.proofs.lemmas.List.{length-append, length-map, map-append, reverse-append, take-append-drop, take-append-le, take-map}
use Rattle.std.proofs.Math.Seq.{take-append-add, take-length, take-suc}
use Rattle.msr_tree.specs.Calls.{DoesStep, Goes}
use Rattle.msr_tree.specs.Steps.{AtEachMoment, Failed, Step, Throughout, failures}
use Rattle.msr_tree.specs.declared.tree.TreeFault.{TreeFault}
use Rattle.msr_tree.specs.declared.tree.TreeFault.TheVariants as fault
use Rattle.msr_tree.proofs.Acting.{goes_as, more_fail}
use Rattle.msr_tree.proofs.Moments.{at_end, done}
use Rattle.msr_naming.specs.Naming.{DoesSome, Performs}

module _ (P : List Step → Type 0) (fails : (past : List Step) → P past → P (Failed ∷ past)) where
  cut : (old made later : List Step) → Throughout P old (later ++ made) → Throughout P old made
  cut old made [] holds = holds
  cut old made (step ∷ later) holds = cut old made later holds.0

  -- and perhaps fails then
  pub ended : (old new made : List Step) → Throughout P old made → (new ≡ made ++ old) ⊎ (new ≡ Failed ∷ made ++ old) → AtEachMoment P old new
  ended old new made holds ends =
      let whole = done P old (made ++ old) made refl holds in
      ⊎_elim
      (λ so. done P old new made so holds)
      (λ so. done P old new (Failed ∷ made) so (holds, fails (made ++ old) (at_end P old (made ++ old) whole)))
      ends

  pub does_some : (steps old new : List Step) → DoesSome steps old new → Throughout P old (reverse steps) → AtEachMoment P old new
  does_some steps old new does holds =
      let parts : reverse steps ≡ reverse (drop does.0 steps) ++ reverse (take does.0 steps) =
      ap reverse (sym (take-append-drop does.0 steps)) ∙ reverse-append (take does.0 steps) (drop does.0 steps) in
      ended old new (reverse (take does.0 steps))
      (cut old (reverse (take does.0 steps)) (reverse (drop does.0 steps)) (subst (λ l. Throughout P old l) parts holds)) does.2

abbrev pub stopping : TreeFault → Result (Unit {0}) TreeFault
stopping why = Err why

abbrev pub doing : Unit {0} → Result (Unit {0}) TreeFault
doing x = Ok x

-- what may be left where a call fails after the first n steps
failed_some : (steps : List Step) (n : ℕ) (step : Step) (old new : List Step) → n < length steps → reverse (take (n + 1) steps) ≡ step ∷ reverse (take n steps) → (why : TreeFault)
    → DoesStep step (stopping why) (reverse (take n steps) ++ old) new → DoesSome steps old new
failed_some steps n step old new lt next fault.Memory does = (n, omega arith, inl does)
failed_some steps n step old new lt next fault.Failed does = ⊎_elim
    (λ not. (n, omega arith, inr (does.2 ∙ ap (λ (l : List Step). Failed ∷ l) not)))
    (λ so. (n + 1, omega arith, inr (does.2 ∙ ap (λ (l : List Step). Failed ∷ l) (so ∙ ap (λ (l : List Step). l ++ old) (sym next)))))
    does.1

failed_cause : (made : List Step) (step : Step) (old new : List Step) (why : TreeFault) → DoesStep step (stopping why) (made ++ old) new → why ≡ fault.Failed → failures old < failures new
failed_cause made step old new fault.Memory does is = cc
failed_cause made step old new fault.Failed does is = ⊎_elim
    (λ not. let few = more_fail old made in subst (λ l. failures old < failures l) (sym (does.2 ∙ ap (λ (l : List Step). Failed ∷ l) not)) (omega arith))
    (λ so. let few = more_fail old (step ∷ made) in subst (λ l. failures old < failures l) (sym (does.2 ∙ ap (λ (l : List Step). Failed ∷ l) so)) (omega arith))
    does.1

err_of : (why : TreeFault) → IsErrOf (stopping why) fault.Failed → why ≡ fault.Failed
err_of why is = cc

-- a plan that stops
pub stops : (steps : List Step) (n : ℕ) (step : Step) (old mid new : List Step) → n < length steps → reverse (take (n + 1) steps) ≡ step ∷ reverse (take n steps) → (why : TreeFault)
    → mid ≡ reverse (take n steps) ++ old → DoesStep step (stopping why) mid new → Performs steps (stopping why) old new
stops steps n step old mid new lt next why so_far does =
    let here = subst (λ (l : List Step). DoesStep step (stopping why) l new) so_far does in
    record {
      some = failed_some steps n step old new lt next why here;
      all = tt;
      cause = λ is. failed_cause (reverse (take n steps)) step old new why here (err_of why is);
    }

-- or is done
pub ends : (steps : List Step) (x : Unit {0}) (old new : List Step) → new ≡ reverse steps ++ old → Performs steps (doing x) old new
ends steps x old new is = record {
  some = (length steps, omega arith, inl (is ∙ ap (λ (l : List Step). reverse l ++ old) (sym (take-length steps))));
  all = is;
  cause = λ is. cc;
}

-- one step
pub one_step : (step : Step) (result : Result (Unit {0}) TreeFault) (old new : List Step) → DoesStep step result old new → Performs (step ∷ []) result old new
one_step step (Ok x) old new does = ends (step ∷ []) x old new does
one_step step (Err why) old new does = stops (step ∷ []) 0 step old old new (omega arith) refl why refl does

-- a plan that stops is the first part of a longer one
pub stops_first : (first later : List Step) (why : TreeFault) (old new : List Step) → Performs first (stopping why) old new → Performs (first ++ later) (stopping why) old new
stops_first first later why old new performs =
    let n = performs.some.0 in
    let le : n ≤ length first = performs.some.1 in
    let is : take n (first ++ later) ≡ take n first = take-append-le n first later le in
    record {
      some = (
        n,
        omega (arith, length-append first later),
        subst (λ (l : List Step). (new ≡ reverse l ++ old) ⊎ (new ≡ Failed ∷ reverse l ++ old)) (sym is) performs.some.2,
      );
      all = tt;
      cause = performs.cause;
    }

-- what is done of the later part is done after the first
later_some : (first later : List Step) (old mid new : List Step) → mid ≡ reverse first ++ old → DoesSome later mid new → DoesSome (first ++ later) old new
later_some first later old mid new so_far does =
    let n = does.0 in
    let is : reverse (take (length first + n) (first ++ later)) ++ old ≡ reverse (take n later) ++ mid =
    ap (λ (l : List Step). reverse l ++ old) (take-append-add first later n)
    ∙ (ap (λ (l : List Step). l ++ old) (reverse-append first (take n later))
    ∙ (append_assoc (reverse (take n later)) (reverse first) old ∙ ap (λ (l : List Step). reverse (take n later) ++ l) (sym so_far))) in (
      length first + n,
      omega (arith, length-append first later, does.1),
      ⊎_elim (λ (so : new ≡ reverse (take n later) ++ mid). inl (so ∙ sym is)) (λ (so : new ≡ Failed ∷ reverse (take n later) ++ mid). inr (so ∙ ap (λ (l : List Step). Failed ∷ l) (sym is))) does.2,
    )

later_all : (first later : List Step) (old mid new : List Step) (result : Result (Unit {0}) TreeFault) → mid ≡ reverse first ++ old → OnOk result (new ≡ reverse later ++ mid) → OnOk result (new ≡ reverse (first ++ later) ++ old)
later_all first later old mid new (Ok x) so_far is =
    is ∙ (ap (λ (l : List Step). reverse later ++ l) so_far
    ∙ (sym (append_assoc (reverse later) (reverse first) old) ∙ ap (λ (l : List Step). l ++ old) (sym (reverse-append first later))))
later_all first later old mid new (Err why) so_far is = tt

-- one plan after the other
pub then_later : (first later : List Step) (x : Unit {0}) (result : Result (Unit {0}) TreeFault) (old mid new : List Step) → Performs first (doing x) old mid → Performs later result mid new → Performs (first ++ later) result old new
then_later first later x result old mid new one two =
    let few : failures old ≤ failures mid = subst (λ (l : List Step). failures old ≤ failures l) (sym one.all) (more_fail old (reverse first)) in
    record {
      some = later_some first later old mid new one.all two.some;
      all = later_all first later old mid new result one.all two.all;
      cause = λ is. let more = two.cause is in omega arith;
    }

-- the same of calls
pub goes_one : (step : Step) (result : Result (Unit {0}) TreeFault) (one two : List Step → Type 0) → Goes one two (DoesStep step result) → Goes one two (Performs (step ∷ []) result)
goes_one step result one two goes = goes_as _ _ one two (λ p q does. one_step step result p q does) goes

pub goes_stopped : (first later : List Step) (why : TreeFault) (one two : List Step → Type 0) → Goes one two (Performs first (stopping why)) → Goes one two (Performs (first ++ later) (stopping why))
goes_stopped first later why one two goes = goes_as _ _ one two (λ p q performs. stops_first first later why p q performs) goes

pub goes_later : (first later : List Step) (x : Unit {0}) (result : Result (Unit {0}) TreeFault) (one mid two : List Step → Type 0)
    → Goes one mid (Performs first (doing x)) → Goes mid two (Performs later result) → Goes one two (Performs (first ++ later) result)
goes_later first later x result one mid two before goes = record {
  from = λ new went.
      let after = goes.from new went in
      let sooner = before.from after.0 after.1 in
      (sooner.0, sooner.1, then_later first later x result sooner.0 after.0 new sooner.2 after.2);
}

-- the same step in other words
pub goes_same : (given step : Step) (result : Result (Unit {0}) TreeFault) (one two : List Step → Type 0) → given ≡ step → Goes one two (DoesStep given result) → Goes one two (DoesStep step result)
goes_same given step result one two same goes = subst (λ (s : Step). Goes one two (DoesStep s result)) same goes

-- what is done of each of some things, one after the other
module _ {A : Type 0} (f : A → Step) where
  pub next : (items : List A) (n : ℕ) (item : A) → n < length items → reverse (take (n + 1) (map f items)) ≡ f (get_or items n item) ∷ reverse (take n (map f items))
  next items n item lt =
      let more : take (n + 1) items ≡ take n items ++ (get_or items n item ∷ []) = rw add-one (take-suc items n item lt) in
      ap reverse (take-map f (n + 1) items ∙ (ap (map f) more ∙ map-append f (take n items) (get_or items n item ∷ [])))
      ∙ (reverse-append (map f (take n items)) (f (get_or items n item) ∷ []) ∙ ap (λ (l : List Step). f (get_or items n item) ∷ reverse l) (sym (take-map f n items)))

  -- so far
  abbrev pub SoFar : List A → ℕ → (old new : List Step) → Type 0
  SoFar items n old new = new ≡ reverse (take n (map f items)) ++ old

  pub goes_on : (items : List A) (n : ℕ) (item : A) (x : Unit {0}) (one mid two : List Step → Type 0) → n < length items → item ≡ get_or items n item
      → Goes one mid (SoFar items n) → Goes mid two (DoesStep (f item) (doing x)) → Goes one two (SoFar items (n + 1))
  goes_on items n item x one mid two lt is first goes = record {
    from = λ new went.
        let later = goes.from new went in
        let sooner = first.from later.0 later.1 in (
          sooner.0,
          sooner.1,
          later.2 ∙ (ap (λ (l : List Step). f item ∷ l) sooner.2 ∙ ap (λ (l : List Step). l ++ sooner.0) (ap (λ (i : A). f i ∷ reverse (take n (map f items))) is ∙ sym (next items n item lt))),
        );
  }

  pub goes_stops : (items : List A) (n : ℕ) (item : A) (why : TreeFault) (one mid two : List Step → Type 0) → n < length items → item ≡ get_or items n item
      → Goes one mid (SoFar items n) → Goes mid two (DoesStep (f item) (stopping why)) → Goes one two (Performs (map f items) (stopping why))
  goes_stops items n item why one mid two lt is first goes = record {
    from = λ new went.
        let later = goes.from new went in
        let sooner = first.from later.0 later.1 in (
          sooner.0,
          sooner.1,
          stops (map f items) n (f item) sooner.0 later.0 new (omega (arith, length-map items f)) (next items n item lt ∙ ap (λ (i : A). f i ∷ reverse (take n (map f items))) (sym is)) why sooner.2 later.2,
        );
  }
