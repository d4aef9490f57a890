-- What is found of a day.
use Rattle.std.proofs.Common.{◌≡◌, inl, inr, ⊎_elim, Bool, true, List, [], sym, ◌∙◌, subst, Result, Ok, Err, Option, Some, None, IfOk, IfSome, IsTrue, arith}
use Rattle.std.specs.declared.alloc.AllocError.{AllocError}
use Rattle.msr_options.specs.declared.days.DayOptions.{DayOptions}
use Rattle.msr_options.specs.declared.hint.Unopened.{Unopened}
use Rattle.msr_tree.specs.Calls.{Goes}
use Rattle.msr_tree.specs.Folders.{ChangesFiles}
use Rattle.msr_tree.specs.Steps.{Path, Step}
use Rattle.msr_making.specs.Day.{IsKeptEither}
use Rattle.msr_making.specs.Ending.{SaysFound, SeeksDay}
use Rattle.msr_making.specs.Keeping.{AsksForKept}
use Rattle.msr_making.specs.Looking.{Asks, AsksForShared, FindsBeside, FindsDay, HasUnknown, IsDayLook, IsSightKnown, SaysDay, SeesAt}
use Rattle.msr_making.specs.Making.{LooksForSame}
use Rattle.msr_making.specs.Places.{DayPaths}
use Rattle.msr_making.specs.Told.{IsLeftEither, IsLeftFor, IsSameThere}
use Rattle.msr_making.specs.declared.answer.DayFault.TheVariants.{CannotOpen}
use Rattle.msr_making.specs.declared.answer.DayOutcome.TheVariants.{Refused, Same}
use Rattle.msr_making.specs.declared.answer.Repacked.{Repacked}
use Rattle.msr_making.specs.declared.looks.DayLook.{DayLook}
use Rattle.msr_making.specs.declared.looks.Sight.{Sight}
use Rattle.msr_making.specs.declared.making.Found.TheVariants.{Ended, Open}
use Rattle.msr_naming.proofs.FallingBack.{goes_both}
use Rattle.msr_tree.specs.Calls.{AreOneFile}
use Rattle.msr_tree.proofs.Filing.{changes_none, changes_then, no_fewer, now_kept}
use Rattle.msr_making.proofs.Lefts.{either_before}
use Rattle.msr_making.proofs.Untouched.{left_untouched, still_there}
use Rattle.msr_making.proofs.Sights.{asks_as, asks_then, day_look_later, found_day, said_nothing}

abbrev given : {A : Type 0} → A → Result A AllocError
given a = Ok a

-- what a look told, and then something was asked
said_then : (paths : DayPaths) (look : DayLook) (old mid new : List Step) → ChangesFiles [] mid new → SaysDay paths old mid look → SaysDay paths old new look
said_then paths look old mid new changes said = record { are = said.are; failed = λ u. let few = no_fewer [] mid new changes in let more = said.failed u in omega arith }

module _ (paths : DayPaths) (asked : DayOptions) (look : DayLook) where
  -- nothing was made
  untouched : (u : Unopened) (p q : List Step) → ChangesFiles [] p q → IsLeftFor asked.keep_old (CannotOpen u) paths p q
  untouched u p q changes = left_untouched paths p q asked.keep_old (CannotOpen u) (still_there paths p q changes) (inl (still_there paths p q changes))

  pub found_unknown : (u : Unopened) (one two : List Step → Type 0) → HasUnknown look → Goes one two (FindsDay paths (Ok look)) → Goes one two (SeeksDay paths asked (Ok (Ended (Refused (CannotOpen u)))))
  found_unknown u one two unknown goes = asks_as _ (SaysFound paths asked) (given look) (given (Ended (Refused (CannotOpen u)))) one two (λ p q x said. (inr (said.failed unknown), untouched u p q x)) goes

  pub found_shared : (u : Unopened) (answer : Bool) (one mid two : List Step → Type 0) → answer ≡ true → Goes one mid (FindsDay paths (Ok look)) → Goes mid two (AsksForShared paths (Ok answer))
      → Goes one two (SeeksDay paths asked (Ok (Ended (Refused (CannotOpen u)))))
  found_shared u answer one mid two is first second = asks_then _ _ (SaysFound paths asked) (given look) (given answer) (given (Ended (Refused (CannotOpen u)))) one mid two
      (λ p q r x y said shared.
      let few = no_fewer [] p q x in (
        ⊎_elim
            (λ one. inl (⊎_elim (λ a. inl (one_before p q x paths.records a)) (λ b. inr (⊎_elim (λ a. inl (one_before p q x paths.report a)) (λ a. inr (one_before p q x paths.stamp a)) b)) one))
            (λ failed. inr (omega arith)) (shared is),
        untouched u p r (changes_then [] p q r x y),
      )) first second
    where
      one_before : (p q : List Step) → ChangesFiles [] p q → (path : Path) → AreOneFile paths.input path q → AreOneFile paths.input path p
      one_before p q x path is = (is.0, sym (now_kept [] paths.input p q tt x) ∙ is.1, sym (now_kept [] path p q tt x) ∙ is.2)

  -- it is to be made
  pub found_open : {A : Type 0} (Second : (old new : List Step) → A → Type 0) (second : Result A AllocError) (one mid two : List Step → Type 0) → IsSightKnown look → Goes one mid (FindsDay paths (Ok look)) → Goes mid two (Asks Second second)
      → Goes one two (SeeksDay paths asked (Ok (Open look)))
  found_open Second second one mid two known first last = asks_then _ Second (SaysFound paths asked) (given look) second (given (Open look)) one mid two
      (λ p q r x y said other. (said_then paths look p q r y said, known)) first last

  -- both questions
  pub asked_both : {A : Type 0} (Third : (old new : List Step) → A → Type 0) (answer : Bool) (third : Result A AllocError) (one mid two : List Step → Type 0) → Goes one mid (AsksForShared paths (Ok answer)) → Goes mid two (Asks Third third)
      → Goes one two (Asks (λ sooner later a. (q : List Step) × ChangesFiles [] sooner q × Third q later a) third)
  asked_both {A = A} Third answer third one mid two first last = asks_then _ Third _ (given answer) third third one mid two (λ p q r x y shared said. of third p q r x said) first last
    where
      of : (t : Result A AllocError) (p q r : List Step) → ChangesFiles [] p q → IfOk t (λ a. Third q r a) → IfOk t (λ a. (m : List Step) × ChangesFiles [] p m × Third m r a)
      of (Ok a) p q r x said = (q, x, said)
      of (Err e) p q r x said = tt

  pub kept_at : (found : Option Repacked) (repacked : Repacked) (one two : List Step → Type 0) → found ≡ Some repacked → Goes one two (AsksForKept paths look asked (Ok found)) → Goes one two (AsksForKept paths look asked (Ok (Some repacked)))
  kept_at found repacked one two is goes = subst (λ (f : Option Repacked). Goes one two (AsksForKept paths look asked (Ok f))) is goes

  pub was_kept : (found : Option Repacked) (repacked : Repacked) → found ≡ Some repacked → IfSome found (IsKeptEither asked) → IsKeptEither asked repacked
  was_kept found repacked is kept = subst (λ (f : Option Repacked). IfSome f (IsKeptEither asked)) is kept

  pub found_same : (repacked : Repacked) (answer : Bool) (one two three four : List Step → Type 0) → IsTrue asked.resume → Goes one two (FindsDay paths (Ok look)) → Goes two three (AsksForShared paths (Ok answer))
      → Goes three four (AsksForKept paths look asked (Ok (Some repacked))) → Goes one four (SeeksDay paths asked (Ok (Ended (Same repacked))))
  found_same repacked answer one two three four resume first second third = asks_then _ _ (SaysFound paths asked) (given look) (given (Some repacked)) (given (Ended (Same repacked))) one two four
      (λ p q r x y said kept. (
        record {
          resume = resume;
          left = either_before paths asked repacked p kept.0 (changes_then [] p q kept.0 x kept.1) (kept.2 (day_look_later paths look p kept.0 (changes_then [] p q kept.0 x kept.1) said.are));
        },
        still_there paths p r (changes_then [] p q r x y),
      )) first (asked_both _ answer (given (Some repacked)) two three four second third)

  same_of : (found : Result (Option Repacked) AllocError) (old mid new : List Step) → IsTrue asked.resume → ChangesFiles [] old mid → IsDayLook paths look mid
      → IfOk found (λ f. IsDayLook paths look mid → IfSome f (λ repacked. IsLeftEither asked paths repacked mid)) → IfOk found (λ f. IfSome f (λ repacked. IsSameThere asked paths repacked old))
  same_of (Ok (Some repacked)) old mid new resume changes looked is = record { resume = resume; left = either_before paths asked repacked old mid changes (is looked) }
  same_of (Ok None) old mid new resume changes looked is = tt
  same_of (Err e) old mid new resume changes looked is = tt

  pub same_kept : (stamp : Sight) (answer : Bool) (found : Result (Option Repacked) AllocError) (one two three four five : List Step → Type 0) → IsTrue asked.resume
      → Goes one two (SeesAt paths.stamp (Ok stamp)) → Goes two three (FindsBeside paths stamp (Ok look)) → Goes three four (AsksForShared paths (Ok answer)) → Goes four five (AsksForKept paths look asked found)
      → Goes one five (LooksForSame paths asked found)
  same_kept stamp answer found one two three four five resume a b c d =
      goes_both _ _ _ one three five
      (λ p q r x y. record {
        changes = changes_then [] p q r x.changes y.0;
        same =
            let m = y.1 in
            let all = changes_then [] p q m.0 x.changes m.1 in
            same_of found p m.0 r resume all (day_look_later paths look p m.0 all x.said.are) m.2;
      }) (found_day paths stamp (given look) one two three a b)
      (goes_both _ _ (λ q r. ChangesFiles [] q r × ((m : List Step) × ChangesFiles [] q m × IfOk found (λ f. IsDayLook paths look m → IfSome f (λ repacked. IsLeftEither asked paths repacked m)))) three four five
      (λ q m r x y. (changes_then [] q m r x.changes y.changes, (m, x.changes, y.said))) c d)

-- a day that nobody has claimed
module _ (paths : DayPaths) (asked : DayOptions) where
  pub same_nothing : (one : List Step → Type 0) → Goes one one (LooksForSame paths asked (Ok None))
  same_nothing one = record { from = λ new went. (new, went, record { changes = changes_none [] new; same = tt }) }

  pub same_none_then : {A B : Type 0} (First : (old new : List Step) → A → Type 0) (Second : (old new : List Step) → B → Type 0) (first : Result A AllocError) (second : Result B AllocError) (one mid two : List Step → Type 0)
      → Goes one mid (Asks First first) → Goes mid two (Asks Second second) → Goes one two (LooksForSame paths asked (Ok None))
  same_none_then First Second first second one mid two a b = goes_both _ _ _ one mid two (λ p q r x y. record { changes = changes_then [] p q r x.changes y.changes; same = tt }) a b

  pub same_stopped_then : {A B : Type 0} (First : (old new : List Step) → A → Type 0) (Second : (old new : List Step) → B → Type 0) (first : Result A AllocError) (second : Result B AllocError) (e : AllocError) (one mid two : List Step → Type 0)
      → Goes one mid (Asks First first) → Goes mid two (Asks Second second) → Goes one two (LooksForSame paths asked (Err e))
  same_stopped_then First Second first second e one mid two a b = goes_both _ _ _ one mid two (λ p q r x y. record { changes = changes_then [] p q r x.changes y.changes; same = tt }) a b

  -- two questions as one
  pub asked_two : {A B : Type 0} (First : (old new : List Step) → A → Type 0) (Second : (old new : List Step) → B → Type 0) (first : Result A AllocError) (second : Result B AllocError) (one mid two : List Step → Type 0)
      → Goes one mid (Asks First first) → Goes mid two (Asks Second second) → Goes one two (Asks said_nothing (given tt))
  asked_two First Second first second one mid two a b = asks_then First Second said_nothing first second (given tt) one mid two (λ p q r x y z w. tt) a b
