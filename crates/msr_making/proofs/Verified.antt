-- What was written of a day is read again.
use Rattle.std.proofs.Common.{◌≡◌, ⊎_elim, ◌≤◌, ℕ, false, List, [], refl, sym, ◌∙◌, subst, Result, Ok, Err, Some, IfOk, arith}
use Rattle.msr_devices.specs.Device.{Device, HasLeft, unused}
use Rattle.msr_options.specs.Choice.{Choice}
use Rattle.msr_options.specs.declared.days.DayOptions.{DayOptions}
use Rattle.msr_options.specs.declared.hint.Side.{Side}
use Rattle.msr_tree.specs.Folders.{ActsOnFiles}
use Rattle.msr_tree.specs.Calls.{Goes, Opens, Tells}
use Rattle.msr_tree.specs.Folders.{ChangesFiles}
use Rattle.msr_tree.specs.Steps.{Path, Step, failures, seen}
use Rattle.msr_tree.specs.declared.tree.TreeFault.{TreeFault}
use Rattle.msr_tree.proofs.Acting.{giving, goes_as}
use Rattle.msr_tree.proofs.Filing.{acts_tells, changes_none, changes_then, no_fewer, seen_kept}
use Rattle.msr_naming.proofs.FallingBack.{goes_both}
use Rattle.msr_naming.specs.declared.files.DayFiles.{DayFiles}
use Rattle.msr_making.specs.Day.{RepackAnswers, VerifiedAnswers, VerifiesRepack}
use Rattle.msr_making.specs.Parts.{IsUnopened, called_told}
use Rattle.msr_making.specs.Verifying.{FailsIfUnopened, IsSaidAgain, OpensAt, VerifiedOf, VerifiesAsked, VerifiesParts, WasVerifiedAs}
use Rattle.msr_making.specs.declared.answer.DayFault.{DayFault}
use Rattle.msr_making.specs.declared.answer.DayFault.TheVariants.{CannotOpen, Changed, Differs, NotShown, Tool}
use Rattle.msr_making.specs.declared.answer.Stop.{Stop}
use Rattle.msr_making.specs.declared.answer.Stop.TheVariants.{Memory, Refused}

pub opens_at : {R : Type 0} (path : Path) (device : R → Device) (result : Result R Stop) (answer : Result R TreeFault) (one two : List Step → Type 0) → called_told result ≡ answer
    → Goes one two (Tells (λ past reader. Opens path past (device reader)) answer) → Goes one two (ActsOnFiles [] (OpensAt path device) (called_told result))
opens_at {R = R} path device result answer one two is goes = goes_as _ _ one two
    (λ p q tells. let acts = acts_tells [] (λ past reader. Opens path past (device reader)) (called_told result) p q tells in
    record { changes = acts.changes; cause = acts.cause; does = only (called_told result) p q acts.does })
    (subst (λ (a : Result R TreeFault). Goes one two (Tells (λ past reader. Opens path past (device reader)) a)) (sym is) goes)
  where
    only : (r : Result R TreeFault) (p q : List Step) → IfOk r (λ reader. (q ≡ p) × Opens path p (device reader)) → IfOk r (λ reader. OpensAt path device p q reader)
    only (Ok reader) p q is = is.1
    only (Err why) p q is = tt

-- what is told where the answer was one of these files
pub told_verified : (choice : Choice) (file records report : Device) (why : DayFault) → VerifiesRepack choice file records report (Err why) → VerifiedAnswers choice (Err why)
told_verified choice file records report (CannotOpen u) does = tt
told_verified choice file records report NotShown does = record { records = does.written; text = does.text; unshown = does.answers }
told_verified choice file records report Differs does = record { file = does.input; records = does.written; text = does.text; other = does.answers }
told_verified choice file records report (Tool fault) does = does.answers
told_verified choice file records report why does = absurd does.answers

module _ (input : Path) (files : DayFiles) (choice : Choice) where
  abbrev V : Result (Unit {0}) Stop → (old new : List Step) → Type 0
  V result old new = VerifiesParts input files choice result old new

  later_fails : (result : Result (Unit {0}) Stop) (old mid new : List Step) → failures old ≤ failures mid → FailsIfUnopened result mid new → FailsIfUnopened result old new
  later_fails (Ok x) old mid new few fails = tt
  later_fails (Err (Refused (CannotOpen u))) old mid new few fails = omega arith
  later_fails (Err (Refused why)) old mid new few fails = tt
  later_fails (Err Memory) old mid new few fails = tt

  -- once something was opened
  pub then_verified : {A : Type 0} (First : (old new : List Step) → A → Type 0) (a : Result A TreeFault) (result : Result (Unit {0}) Stop) (one mid two : List Step → Type 0)
      → Goes one mid (ActsOnFiles [] First a) → Goes mid two (V result) → Goes one two (V result)
  then_verified First a result one mid two first second = goes_both _ _ _ one mid two
      (λ p q r x y. record {
        changes = changes_then [] p q r x.changes y.changes;
        failed = later_fails result p q r (no_fewer [] p q x.changes) y.failed;
        said = λ file records text f c t. y.said file records text (seen_kept [] input p q tt x.changes ∙ f) (seen_kept [] files.records.part p q tt x.changes ∙ c) (seen_kept [] files.report.part p q tt x.changes ∙ t);
      }) first second

  pub not_opened : {A : Type 0} (First : (old new : List Step) → A → Type 0) (side : Side) (stop : Stop) (one two : List Step → Type 0) → IsUnopened side stop
      → Goes one two (ActsOnFiles [] First (called_told {T = A} (Err stop))) → Goes one two (V (Err stop))
  not_opened {A = A} First side stop one two is goes = goes_as _ _ one two (λ p q acts. by_stop stop is p q acts) goes
    where
      by_stop : (why : Stop) → IsUnopened side why → (p q : List Step) → ActsOnFiles [] First (called_told {T = A} (Err why)) p q → V (Err why) p q
      by_stop (Refused (CannotOpen u)) ok p q acts = record { changes = acts.changes; failed = acts.cause refl; said = λ file records text f c t. tt }
      by_stop (Refused why) ok p q acts = absurd ok
      by_stop Memory ok p q acts = record { changes = acts.changes; failed = tt; said = λ file records text f c t. tt }

  -- the bytes of a name that was opened
  left_so : (path : Path) (past : List Step) (source : Device) (bytes given : List ℕ) → Opens path past source → HasLeft source given → seen past path ≡ Some bytes → given ≡ bytes
  left_so path past source bytes given opens left has =
      let here : HasLeft (unused (Some opens.0)) given = subst (λ (d : Device). HasLeft d given) opens.2 left in
      let there = opens.1 in
      cc

  module _ {R : Type 0} (device : R → Device) (records report own : R) (one two three four : List Step → Type 0)
      (first : Goes one two (ActsOnFiles [] (OpensAt files.records.part device) (giving records))) (second : Goes two three (ActsOnFiles [] (OpensAt files.report.part device) (giving report)))
      (third : Goes three four (ActsOnFiles [] (OpensAt input device) (giving own))) where
    -- these have this answer
    verified_by : (answer : Result (Unit {0}) DayFault) (result : Result (Unit {0}) Stop) → VerifiesRepack choice (device own) (device records) (device report) answer
        → ((p q : List Step) → FailsIfUnopened result p q) → ((f c t : List ℕ) → RepackAnswers choice f c t answer → VerifiedOf choice f c t result) → Goes one four (V result)
    verified_by answer result does fails so = goes_both _ _ _ one two four
        (λ p q r x y. record {
          changes = changes_then [] p q r x.changes y.0;
          failed = fails p r;
          said = λ file written text f c t. so file written text
              (subst (λ (l : List ℕ). RepackAnswers choice l written text answer) (y.1 file (seen_kept [] input p q tt x.changes ∙ f))
              (subst (λ (l : List ℕ). RepackAnswers choice does.input l text answer) (left_so files.records.part p (device records) written does.written x.does does.left_records c)
              (subst (λ (l : List ℕ). RepackAnswers choice does.input does.written l answer) (y.2 text (seen_kept [] files.report.part p q tt x.changes ∙ t)) does.answers)));
        }) first
        (goes_both _ _ (λ q r. ChangesFiles [] q r × ((file : List ℕ) → seen q input ≡ Some file → does.input ≡ file) × ((text : List ℕ) → seen q files.report.part ≡ Some text → does.text ≡ text)) two three four
        (λ q m r x y. (
          changes_then [] q m r x.changes y.changes,
          λ file f. left_so input m (device own) file does.input y.does does.left (seen_kept [] input q m tt x.changes ∙ f),
          λ text t. left_so files.report.part q (device report) text does.text x.does does.left_report t,
        )) second third)

    pub verified_well : VerifiesRepack choice (device own) (device records) (device report) (Ok tt) → Goes one four (V (Ok tt))
    verified_well does = verified_by (Ok tt) (Ok tt) does (λ p q. tt) (λ f c t is. is)

    fails_none : (why : DayFault) → VerifiesRepack choice (device own) (device records) (device report) (Err why) → (p q : List Step) → FailsIfUnopened (Err (Refused why)) p q
    fails_none (CannotOpen u) does p q = absurd does.answers
    fails_none why does p q = tt

    of_fault : (why : DayFault) (f c t : List ℕ) → RepackAnswers choice f c t (Err why) → VerifiedOf choice f c t (Err (Refused why))
    of_fault (CannotOpen u) f c t is = tt
    of_fault Changed f c t is = absurd is
    of_fault why f c t is = is

    pub verified_not : (why : DayFault) → VerifiesRepack choice (device own) (device records) (device report) (Err why) → Goes one four (V (Err (Refused why)))
    verified_not why does = verified_by (Err why) (Err (Refused why)) does (fails_none why does) (of_fault why)

-- what is said again of the same
module _ (choice : Choice) where
  pub said_was : (said result : Result (Unit {0}) Stop) → IsSaidAgain said result → WasVerifiedAs choice said → WasVerifiedAs choice result
  said_was (Err (Refused Differs)) result again was = ⊎_elim
      (λ is. subst (λ (r : Result (Unit {0}) Stop). WasVerifiedAs choice r) (sym is) was)
      (λ rest. ⊎_elim
      (λ is. subst (λ (r : Result (Unit {0}) Stop). WasVerifiedAs choice r) (sym is) was)
      (λ is. subst (λ (r : Result (Unit {0}) Stop). WasVerifiedAs choice r) (sym is) tt)
      rest)
      again
  said_was said result again was = subst (λ (r : Result (Unit {0}) Stop). WasVerifiedAs choice r) (sym again) was

  said_of : (file records text : List ℕ) (said result : Result (Unit {0}) Stop) → IsSaidAgain said result → VerifiedOf choice file records text said → VerifiedOf choice file records text result
  said_of file records text (Err (Refused Differs)) result again of = ⊎_elim
      (λ is. subst (λ (r : Result (Unit {0}) Stop). VerifiedOf choice file records text r) (sym is) of)
      (λ rest. ⊎_elim
      (λ is. subst (λ (r : Result (Unit {0}) Stop). VerifiedOf choice file records text r) (sym is) of)
      (λ is. subst (λ (r : Result (Unit {0}) Stop). VerifiedOf choice file records text r) (sym is) tt)
      rest)
      again
  said_of file records text said result again of = subst (λ (r : Result (Unit {0}) Stop). VerifiedOf choice file records text r) (sym again) of

fails_again : (said result : Result (Unit {0}) Stop) (old mid new : List Step) → IsSaidAgain said result → failures mid ≤ failures new → FailsIfUnopened said old mid → FailsIfUnopened result old new
fails_again said result old mid new again few fails = by said again fails
  where
    later : (r : Result (Unit {0}) Stop) → FailsIfUnopened r old mid → FailsIfUnopened r old new
    later (Ok x) is = tt
    later (Err (Refused (CannotOpen u))) is = omega arith
    later (Err (Refused why)) is = tt
    later (Err Memory) is = tt

    by : (r : Result (Unit {0}) Stop) → IsSaidAgain r result → FailsIfUnopened r old mid → FailsIfUnopened result old new
    by (Err (Refused Differs)) same is = ⊎_elim
        (λ e. subst (λ (r : Result (Unit {0}) Stop). FailsIfUnopened r old new) (sym e) tt)
        (λ rest. ⊎_elim
        (λ e. subst (λ (r : Result (Unit {0}) Stop). FailsIfUnopened r old new) (sym e) tt)
        (λ e. subst (λ (r : Result (Unit {0}) Stop). FailsIfUnopened r old new) (sym e) tt)
        rest)
        same
    by r same is = subst (λ (r : Result (Unit {0}) Stop). FailsIfUnopened r old new) (sym same) (later r is)

-- if that is asked for
pub said_again : (input : Path) (files : DayFiles) (asked : DayOptions) (said result : Result (Unit {0}) Stop) (one mid two : List Step → Type 0) → IsSaidAgain said result
    → Goes one mid (VerifiesParts input files asked.options said) → Goes mid two (ChangesFiles []) → Goes one two (VerifiesAsked input files asked result)
said_again input files asked said result one mid two again first second = goes_both _ _ _ one mid two
    (λ p q r v leaves. record {
      changes = changes_then [] p q r v.changes leaves;
      failed = fails_again said result p q r again (no_fewer [] q r leaves) v.failed;
      said = λ file records text f c t check. said_of asked.options file records text said result again (v.said file records text f c t);
    }) first second

pub unasked_verified : (input : Path) (files : DayFiles) (asked : DayOptions) (one : List Step → Type 0) → asked.check ≡ false → Goes one one (VerifiesAsked input files asked (Ok tt))
unasked_verified input files asked one not = record {
  from = λ new went. (new, went, record { changes = changes_none [] new; failed = tt; said = λ file records text f c t check. absurd cc });
}

-- a file that was not opened says nothing of some day
pub unopened_was : (choice : Choice) (side : Side) (stop : Stop) → IsUnopened side stop → WasVerifiedAs choice (Err stop)
unopened_was choice side (Refused (CannotOpen u)) is = tt
unopened_was choice side (Refused why) is = absurd is
unopened_was choice side Memory is = tt
