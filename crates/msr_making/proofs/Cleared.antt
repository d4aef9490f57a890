-- What was made of a day goes.
use Rattle.std.proofs.Common.{◌≡◌, ◌≢◌, ◌⊎◌, ◌≤◌, ◌&&◌, bytes_eq, inl, inr, ⊎_elim, Bool, true, false, List, [], ◌∷◌, refl, sym, ◌∙◌, ap, subst, Result, Ok, Err, None, OnOk, IfOk, is_ok, option_map, arith}
use Rattle.std.proofs.lemmas.Slice.Eq.{bytes_eq-Decides}
use Rattle.std.specs.declared.alloc.AllocError.{AllocError}
use Rattle.msr_tree.specs.Calls.{DoesStep, Goes}
use Rattle.msr_tree.specs.Folders.{ChangesFiles}
use Rattle.msr_tree.specs.Steps.{IsNoneOf, Path, Removed, Step, failures, now, seen}
use Rattle.msr_tree.specs.declared.tree.TreeFault.{TreeFault}
use Rattle.msr_tree.specs.declared.tree.TreeFault.TheVariants as fault
use Rattle.msr_tree.proofs.Acting.{goes_as}
use Rattle.msr_tree.proofs.Moments.{at_end, joined}
use Rattle.msr_tree.proofs.Filing.{acts_does, changes_more, changes_then, no_fewer, seen_kept}
use Rattle.msr_naming.proofs.FallingBack.{goes_both}
use Rattle.msr_naming.specs.Naming.{AreDayNames, day_paths, told}
use Rattle.msr_naming.specs.Promise.{ClearsDay, HasOwn, HasReport, IsFree}
use Rattle.msr_naming.specs.declared.fallback.Naming.{Naming}
use Rattle.msr_naming.specs.declared.files.DayFiles.{DayFiles}
use Rattle.msr_naming.specs.declared.files.Name.TheVariants.{RecordsPart, ReportPart, StampPart}
use Rattle.msr_making.specs.Clearing.{EndsRefused, EndsSwept, FindsNone, GivesUp, StaysOrGoes, SweepsDay, beside_paths}
use Rattle.msr_making.specs.Looking.{FindsDay, IsDayLook, IsSightAt, IsUnfound}
use Rattle.msr_making.specs.Places.{DayPaths, IsUnseen, paths_of}
use Rattle.msr_options.specs.declared.days.DayOptions.{DayOptions}
use Rattle.msr_making.specs.Told.{AreUntouched, IsClearedThere, stays_for}
use Rattle.msr_making.specs.declared.answer.DayEnd.{DayEnd}
use Rattle.msr_making.specs.declared.answer.DayFault.{DayFault}
use Rattle.msr_making.specs.declared.answer.DayFault.TheVariants.{ClaimedByAnother}
use Rattle.msr_making.specs.declared.answer.DayOutcome.{DayOutcome}
use Rattle.msr_making.specs.declared.answer.DayOutcome.TheVariants.{Refused}
use Rattle.msr_making.specs.declared.answer.Left.{Left}
use Rattle.msr_making.specs.declared.answer.Left.TheVariants as left
use Rattle.msr_making.specs.declared.looks.DayLook.{DayLook}
use Rattle.msr_making.specs.declared.looks.Sight.{Sight}
use Rattle.msr_making.specs.declared.looks.Sight.TheVariants.{Nothing}
use Rattle.msr_making.proofs.Made.{is_so}
use Rattle.msr_making.proofs.Owns.{AreNone, more_beside, none_beside, none_empty, own_each, own_kept, report_each, report_kept, shows_free, shows_kept}
use Rattle.msr_making.proofs.Sights.{asks_as, goes_nothing}
use Rattle.msr_making.proofs.Untouched.{ends_then, goes_for, still_there, untouched_by, untouched_then}

-- each of three calls succeeded
pub all_three : (a b c x y z : Bool) → a ≡ x → b ≡ y → c ≡ z → a && b && c ≡ true → (x ≡ true) × (y ≡ true) × (z ≡ true)
all_three true true true x y z one two three is = (sym one, sym two, sym three)
all_three true true false x y z one two three is = absurd cc
all_three true false c x y z one two three is = absurd cc
all_three false b c x y z one two three is = absurd cc

-- three names go
module _ (files : DayFiles) where
  one_gone : {A : Type 0} (at : Path) (answer : Result A TreeFault) → ((name : Path) → IsNoneOf name (beside_paths files) → IsNoneOf name (at ∷ [])) → (old new : List Step) → DoesStep (Removed at) answer old new → ChangesFiles (beside_paths files) old new
  one_gone at answer inside old new does = changes_more (at ∷ []) (beside_paths files) old new inside (acts_does (at ∷ []) (Removed at) answer old new (λ name none. none.0) tt does).changes

  removed : (at : Path) (old : List Step) → seen (Removed at ∷ old) at ≡ None
  removed at old = rw (bytes_eq-Decides at at).1 refl

  gone_of : {A : Type 0} (at : Path) (answer : Result A TreeFault) (old new : List Step) → is_ok answer ≡ true → DoesStep (Removed at) answer old new → seen new at ≡ None
  gone_of at (Ok x) old new ok does = subst (λ (l : List Step). seen l at ≡ None) (sym does) (removed at old)
  gone_of at (Err why) old new ok does = absurd cc

  -- the first stays gone while the others go
  still_gone : {A : Type 0} (name at : Path) (answer : Result A TreeFault) (old new : List Step) → bytes_eq name at ≡ false → DoesStep (Removed at) answer old new → seen old name ≡ None → seen new name ≡ None
  still_gone name at answer old new apart does none =
      seen_kept (at ∷ []) name old new (apart, tt) (acts_does (at ∷ []) (Removed at) answer old new (λ n is. is.0) tt does).changes ∙ none

  pub sweeps : {A B C : Type 0} (a : Result A TreeFault) (b : Result B TreeFault) (c : Result C TreeFault) (is_swept : Bool) (one two three four : List Step → Type 0)
      → (is_swept ≡ true → (is_ok a ≡ true) × (is_ok b ≡ true) × (is_ok c ≡ true))
      → Goes one two (DoesStep (Removed files.records.part) a) → Goes two three (DoesStep (Removed files.report.part) b) → Goes three four (DoesStep (Removed files.stamp.part) c)
      → Goes one four (SweepsDay files is_swept)
  sweeps a b c is_swept one two three four all first second third = goes_both _ _ _ one two four
      (λ p q s x rest. record {
        changes = changes_then (beside_paths files) p q s (one_gone files.records.part a (λ n none. (none.0, tt)) p q x)
            (changes_then (beside_paths files) q rest.0 s (one_gone files.report.part b (λ n none. (none.1.0, tt)) q rest.0 rest.1) (one_gone files.stamp.part c (λ n none. (none.1.1.0, tt)) rest.0 s rest.2));
        gone = λ is are.
            let ok = all is in (
              still_gone files.records.part files.stamp.part c rest.0 s (are.apart RecordsPart StampPart refl) rest.2
                  (still_gone files.records.part files.report.part b q rest.0 (are.apart RecordsPart ReportPart refl) rest.1 (gone_of files.records.part a p q ok.0 x)),
              still_gone files.report.part files.stamp.part c rest.0 s (are.apart ReportPart StampPart refl) rest.2 (gone_of files.report.part b q rest.0 ok.1 rest.1),
              gone_of files.stamp.part c rest.0 s ok.2 rest.2,
            );
      }) first
      (goes_both _ _ (λ q s. (m : List Step) × DoesStep (Removed files.report.part) b q m × DoesStep (Removed files.stamp.part) c m s) two three four (λ q m s x y. (m, x, y)) second third)

  -- by names alone
  pub swept : {A B C : Type 0} (a : Result A TreeFault) (b : Result B TreeFault) (c : Result C TreeFault) (one two three four : List Step → Type 0)
      → Goes one two (DoesStep (Removed files.records.part) a) → Goes two three (DoesStep (Removed files.report.part) b) → Goes three four (DoesStep (Removed files.stamp.part) c)
      → Goes one four (λ old new. ChangesFiles (beside_paths files) old new)
  swept a b c one two three four first second third =
      goes_both _ _ _ one two four (λ p q r x y. changes_then (beside_paths files) p q r (one_gone files.records.part a (λ n none. (none.0, tt)) p q x) y) first
      (goes_both _ _ (λ q s. ChangesFiles (beside_paths files) q s) two three four
      (λ q m s x y. changes_then (beside_paths files) q m s (one_gone files.report.part b (λ n none. (none.1.0, tt)) q m x) (one_gone files.stamp.part c (λ n none. (none.1.1.0, tt)) m s y)) second third)

-- of the same names
pub finds_at : (a b : DayPaths) (result : Result Bool AllocError) (one two : List Step → Type 0) → a ≡ b → Goes one two (FindsNone a result) → Goes one two (FindsNone b result)
finds_at a b result one two same goes = subst (λ (d : DayPaths). Goes one two (FindsNone d result)) same goes

-- nothing was found
pub unseen_by : (paths : DayPaths) (look : DayLook) (past : List Step) → IsUnfound look → IsDayLook paths look past → IsUnseen paths past
unseen_by paths look past found is = (
  none paths.records look.records found.0 is.records,
  none paths.report look.report found.1 is.report,
  none paths.stamp look.stamp found.2 is.stamp,
)
  where
    none : (path : Path) (sight : Sight) → sight ≡ Nothing → IsSightAt path past sight → seen past path ≡ None
    none path sight nothing at =
        let here : now past path ≡ None = subst (λ (s : Sight). IsSightAt path past s) nothing at in
        ap (λ found. option_map (λ file. file.bytes) found) here

pub finds_none : (paths : DayPaths) (look : DayLook) (answer : Bool) (one two : List Step → Type 0) → (answer ≡ true → IsUnfound look) → Goes one two (FindsDay paths (Ok look)) → Goes one two (FindsNone paths (Ok answer))
finds_none paths look answer one two so goes = asks_as _ _ (given look) (given answer) one two (λ p q x said. λ is. unseen_by paths look p (so is) said.are) goes
  where
    given : {A : Type 0} → A → Result A AllocError
    given a = Ok a

module _ (input : Path) (files : DayFiles) where
  abbrev paths : DayPaths
  paths = paths_of input files

  unseen_later : (old new : List Step) → ChangesFiles [] old new → IsUnseen paths old → IsUnseen paths new
  unseen_later old new changes is = (
    seen_kept [] files.records.path old new tt changes ∙ is.0,
    seen_kept [] files.report.path old new tt changes ∙ is.1,
    seen_kept [] files.stamp.path old new tt changes ∙ is.2,
  )

  cleared_earlier : (old mid new : List Step) → failures old ≤ failures mid → IsClearedThere paths mid new → IsClearedThere paths old new
  cleared_earlier old mid new few is = ⊎_elim (λ none. inl none) (λ failed. inr (omega arith)) is

  -- names beside those of the day change before
  pub then_gives : (names : List Path) (none : AreDayNames files → AreNone files names) (more : (name : Path) → IsNoneOf name (day_paths files) → IsNoneOf name names) (why : DayFault) (end : DayEnd) (one mid two : List Step → Type 0)
      → Goes one mid (λ p q. ChangesFiles names p q) → Goes mid two (GivesUp paths files why end) → Goes one two (GivesUp paths files why end)
  then_gives names none more why end one mid two first second = goes_both _ _ _ one mid two
      (λ p q r x y. record {
        safe = λ stored is_own is_of are has. joined (HasOwn is_own is_of files) p q r (own_each files names (none are) p q x is_own is_of has) (y.safe stored is_own is_of are (own_kept files names (none are) p q x is_own is_of has));
        killed = λ is_own are has. joined (HasReport is_own files) p q r (report_each files names (none are) p is_own has q x) (y.killed is_own are (report_kept files names (none are) p is_own has q x));
        cleared = earlier end.outcome p q r (no_fewer names p q x) y.cleared;
        unstamped = y.unstamped;
        leaves = λ ok same are shows.
            let few = no_fewer names p q x in
            let more = no_fewer (day_paths files) q r y.changes in
            y.leaves ok (omega arith) are (shows_kept files names (none are) p q x shows);
        unstored = λ not. let few = no_fewer names p q x in let more = y.unstored not in omega arith;
        changes = changes_then (day_paths files) p q r (changes_more names (day_paths files) p q more x) y.changes;
      }) first second
    where
      earlier : (outcome : Result DayOutcome AllocError) (p q r : List Step) → failures p ≤ failures q → IfOk outcome (λ o. (o ≡ Refused why) × (AreDayNames files → IsClearedThere paths q r))
          → IfOk outcome (λ o. (o ≡ Refused why) × (AreDayNames files → IsClearedThere paths p r))
      earlier (Ok o) p q r few is = (is.0, λ are. cleared_earlier p q r few (is.1 are))
      earlier (Err e) p q r few is = tt

  -- nothing more is done
  pub ends_gone : (why : DayFault) (rest : Left) (answer : Bool) (one two : List Step → Type 0) → answer ≡ true → (rest ≡ left.Stamp → ⊥) → Goes one two (FindsNone paths (Ok answer))
      → Goes one two (GivesUp paths files why (record { outcome = Ok (Refused why); left = rest; is_stored = true }))
  ends_gone why rest answer one two so unstamped goes = goes_as _ _ one two
      (λ p q x. record {
        safe = λ stored is_own is_of are has. own_each files [] (none_empty files) p q x.changes is_own is_of has;
        killed = λ is_own are has. report_each files [] (none_empty files) p is_own has q x.changes;
        cleared = (refl, λ are. inl (unseen_later p q x.changes (x.said so)));
        unstamped = unstamped;
        leaves = λ ok same are shows. shows_kept files [] (none_empty files) p q x.changes shows;
        unstored = λ not. absurd cc;
        changes = changes_more [] (day_paths files) p q (λ n none. tt) x.changes;
      }) goes

  pub ends_memory : (why : DayFault) (result : Result Bool AllocError) (e : AllocError) (one two : List Step → Type 0) → Goes one two (FindsNone paths result)
      → Goes one two (GivesUp paths files why (record { outcome = Err e; left = left.Parts; is_stored = true }))
  ends_memory why result e one two goes = goes_as _ _ one two
      (λ p q x. record {
        safe = λ stored is_own is_of are has. own_each files [] (none_empty files) p q x.changes is_own is_of has;
        killed = λ is_own are has. report_each files [] (none_empty files) p is_own has q x.changes;
        cleared = tt;
        unstamped = λ is. cc;
        leaves = λ ok same are shows. absurd cc;
        unstored = λ not. absurd cc;
        changes = changes_more [] (day_paths files) p q (λ n none. tt) x.changes;
      }) goes

  pub then_cleared : (why : DayFault) (end : DayEnd) (result : Result Bool AllocError) (one mid two : List Step → Type 0) → Goes one mid (FindsNone paths result) → Goes mid two (GivesUp paths files why end) → Goes one two (GivesUp paths files why end)
  then_cleared why end result one mid two first second =
      then_gives [] (λ are. none_empty files) (λ n none. tt) why end one mid two (goes_as _ _ one mid (λ p q x. x.changes) first) second

  -- what has the names of the day went
  pub cleared_well : (why : DayFault) (rest : Left) (naming : Naming) (one two : List Step → Type 0) → (rest ≡ left.Stamp → ⊥) → told naming.answer ≡ Ok tt → Goes one two (ClearsDay files naming)
      → Goes one two (GivesUp paths files why (record { outcome = Ok (Refused why); left = rest; is_stored = naming.is_stored }))
  cleared_well why rest naming one two unstamped is goes = goes_as _ _ one two
      (λ p q x. record {
        safe = λ stored is_own is_of are has. x.safe stored is_own is_of are has;
        killed = λ is_own are has. x.killed is_own are has;
        cleared = (refl, λ are. inl (sees p q x are));
        unstamped = unstamped;
        leaves = λ ok same are shows. shows_free files q (gone p q x (is_so naming.is_stored (λ not. let more = x.unstored not in omega arith)) are);
        unstored = x.unstored;
        changes = x.changes;
      }) goes
    where
      sees : (p q : List Step) → ClearsDay files naming p q → AreDayNames files → IsUnseen paths q
      sees p q x = subst (λ (a : Result (Unit {0}) TreeFault). OnOk a (AreDayNames files → IsUnseen paths q)) is x.sees

      gone : (p q : List Step) → ClearsDay files naming p q → naming.is_stored ≡ true → AreDayNames files → IsFree files q
      gone p q x = subst (λ (a : Result (Unit {0}) TreeFault). OnOk a (naming.is_stored ≡ true → AreDayNames files → IsFree files q)) is x.gone

  pub cleared_in_part : (why : DayFault) (rest : Left) (naming : Naming) (one mid two : List Step → Type 0) → (rest ≡ left.Stamp → ⊥) → told naming.answer ≡ Err fault.Failed → Goes one mid (ClearsDay files naming)
      → Goes mid two (λ p q. ChangesFiles [] p q) → Goes one two (GivesUp paths files why (record { outcome = Ok (Refused why); left = rest; is_stored = naming.is_stored }))
  cleared_in_part why rest naming one mid two unstamped is first second = goes_both _ _ _ one mid two
      (λ p q r x y. record {
        safe = λ stored is_own is_of are has.
            let so = x.safe stored is_own is_of are has in
            joined (HasOwn is_own is_of files) p q r so (own_each files [] (none_empty files) q r y is_own is_of (at_end (HasOwn is_own is_of files) p q so));
        killed = λ is_own are has.
            let so = x.killed is_own are has in
            joined (HasReport is_own files) p q r so (report_each files [] (none_empty files) q is_own (at_end (HasReport is_own files) p q so) r y);
        cleared = (refl, λ are. let few = no_fewer [] q r y in let more = x.cause is in inr (omega arith));
        unstamped = unstamped;
        leaves = λ ok same are shows. let few = no_fewer [] q r y in let more = x.cause is in absurd (omega arith);
        unstored = λ not. let few = no_fewer [] q r y in let more = x.unstored not in omega arith;
        changes = changes_then (day_paths files) p q r x.changes (changes_more [] (day_paths files) q r (λ n none. tt) y);
      }) first second

  pub cleared_memory : (why : DayFault) (e : AllocError) (naming : Naming) (one two : List Step → Type 0) → Goes one two (ClearsDay files naming)
      → Goes one two (GivesUp paths files why (record { outcome = Err e; left = left.Parts; is_stored = naming.is_stored }))
  cleared_memory why e naming one two goes = goes_as _ _ one two
      (λ p q x. record {
        safe = λ stored is_own is_of are has. x.safe stored is_own is_of are has;
        killed = λ is_own are has. x.killed is_own are has;
        cleared = tt;
        unstamped = λ is. cc;
        leaves = λ ok same are shows. absurd cc;
        unstored = x.unstored;
        changes = x.changes;
      }) goes

  -- how a day ends that is refused
  abbrev EndsAs : DayOptions → DayFault → DayOutcome → (old new : List Step) → Type 0
  EndsAs asked why outcome old new = ((outcome ≡ Refused ClaimedByAnother) × (AreDayNames files → AreUntouched paths old new))
      ⊎ ((outcome ≡ Refused why) × (AreDayNames files → StaysOrGoes (stays_for asked why) why paths old new))

  -- what was made of the day goes, or that is to stay
  pub ends_cleared : (asked : DayOptions) (why : DayFault) (end : DayEnd) (one two : List Step → Type 0) → why ≢ ClaimedByAnother → stays_for asked why ≡ false → Goes one two (GivesUp paths files why end) → Goes one two (EndsRefused paths files asked why end)
  ends_cleared asked why end one two other goes_it goes = goes_as _ _ one two
      (λ p q x. record {
        safe = x.safe;
        killed = x.killed;
        stays = left end.outcome p q x.cleared;
        unstamped = x.unstamped;
        leaves = x.leaves;
        unstored = x.unstored;
        changes = x.changes;
      }) goes
    where
      left : (outcome : Result DayOutcome AllocError) (p q : List Step) → IfOk outcome (λ o. (o ≡ Refused why) × (AreDayNames files → IsClearedThere paths p q)) → IfOk outcome (λ o. EndsAs asked why o p q)
      left (Ok o) p q is = inr (is.0, λ are. subst (λ (stays : Bool). StaysOrGoes stays why paths p q) (sym goes_it) (goes_for paths p q why other (is.1 are)))
      left (Err e) p q is = tt

  ends_still : (asked : DayOptions) (why : DayFault) (outcome : DayOutcome) (rest : Left) (one two : List Step → Type 0) → (rest ≡ left.Stamp → ⊥)
      → ((p q : List Step) → ChangesFiles [] p q → EndsAs asked why outcome p q)
      → Goes one two (λ p q. ChangesFiles [] p q) → Goes one two (EndsRefused paths files asked why (record { outcome = Ok outcome; left = rest; is_stored = true }))
  ends_still asked why outcome rest one two unstamped stays goes = goes_as _ _ one two
      (λ p q x. record {
        safe = λ stored is_own is_of are has. own_each files [] (none_empty files) p q x is_own is_of has;
        killed = λ is_own are has. report_each files [] (none_empty files) p is_own has q x;
        stays = stays p q x;
        unstamped = unstamped;
        leaves = λ ok same are shows. shows_kept files [] (none_empty files) p q x shows;
        unstored = λ not. absurd cc;
        changes = changes_more [] (day_paths files) p q (λ n none. tt) x;
      }) goes

  pub ends_unheld : (asked : DayOptions) (why : DayFault) (one : List Step → Type 0)
      → Goes one one (EndsRefused paths files asked why (record { outcome = Ok (Refused ClaimedByAnother); left = left.Nothing; is_stored = true }))
  ends_unheld asked why one = ends_still asked why (Refused ClaimedByAnother) left.Nothing one one (λ is. cc)
      (λ p q x. inl (refl, λ are. still_there paths p q x)) (goes_nothing one)

  pub ends_kept : (asked : DayOptions) (why : DayFault) (rest : Left) (one two : List Step → Type 0) → stays_for asked why ≡ true → (rest ≡ left.Stamp → ⊥) → Goes one two (λ p q. ChangesFiles [] p q)
      → Goes one two (EndsRefused paths files asked why (record { outcome = Ok (Refused why); left = rest; is_stored = true }))
  ends_kept asked why rest one two stays unstamped goes = ends_still asked why (Refused why) rest one two unstamped
      (λ p q x. inr (refl, λ are. subst (λ (stay : Bool). StaysOrGoes stay why paths p q) (sym stays) (still_there paths p q x))) goes

  -- and then what stands beside its names is removed
  pub then_swept : (asked : DayOptions) (why : DayFault) (end : DayEnd) (is_swept : Bool) (rest : Left) (one mid two : List Step → Type 0) → (rest ≡ left.Stamp → end.left ≡ left.Stamp) → (rest ≡ left.Nothing → is_swept ≡ true)
      → Goes one mid (EndsRefused paths files asked why end) → Goes mid two (SweepsDay files is_swept)
      → Goes one two (EndsSwept paths files asked why (record { outcome = end.outcome; left = rest; is_stored = end.is_stored }))
  then_swept asked why end is_swept rest one mid two stamp nothing first second = goes_both _ _ _ one mid two
      (λ p q r x y. record {
        ends = record {
          safe = λ stored is_own is_of are has.
              let so = x.safe stored is_own is_of are has in
              joined (HasOwn is_own is_of files) p q r so (own_each files (beside_paths files) (none_beside files are) q r y.changes is_own is_of (at_end (HasOwn is_own is_of files) p q so));
          killed = λ is_own are has.
              let so = x.killed is_own are has in
              joined (HasReport is_own files) p q r so (report_each files (beside_paths files) (none_beside files are) q is_own (at_end (HasReport is_own files) p q so) r y.changes);
          stays = later end.outcome p q r y.changes x.stays;
          unstamped = λ is. x.unstamped (stamp is);
          leaves = λ ok same are shows.
              let few = no_fewer (day_paths files) p q x.changes in
              let more = no_fewer (beside_paths files) q r y.changes in
              shows_kept files (beside_paths files) (none_beside files are) q r y.changes (x.leaves ok (omega arith) are shows);
          unstored = λ not. let more = no_fewer (beside_paths files) q r y.changes in let fails = x.unstored not in omega arith;
          changes = changes_then (day_paths files) p q r x.changes (changes_more (beside_paths files) (day_paths files) q r (more_beside files) y.changes);
        };
        rest = λ is are. y.gone (nothing is) are;
      }) first second
    where
      later : (outcome : Result DayOutcome AllocError) (p q r : List Step) → ChangesFiles (beside_paths files) q r → IfOk outcome (λ o. EndsAs asked why o p q) → IfOk outcome (λ o. EndsAs asked why o p r)
      later (Ok o) p q r changes is = ⊎_elim
          (λ claimed. inl (claimed.0, λ are. untouched_then paths p q r (claimed.1 are) (untouched_by input files (beside_paths files) (none_beside files are) q r changes)))
          (λ so. inr (so.0, λ are. ends_then paths p q r (stays_for asked why) why (no_fewer (beside_paths files) q r changes) (untouched_by input files (beside_paths files) (none_beside files are) q r changes) (so.1 are)))
          is
      later (Err e) p q r changes is = tt
