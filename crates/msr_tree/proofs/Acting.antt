-- One call, and then another. Where `rest` stands, also over files alone.
use Rattle.std.proofs.Common.{◌≡◌, ◌<◌, ◌≤◌, inl, inr, ⊎_elim, Bool, true, false, IsSome, List, [], ◌∷◌, ◌++◌, refl, sym, ap, subst, Result, Ok, Err, IsErrOf, IfOk, arith}
use Rattle.msr_tree.specs.Acts.{Acts}
use Rattle.msr_tree.specs.Calls.{IsSameAs, Copied, Copies, DoesStep, Goes, PerhapsCopied, PerhapsDone, RenamesNew, Stops, Tells, MakesFolders, AreOfFolders}
use Rattle.msr_tree.specs.Folders.{ActsBut, Changes, Names, NamesAndFolders, Rest}
use Rattle.std.specs.Str.{bytes_eq}
use Rattle.msr_tree.specs.Steps.{ChangesOnly, Failed, FileStored, FolderMade, FolderStored, IsNoneOf, Linked, Made, Path, Removed, Renamed, Spares, Step, Unlisted, failures, now, touches}
use Rattle.msr_tree.specs.declared.tree.TreeFault.{TreeFault}
use Rattle.msr_tree.specs.declared.tree.TreeFault.TheVariants as fault
use Rattle.msr_tree.proofs.Changes.{changes_more, changes_none, changes_then}
use Rattle.msr_tree.proofs.Folders.{leaves_then}

-- a step that touches no other names
abbrev pub Within : List Path → Step → Type 0
Within names step = (name : Path) → IsNoneOf name names → touches step name ≡ false

pub changes_step : (names : List Path) (step : Step) (old : List Step) → Within names step → ChangesOnly names old (step ∷ old)
changes_step names step old within = record { made = step ∷ []; since = refl; spares = λ name none. (tt, within name none) }

pub more_fail : (old made : List Step) → failures old ≤ failures (made ++ old)
more_fail old [] = omega arith
more_fail old (Made at bytes ∷ made) = more_fail old made
more_fail old (Linked from to ∷ made) = more_fail old made
more_fail old (Renamed from to ∷ made) = more_fail old made
more_fail old (Removed at ∷ made) = more_fail old made
more_fail old (FileStored at ∷ made) = more_fail old made
more_fail old (FolderStored at ∷ made) = more_fail old made
more_fail old (FolderMade at ∷ made) = more_fail old made
more_fail old (Unlisted at ∷ made) = more_fail old made
more_fail old (Failed ∷ made) = let so = more_fail old made in omega arith

pub no_fewer : (names : List Path) (old new : List Step) → ChangesOnly names old new → failures old ≤ failures new
no_fewer names old new changes = subst (λ l. failures old ≤ failures l) (sym changes.since) (more_fail old changes.made)

-- a call that stopped
stops_changes : (names : List Path) (why : TreeFault) (Left : List Step → Type 0) (old new : List Step) → ((left : List Step) → Left left → ChangesOnly names old left) → Stops why Left old new → ChangesOnly names old new
stops_changes names fault.Memory Left old new so stops = subst (λ l. ChangesOnly names old l) (sym stops) (changes_none names old)
stops_changes names fault.Failed Left old new so stops =
    let left = so stops.0 stops.1 in
    subst (λ l. ChangesOnly names old l) (sym stops.2) (changes_then names old stops.0 (Failed ∷ stops.0) left (changes_step names Failed stops.0 (λ name none. refl)))

stops_cause : (names : List Path) (why : TreeFault) (Left : List Step → Type 0) (old new : List Step) → ((left : List Step) → Left left → ChangesOnly names old left) → Stops why Left old new → why ≡ fault.Failed → failures old < failures new
stops_cause names fault.Memory Left old new so stops is = cc
stops_cause names fault.Failed Left old new so stops is =
    let few = no_fewer names old stops.0 (so stops.0 stops.1) in
    subst (λ l. failures old < failures l) (sym stops.2) (omega arith)

err_of : {T : Type 0} (why : TreeFault) → IsErrOf {T = T} {E = TreeFault} (Err why) fault.Failed → why ≡ fault.Failed
err_of why is = cc

pub stopped : {T : Type 0} (names : List Path) (Done : (old new : List Step) → T → Type 0) (why : TreeFault) (Left : List Step → Type 0) (old new : List Step)
    → ((left : List Step) → Left left → ChangesOnly names old left) → Stops why Left old new → Acts names Done (Err why) old new
stopped names Done why Left old new so stops = record {
  changes = stops_changes names why Left old new so stops;
  cause = λ is. stops_cause names why Left old new so stops (err_of why is);
  does = tt;
}

perhaps_changes : (names : List Path) (step : Step) (old left : List Step) → Within names step → PerhapsDone step old left → ChangesOnly names old left
perhaps_changes names step old left within may = ⊎_elim
    (λ same. subst (λ l. ChangesOnly names old l) (sym same) (changes_none names old))
    (λ done. subst (λ l. ChangesOnly names old l) (sym done) (changes_step names step old within))
    may

-- a call of one step
pub acts_does : {T : Type 0} (names : List Path) (step : Step) (result : Result T TreeFault) (old new : List Step) → Within names step → DoesStep step result old new → Acts names (λ old new answer. new ≡ step ∷ old) result old new
acts_does names step (Ok x) old new within does = record {
  changes = subst (λ l. ChangesOnly names old l) (sym does) (changes_step names step old within);
  cause = λ is. cc;
  does = does;
}
acts_does names step (Err why) old new within does = stopped names _ why _ old new (λ left may. perhaps_changes names step old left within may) does

-- a call that changes nothing
pub acts_tells : {T : Type 0} (names : List Path) (Says : List Step → T → Type 0) (result : Result T TreeFault) (old new : List Step) → Tells Says result old new → Acts names (λ old new answer. (new ≡ old) × Says old answer) result old new
acts_tells names Says (Ok x) old new tells = record {
  changes = subst (λ l. ChangesOnly names old l) (sym tells.0) (changes_none names old);
  cause = λ is. cc;
  does = tells;
}
acts_tells names Says (Err why) old new tells = stopped names _ why _ old new (λ left same. subst (λ l. ChangesOnly names old l) (sym same) (changes_none names old)) tells

-- what was done changes these names only, whatever else it leaves
only : (rest : Rest) (names : List Path) (old new : List Step) → Changes rest names old new → ChangesOnly names old new
only Names names old new changes = changes
only NamesAndFolders names old new changes = changes.changes

pub rest_then : (rest : Rest) (names : List Path) (old mid new : List Step) → Changes rest names old mid → Changes rest names mid new → Changes rest names old new
rest_then Names names old mid new one two = changes_then names old mid new one two
rest_then NamesAndFolders names old mid new one two = record {
  changes = changes_then names old mid new one.changes two.changes;
  folders = leaves_then old mid new one.folders two.folders;
}

pub rest_more : (rest : Rest) (few more : List Path) (old new : List Step) → ((name : Path) → IsNoneOf name more → IsNoneOf name few) → Changes rest few old new → Changes rest more old new
rest_more Names few more old new so changes = changes_more few more old new so changes
rest_more NamesAndFolders few more old new so changes = record { changes = changes_more few more old new so changes.changes; folders = changes.folders }

-- one call that succeeds, and then another
module _ {A B C : Type 0} {rest : Rest} (names : List Path) (First : (old new : List Step) → A → Type 0) (Second : (old new : List Step) → B → Type 0) (Done : (old new : List Step) → C → Type 0) (a : A) (one mid two : List Step → Type 0) where
  pub and_then : (second : Result B TreeFault) (result : Result C TreeFault)
      → (IsErrOf result fault.Failed → IsErrOf second fault.Failed)
      → ((p q r : List Step) → First p q a → IfOk second (λ b. Second q r b) → ChangesOnly names p q → ChangesOnly names q r → IfOk result (λ c. Done p r c))
      → Goes one mid (ActsBut rest names First (Ok a)) → Goes mid two (ActsBut rest names Second second) → Goes one two (ActsBut rest names Done result)
  and_then second result fails so first goes = record {
    from = λ new went.
        let later = goes.from new went in
        let sooner = first.from later.0 later.1 in (
          sooner.0,
          sooner.1,
          record {
            changes = rest_then rest names sooner.0 later.0 new sooner.2.changes later.2.changes;
            cause = λ is.
                let few = no_fewer names sooner.0 later.0 (only rest names sooner.0 later.0 sooner.2.changes) in
                let more = later.2.cause (fails is) in
                omega arith;
            does = so sooner.0 later.0 new sooner.2.does later.2.does (only rest names sooner.0 later.0 sooner.2.changes) (only rest names later.0 new later.2.changes);
          },
        );
  }

-- what is done of a call that is answered in other words
pub told_as : {A B : Type 0} (few names : List Path) (First : (old new : List Step) → A → Type 0) (Done : (old new : List Step) → B → Type 0) (first : Result A TreeFault) (result : Result B TreeFault) (one two : List Step → Type 0)
    → (IsErrOf result fault.Failed → IsErrOf first fault.Failed)
    → ((name : Path) → IsNoneOf name names → IsNoneOf name few)
    → ((p q : List Step) → IfOk first (λ a. First p q a) → ChangesOnly few p q → IfOk result (λ b. Done p q b))
    → Goes one two (Acts few First first) → Goes one two (Acts names Done result)
told_as few names First Done first result one two fails more so goes = record {
  from = λ new went.
      let before = goes.from new went in (
        before.0,
        before.1,
        record {
          changes = record { made = before.2.changes.made; since = before.2.changes.since; spares = λ name none. before.2.changes.spares name (more name none) };
          cause = λ is. before.2.cause (fails is);
          does = so before.0 new before.2.does before.2.changes;
        },
      );
}

-- the same in other words
pub goes_as : (R S : (old new : List Step) → Type 0) (one two : List Step → Type 0) → ((p q : List Step) → R p q → S p q) → Goes one two R → Goes one two S
goes_as R S one two so goes = record { from = λ new went. let before = goes.from new went in (before.0, before.1, so before.0 new before.2) }

pub goes_does : {T : Type 0} (names : List Path) (step : Step) (result : Result T TreeFault) (one two : List Step → Type 0) → Within names step → Goes one two (DoesStep step result) → Goes one two (Acts names (λ old new answer. new ≡ step ∷ old) result)
goes_does names step result one two within goes = goes_as _ _ one two (λ p q does. acts_does names step result p q within does) goes

pub goes_tells : {T : Type 0} (names : List Path) (Says : List Step → T → Type 0) (result : Result T TreeFault) (one two : List Step → Type 0) → Goes one two (Tells Says result) → Goes one two (Acts names (λ old new answer. (new ≡ old) × Says old answer) result)
goes_tells names Says result one two goes = goes_as _ _ one two (λ p q tells. acts_tells names Says result p q tells) goes

abbrev pub stopping : (A : Type 0) → TreeFault → Result A TreeFault
stopping A why = Err why

abbrev pub giving : {A : Type 0} → A → Result A TreeFault
giving a = Ok a

-- what stops is told
pub stopped_as : {A B : Type 0} {rest : Rest} (names : List Path) (First : (old new : List Step) → A → Type 0) (Done : (old new : List Step) → B → Type 0) (why : TreeFault) (one two : List Step → Type 0)
    → Goes one two (ActsBut rest names First (stopping A why)) → Goes one two (ActsBut rest names Done (stopping B why))
stopped_as names First Done why one two goes = goes_as _ _ one two (λ p q acts. record { changes = acts.changes; cause = λ is. acts.cause (same why is); does = tt }) goes
  where
    same : {A B : Type 0} (why : TreeFault) → IsErrOf (stopping B why) fault.Failed → IsErrOf (stopping A why) fault.Failed
    same why is = let so : why ≡ fault.Failed = cc in ap (λ w. Err w) so

-- one call that succeeds, and then another that stops
pub then_stopped : {A B C : Type 0} {rest : Rest} (names : List Path) (First : (old new : List Step) → A → Type 0) (Second : (old new : List Step) → B → Type 0) (Done : (old new : List Step) → C → Type 0) (a : A) (why : TreeFault) (one mid two : List Step → Type 0)
    → Goes one mid (ActsBut rest names First (giving a)) → Goes mid two (ActsBut rest names Second (stopping B why)) → Goes one two (ActsBut rest names Done (stopping C why))
then_stopped names First Second Done a why one mid two first goes =
    and_then names First Second Done a one mid two (Err why) (Err why) (λ is. let so : why ≡ fault.Failed = cc in ap (λ w. Err w) so) (λ p q r did none c d. tt) first goes

-- one call that succeeds, and then another that does
pub then_ok : {A B C : Type 0} {rest : Rest} (names : List Path) (First : (old new : List Step) → A → Type 0) (Second : (old new : List Step) → B → Type 0) (Done : (old new : List Step) → C → Type 0) (a : A) (b : B) (x : C) (one mid two : List Step → Type 0)
    → ((p q r : List Step) → First p q a → Second q r b → ChangesOnly names p q → ChangesOnly names q r → Done p r x)
    → Goes one mid (ActsBut rest names First (giving a)) → Goes mid two (ActsBut rest names Second (giving b)) → Goes one two (ActsBut rest names Done (giving x))
then_ok names First Second Done a b x one mid two so first goes =
    and_then names First Second Done a one mid two (Ok b) (Ok x) (λ is. cc) so first goes

-- one call that succeeds, and then one whose answer is handed on
pub then_given : {A B : Type 0} {rest : Rest} (names : List Path) (First : (old new : List Step) → A → Type 0) (Second Done : (old new : List Step) → B → Type 0) (a : A) (result : Result B TreeFault) (one mid two : List Step → Type 0)
    → ((p q r : List Step) (b : B) → First p q a → Second q r b → ChangesOnly names p q → ChangesOnly names q r → Done p r b)
    → Goes one mid (ActsBut rest names First (giving a)) → Goes mid two (ActsBut rest names Second result) → Goes one two (ActsBut rest names Done result)
then_given names First Second Done a result one mid two so first goes =
    and_then names First Second Done a one mid two result result (λ is. is) (λ p q r did next c d. when_ok result (λ b second. so p q r b did second c d) next) first goes
  where
    when_ok : {B : Type 0} {P Q : B → Type 0} (r : Result B TreeFault) → ((b : B) → P b → Q b) → IfOk r P → IfOk r Q
    when_ok (Ok b) f p = f b p
    when_ok (Err why) f p = tt

copied_changes : (names : List Path) (from to : Path) (old left : List Step) → ((name : Path) → IsNoneOf name names → bytes_eq name to ≡ false) → PerhapsCopied from to old left → ChangesOnly names old left
copied_changes names from to old left apart may = ⊎_elim
    (λ same. subst (λ l. ChangesOnly names old l) (sym same) (changes_none names old))
    (λ done. ⊎_elim
    (λ linked. subst (λ l. ChangesOnly names old l) (sym linked) (changes_step names (Linked from to) old apart))
    (λ made. subst (λ l. ChangesOnly names old l) (sym made.1) (changes_step names (Made to made.0) old apart))
    done.1)
    may

-- a link or a copy
acts_copies : {T : Type 0} (names : List Path) (from to : Path) (result : Result T TreeFault) (old new : List Step) → ((name : Path) → IsNoneOf name names → bytes_eq name to ≡ false) → Copies from to result old new → Acts names (λ sooner later answer. IsSome (now sooner from) × Copied from to sooner later) result old new
acts_copies names from to (Ok x) old new apart copies = record {
  changes = copied_changes names from to old new apart (inr (copies.0, ⊎_elim (λ linked. inl linked) (λ made. inr (made.0, made.2)) copies.2));
  cause = λ is. cc;
  does = (copies.1, copies.2);
}
acts_copies names from to (Err why) old new apart copies = stopped names _ why _ old new (λ left may. copied_changes names from to old left apart may) copies

pub goes_copies : {T : Type 0} (names : List Path) (from to : Path) (result : Result T TreeFault) (one two : List Step → Type 0) → ((name : Path) → IsNoneOf name names → bytes_eq name to ≡ false) → Goes one two (Copies from to result)
    → Goes one two (Acts names (λ old new answer. IsSome (now old from) × Copied from to old new) result)
goes_copies names from to result one two apart goes = goes_as _ _ one two (λ p q copies. acts_copies names from to result p q apart copies) goes

-- a rename to a name that none has
abbrev pub IfRenamed : (from to : Path) → (old new : List Step) → Bool → Type 0
IfRenamed from to old new true = new ≡ Renamed from to ∷ old
IfRenamed from to old new false = new ≡ old

acts_renames : (names : List Path) (from to : Path) (result : Result Bool TreeFault) (old new : List Step) → Within names (Renamed from to) → Within names (Linked from to) → RenamesNew from to result old new → Acts names (IfRenamed from to) result old new
acts_renames names from to (Ok true) old new within linked renames = record {
  changes = subst (λ l. ChangesOnly names old l) (sym renames.1) (changes_step names (Renamed from to) old within);
  cause = λ is. cc;
  does = renames.1;
}
acts_renames names from to (Ok false) old new within linked renames = record {
  changes = subst (λ l. ChangesOnly names old l) (sym renames) (changes_none names old);
  cause = λ is. cc;
  does = renames;
}
acts_renames names from to (Err why) old new within linked renames = stopped names _ why _ old new
    (λ left may. ⊎_elim
    (λ same. subst (λ l. ChangesOnly names old l) (sym same) (changes_none names old))
    (λ done. ⊎_elim
    (λ is. subst (λ l. ChangesOnly names old l) (sym is) (changes_step names (Renamed from to) old within))
    (λ is. subst (λ l. ChangesOnly names old l) (sym is) (changes_step names (Linked from to) old linked))
    done.1)
    may) renames

pub goes_renames : (names : List Path) (from to : Path) (result : Result Bool TreeFault) (one two : List Step → Type 0) → Within names (Renamed from to) → Within names (Linked from to) → Goes one two (RenamesNew from to result) → Goes one two (Acts names (IfRenamed from to) result)
goes_renames names from to result one two within linked goes = goes_as _ _ one two (λ p q renames. acts_renames names from to result p q within linked renames) goes

-- the same calls, by other names of the same paths
pub goes_step : {T : Type 0} (names : List Path) (given step : Step) (result : Result T TreeFault) (one two : List Step → Type 0) → given ≡ step → Within names step → Goes one two (DoesStep given result) → Goes one two (Acts names (λ old new answer. new ≡ step ∷ old) result)
goes_step names given step result one two same within goes = goes_does names step result one two within (subst (λ s. Goes one two (DoesStep s result)) same goes)

pub goes_copied : {T : Type 0} (names : List Path) (given_from given_to from to : Path) (result : Result T TreeFault) (one two : List Step → Type 0) → given_from ≡ from → given_to ≡ to → ((name : Path) → IsNoneOf name names → bytes_eq name to ≡ false) → Goes one two (Copies given_from given_to result)
    → Goes one two (Acts names (λ old new answer. IsSome (now old from) × Copied from to old new) result)
goes_copied names given_from given_to from to result one two same_from same_to apart goes =
    goes_copies names from to result one two apart (subst (λ n. Goes one two (Copies n to result)) same_from (subst (λ n. Goes one two (Copies given_from n result)) same_to goes))

pub goes_renamed : (names : List Path) (given_from given_to from to : Path) (result : Result Bool TreeFault) (one two : List Step → Type 0) → given_from ≡ from → given_to ≡ to → Within names (Renamed from to) → Within names (Linked from to) → Goes one two (RenamesNew given_from given_to result)
    → Goes one two (Acts names (IfRenamed from to) result)
goes_renamed names given_from given_to from to result one two same_from same_to within linked goes =
    goes_renames names from to result one two within linked (subst (λ n. Goes one two (RenamesNew n to result)) same_from (subst (λ n. Goes one two (RenamesNew given_from n result)) same_to goes))

-- a rename touches the two names
pub within_renamed : (from to : Path) → Within (to ∷ from ∷ []) (Renamed from to)
within_renamed from to name none = rw (none.0, none.1.0) refl

-- of more names
pub goes_more : {T : Type 0} {rest : Rest} (few names : List Path) (Done : (old new : List Step) → T → Type 0) (result : Result T TreeFault) (one two : List Step → Type 0) → ((name : Path) → IsNoneOf name names → IsNoneOf name few) → Goes one two (ActsBut rest few Done result) → Goes one two (ActsBut rest names Done result)
goes_more {rest = rest} few names Done result one two more goes = goes_as _ _ one two (λ p q acts. record { changes = rest_more rest few names p q more acts.changes; cause = acts.cause; does = acts.does }) goes

-- folders are made
folders_spare : (name : Path) (made : List Step) → AreOfFolders made → Spares name made
folders_spare name [] are = tt
folders_spare name (FolderMade folder ∷ made) are = (folders_spare name made are, refl)
folders_spare name (FolderStored folder ∷ made) are = (folders_spare name made are, refl)
folders_spare name (Failed ∷ made) are = (folders_spare name made are, refl)
folders_spare name (Made at bytes ∷ made) are = absurd are
folders_spare name (Linked from to ∷ made) are = absurd are
folders_spare name (Renamed from to ∷ made) are = absurd are
folders_spare name (Removed at ∷ made) are = absurd are
folders_spare name (FileStored at ∷ made) are = absurd are
folders_spare name (Unlisted at ∷ made) are = absurd are

pub goes_folders : {T : Type 0} (names : List Path) (result : Result T TreeFault) (one two : List Step → Type 0) → Goes one two (MakesFolders result) → Goes one two (Acts names (λ old new answer. Unit {0}) result)
goes_folders names result one two goes = goes_as _ _ one two (λ p q makes. record {
  changes = record { made = makes.made; since = makes.since; spares = λ name none. folders_spare name makes.made makes.are };
  cause = makes.cause;
  does = any result;
}) goes
  where
    any : {T : Type 0} (r : Result T TreeFault) → IfOk r (λ answer. Unit {0})
    any (Ok x) = tt
    any (Err why) = tt

-- of more names, and what was done of few
pub goes_within : {T : Type 0} {rest : Rest} (few names : List Path) (Done : (old new : List Step) → T → Type 0) (result : Result T TreeFault) (one two : List Step → Type 0) → ((name : Path) → IsNoneOf name names → IsNoneOf name few) → Goes one two (ActsBut rest few Done result)
    → Goes one two (ActsBut rest names (λ old new answer. Done old new answer × ChangesOnly few old new) result)
goes_within {rest = rest} few names Done result one two more goes = goes_as _ _ one two (λ p q acts. record {
  changes = rest_more rest few names p q more acts.changes;
  cause = acts.cause;
  does = beside (λ x. Done p q x) result (only rest few p q acts.changes) acts.does;
}) goes
  where
    beside : {T C : Type 0} (P : T → Type 0) (r : Result T TreeFault) → C → IfOk r P → IfOk r (λ x. P x × C)
    beside P (Ok x) c p = (p, c)
    beside P (Err why) c p = tt

pub goes_same : (names : List Path) (given_one given_other one other : Path) (result : Result Bool TreeFault) (before after : List Step → Type 0) → given_one ≡ one → given_other ≡ other → Goes before after (Tells (IsSameAs given_one given_other) result)
    → Goes before after (Acts names (λ old new answer. (new ≡ old) × IsSameAs one other old answer) result)
goes_same names given_one given_other one other result before after same_one same_other goes =
    goes_tells names (IsSameAs one other) result before after (subst (λ n. Goes before after (Tells (IsSameAs n other) result)) same_one (subst (λ n. Goes before after (Tells (IsSameAs given_one n) result)) same_other goes))
