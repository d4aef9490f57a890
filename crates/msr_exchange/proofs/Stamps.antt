-- How the stamp of a day is given, and what a crash leaves of it meanwhile.
use Rattle.std.proofs.Common.{◌≡◌, ◌&&◌, inl, inr, ⊎_elim, ℕ, Bool, true, false, List, [], ◌∷◌, ◌++◌, length, Option, None, Some, IfSome, IsSomeAnd, Result, Ok, Err, option_map, refl, sym, ◌∙◌, ap, subst}
use Rattle.std.specs.Str.{bytes_eq}
use Rattle.std.proofs.lemmas.Bool.{cases_Bool}
use Rattle.std.proofs.lemmas.Slice.Eq.{bytes_eq-Decides}
use Rattle.msr_devices.specs.Device.{Device}
use Rattle.msr_tree.specs.Calls.{DoesStep, Goes, Looks, Opens, Tells}
use Rattle.msr_tree.specs.Steps.{AtEachMoment, ChangesOnly, Failed, File, FolderStored, IsNoneOf, IsReady, Leaves, MayLeave, Path, Removed, Renamed, ShowsAfter, Step, Throughout, now, seen}
use Rattle.msr_tree.specs.declared.facts.Facts.{Facts}
use Rattle.msr_tree.specs.declared.tree.TreeFault.{TreeFault}
use Rattle.msr_tree.specs.declared.tree.TreeFault.TheVariants as fault
use Rattle.msr_tree.proofs.Acting.{acts_does, acts_tells, goes_as, within_renamed}
use Rattle.msr_tree.proofs.Changes.{changes_more, changes_none, changes_then, each_by_changes, leaves_kept, may_kept, now_kept, ready_renamed, with_changes}
use Rattle.msr_tree.proofs.Crash.{is_of, is_self, leaves, leaves_seen}
use Rattle.msr_tree.proofs.Moments.{at_end, joined}
use Rattle.msr_naming.specs.Making.{WritesText}
use Rattle.msr_naming.specs.Stamp.{stamp_of, stamp_text}
use Rattle.msr_naming.specs.declared.stamp.Stamp.{Stamp}
use Rattle.msr_naming.specs.declared.stamp.StampOf.{StampOf}
use Rattle.msr_naming.specs.declared.stamp.StampOf.TheVariants as stamped
use Rattle.msr_naming.proofs.Begun.{goes_both}
use Rattle.msr_exchange.specs.Names.{AreStampNames, Names, StampPlaces}
use Rattle.msr_exchange.specs.Promise.{KeepsBoth}
use Rattle.msr_exchange.specs.declared.names.Place.TheVariants.{Day, Original, Records}
use Rattle.msr_exchange.specs.Stamped.{AddsTexts, DropsStamp, FindsStamp, GivesStamp, IsStampOfFound, LeavesStamp, LeavesTexts, NamesStamp, StampsDay, StampsRecords, TellsGone, stamp_names}

-- what holds at each moment, in other words
module _ (P Q : List Step → Type 0) (so : (past : List Step) → P past → Q past) where
  through_as : (old made : List Step) → Throughout P old made → Throughout Q old made
  through_as old [] holds = so old holds
  through_as old (step ∷ made) holds = (through_as old made holds.0, so (step ∷ made ++ old) holds.1)

  pub each_as : (old new : List Step) → AtEachMoment P old new → AtEachMoment Q old new
  each_as old new each = record { made = each.made; since = each.since; holds = through_as old each.made each.holds }

-- what a crash leaves under a name, in texts
module _ (name : Path) (Is : (text : List ℕ) → Type 0) where
  same_texts : (p : List Step) → LeavesTexts name Is p p
  same_texts p = record { may = λ text m. inl m }

  nothing_texts : (p : List Step) → AddsTexts name Is p p
  nothing_texts p = record { made = []; since = refl; holds = same_texts p }

  step_texts : (step : Step) (p : List Step) → LeavesTexts name Is p (step ∷ p) → AddsTexts name Is p (step ∷ p)
  step_texts step p leaves_it = record { made = step ∷ []; since = refl; holds = (same_texts p, leaves_it) }

  -- while other names change
  pub quiet_texts : (l : List Path) (p q : List Step) → IsNoneOf name l → ChangesOnly l p q → AddsTexts name Is p q
  quiet_texts l p q none changes = each_by_changes (LeavesTexts name Is p) l p (λ past ch. record { may = λ text m. inl (may_kept l name p past (Some text) none ch m) }) q changes

  texts_later : (p q past : List Step) → LeavesTexts name Is p q → LeavesTexts name Is q past → LeavesTexts name Is p past
  texts_later p q past one two = record { may = λ text m. ⊎_elim (λ before. one.may text before) (λ is. inr is) (two.may text m) }

  pub texts_then : (p q r : List Step) → AddsTexts name Is p q → AddsTexts name Is q r → AddsTexts name Is p r
  texts_then p q r one two = joined (LeavesTexts name Is p) p q r one
      (each_as (LeavesTexts name Is q) (LeavesTexts name Is p) (λ past holds. texts_later p q past (at_end (LeavesTexts name Is p) p q one) holds) q r two)

  failed_texts : (p : List Step) → AddsTexts name Is p (Failed ∷ p)
  failed_texts p = quiet_texts [] p (Failed ∷ p) tt (record { made = Failed ∷ []; since = refl; spares = λ n none. (tt, refl) })

  -- a call of one step
  pub does_texts : {T : Type 0} (step : Step) (result : Result T TreeFault) (p q : List Step) → LeavesTexts name Is p (step ∷ p) → DoesStep step result p q → AddsTexts name Is p q
  does_texts step (Ok x) p q leaves_it does = subst (λ (l : List Step). AddsTexts name Is p l) (sym does) (step_texts step p leaves_it)
  does_texts step (Err fault.Memory) p q leaves_it does = subst (λ (l : List Step). AddsTexts name Is p l) (sym does) (nothing_texts p)
  does_texts step (Err fault.Failed) p q leaves_it does =
      let left : AddsTexts name Is p does.0 = ⊎_elim
      (λ same. subst (λ (l : List Step). AddsTexts name Is p l) (sym same) (nothing_texts p))
      (λ done. subst (λ (l : List Step). AddsTexts name Is p l) (sym done) (step_texts step p leaves_it))
      does.1 in
      subst (λ (l : List Step). AddsTexts name Is p l) (sym does.2) (texts_then p does.0 (Failed ∷ does.0) left (failed_texts does.0))

-- the name of what is ready
renamed_texts : (part name : Path) (text : List ℕ) (p : List Step) → IsReady part text p → LeavesTexts name (λ other. other ≡ text) p (Renamed part name ∷ p)
renamed_texts part name text p ready =
    let there = ready_renamed part name text p ready in
    record {
      may = λ other m. ⊎_elim
          (λ before. inl before)
          (λ shows.
          let is : Some other ≡ Some there.file.bytes = is_of (Renamed part name ∷ p) (now (Renamed part name ∷ p) name) there.file (Some other) there.leads there.stored shows in
          let same : other ≡ there.file.bytes = cc in
          inr (same ∙ there.has))
          (leaves (Renamed part name) p name (Some other) m);
    }

-- a name that is gone
removed_texts : (name : Path) (Is : (text : List ℕ) → Type 0) (p : List Step) → LeavesTexts name Is p (Removed name ∷ p)
removed_texts name Is p = record {
  may = λ other m. ⊎_elim
      (λ before. inl before)
      (λ shows.
      let gone : now (Removed name ∷ p) name ≡ None = rw (is_self name) refl in
      let none : Some other ≡ None = subst (λ (f : Option File). ShowsAfter (Removed name ∷ p) f (Some other)) gone shows in
      absurd cc)
      (leaves (Removed name) p name (Some other) m);
}

module _ (stamp : StampPlaces) where
  pub named_stamp : {A B : Type 0} (renamed : Result A TreeFault) (stored : Result B TreeFault) (folder : Path) (one mid two : List Step → Type 0)
      → Goes one mid (DoesStep (Renamed stamp.part stamp.path) renamed) → Goes mid two (DoesStep (FolderStored folder) stored) → Goes one two (NamesStamp stamp)
  named_stamp renamed stored folder one mid two first second = goes_both _ _ _ one mid two
      (λ p q r x y. record {
        changes = changes_then (stamp_names stamp) p q r (acts_does (stamp_names stamp) (Renamed stamp.part stamp.path) renamed p q (within_renamed stamp.part stamp.path) x).changes
            (acts_does (stamp_names stamp) (FolderStored folder) stored q r (λ n none. refl) y).changes;
        adds = λ text apart ready. texts_then stamp.path (λ other. other ≡ text) p q r
            (does_texts stamp.path (λ other. other ≡ text) (Renamed stamp.part stamp.path) renamed p q (renamed_texts stamp.part stamp.path text p ready) x)
            (quiet_texts stamp.path (λ other. other ≡ text) [] q r tt (acts_does [] (FolderStored folder) stored q r (λ n none. refl) y).changes);
      }) first second

  -- or goes
  pub unnamed_stamp : {A B C : Type 0} (renamed : Result A TreeFault) (stored : Result B TreeFault) (removed : Result C TreeFault) (folder : Path) (one mid three two : List Step → Type 0)
      → Goes one mid (DoesStep (Renamed stamp.part stamp.path) renamed) → Goes mid three (DoesStep (FolderStored folder) stored) → Goes three two (DoesStep (Removed stamp.part) removed) → Goes one two (NamesStamp stamp)
  unnamed_stamp renamed stored removed folder one mid three two first second third = goes_both _ _ _ one three two
      (λ p q r named x. record {
        changes = changes_then (stamp_names stamp) p q r named.changes (acts_does (stamp_names stamp) (Removed stamp.part) removed q r (λ n none. none.1.0) x).changes;
        adds = λ text apart ready. texts_then stamp.path (λ other. other ≡ text) p q r (named.adds text apart ready)
            (quiet_texts stamp.path (λ other. other ≡ text) (stamp.part ∷ []) q r (apart, tt) (acts_does (stamp.part ∷ []) (Removed stamp.part) removed q r (λ n none. none.0) x).changes);
      }) (named_stamp renamed stored folder one mid three first second) third

  module _ (names : Names) where
    pub dropped_stamp : {A B : Type 0} (part : Result A TreeFault) (path : Result B TreeFault) (one mid two : List Step → Type 0)
        → Goes one mid (DoesStep (Removed stamp.part) part) → Goes mid two (DoesStep (Removed stamp.path) path) → Goes one two (DropsStamp names stamp)
    dropped_stamp part path one mid two first second = goes_both _ _ _ one mid two
        (λ p q r x y. record {
          changes = changes_then (stamp_names stamp) p q r (acts_does (stamp_names stamp) (Removed stamp.part) part p q (λ n none. none.1.0) x).changes
              (acts_does (stamp_names stamp) (Removed stamp.path) path q r (λ n none. none.0) y).changes;
          adds = λ are. texts_then stamp.path (λ text. ⊥) p q r
              (quiet_texts stamp.path (λ text. ⊥) (stamp.part ∷ []) p q (are.parts, tt) (acts_does (stamp.part ∷ []) (Removed stamp.part) part p q (λ n none. none.0) x).changes)
              (does_texts stamp.path (λ text. ⊥) (Removed stamp.path) path q r (removed_texts stamp.path (λ text. ⊥) q) y);
        }) first second

    abbrev Any : (text : List ℕ) → Type 0
    Any text = ⊥

    -- none is any
    no_texts : (Is : (text : List ℕ) → Type 0) (p q : List Step) → AddsTexts stamp.path Any p q → AddsTexts stamp.path Is p q
    no_texts Is p q each = each_as (LeavesTexts stamp.path Any p) (LeavesTexts stamp.path Is p) (λ past holds. record { may = λ text m. ⊎_elim (λ before. inl before) (λ never. absurd never) (holds.may text m) }) p q each

    module _ (of : StampOf) (value : Stamp) where
      abbrev Is : (text : List ℕ) → Type 0
      Is text = text ≡ stamp_text of value

      pub given_already : (one two : List Step → Type 0) → Goes one two (ChangesOnly []) → Goes one two (GivesStamp names stamp of value)
      given_already one two goes = goes_as _ _ one two
          (λ p q ch. record { changes = changes_more [] (stamp_names stamp) p q (λ n none. tt) ch; adds = λ are. quiet_texts stamp.path Is [] p q tt ch }) goes

      pub given_named : (written : Bool) (one two three four : List Step → Type 0) → written ≡ true → Goes one two (ChangesOnly []) → Goes two three (WritesText stamp.part (stamp_text of value) written)
          → Goes three four (NamesStamp stamp) → Goes one four (GivesStamp names stamp of value)
      given_named written one two three four so a b c =
          goes_both _ _ _ one two four
          (λ p q r ch rest. record {
            changes = changes_then (stamp_names stamp) p q r (changes_more [] (stamp_names stamp) p q (λ n none. tt) ch) rest.changes;
            adds = λ are. texts_then stamp.path Is p q r (quiet_texts stamp.path Is [] p q tt ch) (rest.adds are);
          }) a
          (goes_both _ _ (GivesStamp names stamp of value) two three four
          (λ q m r w named. record {
            changes = changes_then (stamp_names stamp) q m r (changes_more (stamp.part ∷ []) (stamp_names stamp) q m (λ n none. (none.1.0, tt)) w.changes.changes) named.changes;
            adds = λ are. texts_then stamp.path Is q m r (quiet_texts stamp.path Is (stamp.part ∷ []) q m (are.parts, tt) w.changes.changes) (named.adds (stamp_text of value) are.parts (w.ready so));
          }) b c)

      pub given_none : (written : Bool) (one two three four : List Step → Type 0) → Goes one two (ChangesOnly []) → Goes two three (WritesText stamp.part (stamp_text of value) written)
          → Goes three four (DropsStamp names stamp) → Goes one four (GivesStamp names stamp of value)
      given_none written one two three four a b c =
          goes_both _ _ _ one two four
          (λ p q r ch rest. record {
            changes = changes_then (stamp_names stamp) p q r (changes_more [] (stamp_names stamp) p q (λ n none. tt) ch) rest.changes;
            adds = λ are. texts_then stamp.path Is p q r (quiet_texts stamp.path Is [] p q tt ch) (rest.adds are);
          }) a
          (goes_both _ _ (GivesStamp names stamp of value) two three four
          (λ q m r w drops. record {
            changes = changes_then (stamp_names stamp) q m r (changes_more (stamp.part ∷ []) (stamp_names stamp) q m (λ n none. (none.1.0, tt)) w.changes.changes) drops.changes;
            adds = λ are. texts_then stamp.path Is q m r (quiet_texts stamp.path Is (stamp.part ∷ []) q m (are.parts, tt) w.changes.changes) (no_texts Is m r (drops.adds are));
          }) b c)

      -- it is that of the file in ROOT
      long_as : (found : Option File) (bytes : List ℕ) → option_map (λ file. file.bytes) found ≡ Some bytes → IsSomeAnd found (λ file. value.bytes ≡ length file.bytes) → value.bytes ≡ length bytes
      long_as None bytes is has = absurd has
      long_as (Some file) bytes is has = let same : file.bytes ≡ bytes = cc in has ∙ ap length same

      of_file : (bytes : List ℕ) (p r : List Step) → AreStampNames names stamp → value.bytes ≡ length bytes → Leaves p names.day (Some bytes) → ChangesOnly (stamp_names stamp) p r → AddsTexts stamp.path Is p r
          → AtEachMoment (LeavesStamp names stamp of bytes p) p r
      of_file bytes p r are as_long leaves_it changes each =
          with_changes (LeavesTexts stamp.path Is p) (LeavesStamp names stamp of bytes p) (stamp_names stamp) p
          (λ past holds ch. record {
            may = λ text m. ⊎_elim
                (λ before. inl before)
                (λ is. inr (record { stamp = value; as_long = as_long; is = is }, leaves_kept (stamp_names stamp) names.day (Some bytes) p past (are.apart Day) ch leaves_it))
                (holds.may text m);
          }) r changes each

      pub day_stamped : (found : Option Stamp) (one mid two : List Step → Type 0) → found ≡ Some value → Goes one mid (FindsStamp names.day found) → Goes mid two (GivesStamp names stamp of value) → Goes one two (StampsDay names stamp of)
      day_stamped found one mid two is first second = goes_both _ _ _ one mid two
          (λ p q r finds gives.
          let all = changes_then (stamp_names stamp) p q r (changes_more [] (stamp_names stamp) p q (λ n none. tt) finds.changes) gives.changes in
          record {
            changes = all;
            adds = λ are bytes leaves_it.
                let has = subst (λ (f : Option Stamp). IfSome f (λ s. IsSomeAnd (now p names.day) (λ file. s.bytes ≡ length file.bytes))) is finds.is in
                of_file bytes p r are (long_as (now p names.day) bytes (leaves_it (seen p names.day) (leaves_seen p names.day)) has) leaves_it all
                (texts_then stamp.path Is p q r (quiet_texts stamp.path Is [] p q tt finds.changes) (gives.adds are));
          }) first second

    module _ (of : StampOf) where
      pub day_unstamped : (found : Option Stamp) (one mid two : List Step → Type 0) → Goes one mid (FindsStamp names.day found) → Goes mid two (DropsStamp names stamp) → Goes one two (StampsDay names stamp of)
      day_unstamped found one mid two first second = goes_both _ _ _ one mid two
          (λ p q r finds drops. record {
            changes = changes_then (stamp_names stamp) p q r (changes_more [] (stamp_names stamp) p q (λ n none. tt) finds.changes) drops.changes;
            adds = λ are bytes leaves_it. each_as (LeavesTexts stamp.path Any p) (LeavesStamp names stamp of bytes p)
                (λ past holds. record { may = λ text m. ⊎_elim (λ before. inl before) (λ never. absurd never) (holds.may text m) }) p r
                (texts_then stamp.path Any p q r (quiet_texts stamp.path Any [] p q tt finds.changes) (drops.adds are));
          }) first second

      -- while other names change
      pub quiet_stamp : (bytes : List ℕ) (names_changed : List Path) (p q : List Step) → IsNoneOf stamp.path names_changed → ChangesOnly names_changed p q → AtEachMoment (LeavesStamp names stamp of bytes p) p q
      quiet_stamp bytes names_changed p q none changes = each_by_changes (LeavesStamp names stamp of bytes p) names_changed p
          (λ past ch. record { may = λ text m. inl (may_kept names_changed stamp.path p past (Some text) none ch m) }) q changes

      stamp_later : (bytes : List ℕ) (p q past : List Step) → ((text : List ℕ) → MayLeave q stamp.path (Some text) → MayLeave p stamp.path (Some text)) → LeavesStamp names stamp of bytes q past → LeavesStamp names stamp of bytes p past
      stamp_later bytes p q past before holds = record { may = λ text m. ⊎_elim (λ is. inl (before text is)) (λ is. inr is) (holds.may text m) }

      pub stamp_then : (bytes : List ℕ) (names_changed : List Path) (p q r : List Step) → IsNoneOf stamp.path names_changed → ChangesOnly names_changed p q → AtEachMoment (LeavesStamp names stamp of bytes q) q r
          → AtEachMoment (LeavesStamp names stamp of bytes p) p r
      stamp_then bytes names_changed p q r none changes each = joined (LeavesStamp names stamp of bytes p) p q r (quiet_stamp bytes names_changed p q none changes)
          (each_as (LeavesStamp names stamp of bytes q) (LeavesStamp names stamp of bytes p)
          (λ past holds. stamp_later bytes p q past (λ text m. may_kept names_changed stamp.path p q (Some text) none changes m) holds) q r each)

    -- the records are in ROOT, if both are kept and they are not in OUT
    placed_leaves : (a b : List ℕ) (p : List Step) → KeepsBoth names Original a Records b p → now p names.records ≡ None → Leaves p names.day (Some b)
    placed_leaves a b p keeps none after may = ⊎_elim
        (λ is. is)
        (λ is.
        let gone : seen p names.records ≡ None = ap (λ (f : Option File). option_map (λ file. file.bytes) f) none in
        let never : None ≡ Some b = sym gone ∙ is in
        absurd cc)
        (keeps.second after (seen p names.records) may (leaves_seen p names.records))

    pub records_not : (one : List Step → Type 0) → Goes one one (StampsRecords names stamp)
    records_not one = record {
      from = λ new went. (
        new,
        went,
        record {
          changes = changes_none (stamp_names stamp) new;
          adds = λ are a b keeps. quiet_stamp stamped.Records b [] new new tt (changes_none [] new);
        },
      );
    }

    pub records_there : (gone : Bool) (one two : List Step → Type 0) → Goes one two (TellsGone names.records gone) → Goes one two (StampsRecords names stamp)
    records_there gone one two goes = goes_as _ _ one two
        (λ p q tells. record {
          changes = changes_more [] (stamp_names stamp) p q (λ n none. tt) tells.changes;
          adds = λ are a b keeps. quiet_stamp stamped.Records b [] p q tt tells.changes;
        }) goes

    pub records_stamped : (gone : Bool) (one mid two : List Step → Type 0) → gone ≡ true → Goes one mid (TellsGone names.records gone) → Goes mid two (StampsDay names stamp stamped.Records) → Goes one two (StampsRecords names stamp)
    records_stamped gone one mid two is first second = goes_both _ _ _ one mid two
        (λ p q r tells stamps. record {
          changes = changes_then (stamp_names stamp) p q r (changes_more [] (stamp_names stamp) p q (λ n none. tt) tells.changes) stamps.changes;
          adds = λ are a b keeps. stamp_then stamped.Records b [] p q r tt tells.changes
              (stamps.adds are b (leaves_kept [] names.day (Some b) p q tt tells.changes (placed_leaves a b p keeps (tells.none is))));
        }) first second

-- a stamp is opened to be read
pub opened_alone : {R : Type 0} (path : Path) (device : R → Device) (result : Result R TreeFault) (one two : List Step → Type 0) → Goes one two (Tells (λ past reader. Opens path past (device reader)) result) → Goes one two (ChangesOnly [])
opened_alone path device result one two goes = goes_as _ _ one two (λ p q tells. (acts_tells [] (λ past reader. Opens path past (device reader)) result p q tells).changes) goes

-- a look at the file that has the day's place
pub finds_regular : (name : Path) (facts : Facts) (value : Option Stamp) (one two : List Step → Type 0) → IfSome value (IsStampOfFound facts) → Goes one two (Tells (Looks name) (Ok (Some facts))) → Goes one two (FindsStamp name value)
finds_regular name facts value one two is goes = goes_as _ _ one two
    (λ p q tells. record {
      changes = (acts_tells [] (Looks name) (Ok (Some facts)) p q tells).changes;
      is = by value p is tells.1;
    }) goes
  where
    as_long : (s : Stamp) (file : Option File) → s ≡ stamp_of facts → IsSomeAnd file (λ file. facts.bytes ≡ length file.bytes) → IsSomeAnd file (λ file. s.bytes ≡ length file.bytes)
    as_long s None same has = has
    as_long s (Some file) same has = ap (λ (x : Stamp). x.bytes) same ∙ has

    by : (value : Option Stamp) (p : List Step) → IfSome value (IsStampOfFound facts) → Looks name p (Some facts) → IfSome value (λ s. IsSomeAnd (now p name) (λ file. s.bytes ≡ length file.bytes))
    by None p is looks = tt
    by (Some s) p is looks = as_long s (now p name) is.is (looks.regular is.regular)

pub finds_none : (name : Path) (answer : Result (Option Facts) TreeFault) (one two : List Step → Type 0) → Goes one two (Tells (Looks name) answer) → Goes one two (FindsStamp name None)
finds_none name answer one two goes = goes_as _ _ one two (λ p q tells. record { changes = (acts_tells [] (Looks name) answer p q tells).changes; is = tt }) goes

-- two looks, at the original and at the records
pub tells_gone : (original records : Path) (first second : Result (Option Facts) TreeFault) (there gone : Bool) (one mid two : List Step → Type 0) → (gone ≡ true → second ≡ Ok None)
    → Goes one mid (Tells (Looks original) first) → Goes mid two (Tells (Looks records) second) → Goes one two (TellsGone records (there && gone))
tells_gone original records first second there gone one mid two is a b = goes_both _ _ _ one mid two
    (λ p q r x y.
    let quiet = (acts_tells [] (Looks original) first p q x).changes in
    record {
      changes = changes_then [] p q r quiet (acts_tells [] (Looks records) second q r y).changes;
      none = λ both.
          let looks : Looks records q None = (subst (λ (s : Result (Option Facts) TreeFault). Tells (Looks records) s q r) (is (second_is there gone both)) y).1 in
          sym (now_kept [] records p q tt quiet) ∙ looks;
    }) a b
  where
    second_is : (there gone : Bool) → there && gone ≡ true → gone ≡ true
    second_is true gone so = so
    second_is false gone so = absurd cc

pub other_way : (x y : Path) → bytes_eq x y ≡ false → bytes_eq y x ≡ false
other_way x y not = elim (cases_Bool (bytes_eq y x)) [
  | inl is ↦ let yes = (bytes_eq-Decides x y).1 (sym ((bytes_eq-Decides y x).0 is)) in absurd cc
  | inr other ↦ other
]
