-- What becomes of days.
use Rattle.std.proofs.Common.{◌≡◌, ◌≢◌, ◌<◌, inl, inr, ℕ, refl, ap, sym, ◌∙◌, subst, append_assoc, arith, Bool, true, false, IfOk, IfSome, IsOk, is_ok, List, [], ◌∷◌, ◌++◌, Option, None, Some, Result, Ok, Err}
use Rattle.std.proofs.lemmas.Bool.{cases_Bool}
use Rattle.std.proofs.lemmas.Slice.Eq.{bytes_eq-Decides}
use Rattle.std.specs.Str.{bytes_eq}
use Rattle.msr_folders.proofs.WalkedLemmas.{goes_none, goes_so, goes_then}
use Rattle.msr_base.specs.declared.lengths.Length.{Length}
use Rattle.msr_making.specs.Day.{AsksForAge, IsDayOutcome}
use Rattle.msr_making.specs.Making.{DoesDay, IsOwnOfFile, LooksForSame, WaitsForStamp}
use Rattle.msr_tree.specs.Folders.{ChangesFiles}
use Rattle.msr_making.proofs.Untouched.{left_claimed, left_untouched, still_there, untouched_then}
use Rattle.msr_making.proofs.Owns.{AreNone, more_beside, none_beside}
use Rattle.msr_making.specs.Clearing.{beside_paths}
use Rattle.msr_making.specs.Told.{AreUntouched, IsKeptBeside, IsLeftFor, IsOutcomeThere}
use Rattle.msr_making.specs.declared.answer.DayEnd.{DayEnd}
use Rattle.msr_making.specs.declared.answer.DayFault.{DayFault}
use Rattle.msr_making.specs.declared.answer.DayFault.TheVariants.{CannotOpen, Changed, ClaimedByAnother, Differs, Gone, Larger, Listing, Misplaced, NotShown, Shrunk, Tool}
use Rattle.msr_making.specs.declared.answer.DayOutcome.{DayOutcome}
use Rattle.msr_making.specs.declared.answer.DayOutcome.TheVariants as outcomes
use Rattle.msr_making.specs.Places.{DayPaths, shows_all}
use Rattle.msr_making.specs.declared.answer.Left.TheVariants.{Stamp as StampLeft}
use Rattle.msr_making.specs.declared.answer.Repacked.{Repacked}
use Rattle.msr_naming.specs.Naming.{day_paths}
use Rattle.msr_naming.specs.Promise.{HasOwn, HasReport, ShowsDay}
use Rattle.msr_naming.specs.declared.batch.Waiting.{Waiting}
use Rattle.msr_naming.specs.declared.files.Name.{Name}
use Rattle.msr_naming.specs.declared.files.Name.TheVariants.{Records, Report, Stamp}
use Rattle.msr_naming.specs.declared.files.DayFiles.{DayFiles}
use Rattle.msr_folders.specs.Names.{day_name}
use Rattle.msr_folders.specs.Days.{IsDay}
use Rattle.msr_options.specs.Choice.{Choice}
use Rattle.msr_options.specs.Days.{in_length, with_name}
use Rattle.msr_options.specs.Tasks.{StandApart}
use Rattle.msr_options.specs.declared.names.DayName.{DayName}
use Rattle.msr_options.specs.declared.task.Archiving.{Archiving}
use Rattle.std.specs.declared.alloc.AllocError.{AllocError}
use Rattle.msr_options.specs.declared.days.DayOptions.{DayOptions}
use Rattle.msr_options.specs.declared.hint.Side.{Side}
use Rattle.msr_options.specs.declared.hint.Unopened.{Unopened}
use Rattle.msr_folders.proofs.WithinLemmas.{within_none, within_then}
use Rattle.msr_folders.specs.Within.{ChangesWithin}
use Rattle.msr_tree.proofs.Changes.{now_kept, same_now}
use Rattle.msr_tree.proofs.Folders.{leaves_none, leaves_then}
use Rattle.msr_tree.proofs.Moments.{at_end, joined}
use Rattle.msr_tree.specs.Calls.{Goes}
use Rattle.msr_folders.specs.Walks.{HoldsAt}
use Rattle.msr_tree.specs.Steps.{AtEachMoment, IsNoneOf, Path, Spares, Step, failures, now}
use Rattle.msr_walk.proofs.DayApart.{day_apart}
use Rattle.msr_walk.proofs.DayPaths.{day_within}
use Rattle.msr_walk.proofs.Kept.{each_so}
use Rattle.msr_walk.proofs.OtherDays.{none_of_other, other_day}
use Rattle.msr_walk.proofs.Spared.{SparesNames, made_spared, made_then, own_as, own_spared, shows_as, shows_spared}
use Rattle.msr_walk.proofs.Waits.{waiting_beside}
use Rattle.msr_walk.proofs.Working.{inputs_same, looks_work, none_of_day, settled_leaves, settled_works, works_end, works_then}
use Rattle.msr_outcomes.specs.Entries.{IsDayOf, IsOutcomeOf}
use Rattle.msr_walk.specs.Files.{AreNamesOfDay, DayNames, HaveNames, LeavesMade, StaysMade, day_names, files_of, paths_of_names}
use Rattle.msr_walk.specs.Handling.{AreNamesWithin, ChangesNames, IsSameBut, IsUnclaimed}
use Rattle.msr_walk.specs.Waiting.{AreWaitingAt, AwaitsName, IsNoneWaiting, WaitsAs}
use Rattle.msr_walk.specs.Kills.{KeepsReport, day_names_in}
use Rattle.msr_walk.specs.Laws.{found_as, none_failed, seen_as, spared}
use Rattle.msr_walk.specs.Losses.{KeepsDay, KeepsDays}
use Rattle.msr_outcomes.specs.Outcomes.{IsOutcomeOfDay, of_day}
use Rattle.msr_walk.specs.Told.{DropsWaiting, HandlesDay, IsDayTold, IsToldThere, TellsDay, ToldBetween, WorksFor}
use Rattle.msr_outcomes.specs.declared.outcome.Outcome.{Outcome}
use Rattle.msr_outcomes.specs.declared.outcome.Outcome.TheVariants.{Refused, Young}

spares_both : (name : Path) (one two : List Step) → Spares name one → Spares name two → Spares name (two ++ one)
spares_both name one [] a b = a
spares_both name one (step ∷ two) a b = (spares_both name one two a b.0, b.1)

-- names of a day that change
module _ (some : DayFiles → List Path) (names : DayNames) where
  names_none : (past : List Step) → ChangesNames some names past past
  names_none past = record { made = []; since = refl; spares = λ name none. tt; leaves = leaves_none past }

  names_then : (old mid new : List Step) → ChangesNames some names old mid → ChangesNames some names mid new → ChangesNames some names old new
  names_then old mid new one two = record {
    made = two.made ++ one.made;
    since = two.since ∙ (ap (λ l. two.made ++ l) one.since ∙ sym (append_assoc two.made one.made old));
    spares = λ name none. spares_both name one.made two.made (one.spares name none) (two.spares name none);
    leaves = leaves_then old mid new one.leaves two.leaves;
  }

  -- under the number of one claim
  names_by : (number : ℕ) (old new : List Step) → ChangesFiles (some (files_of names number)) old new → ChangesNames some names old new
  names_by number old new changes = record {
    made = changes.changes.made;
    since = changes.changes.since;
    spares = λ name none. changes.changes.spares name (none number);
    leaves = changes.folders;
  }

  names_still : (old new : List Step) → ChangesFiles [] old new → ChangesNames some names old new
  names_still old new changes = record {
    made = changes.changes.made;
    since = changes.changes.since;
    spares = λ name none. changes.changes.spares name tt;
    leaves = changes.folders;
  }

  -- another name leads to what it led to
  names_same : (name : Path) (old new : List Step) → ((number : ℕ) → IsNoneOf name (some (files_of names number))) → ChangesNames some names old new → now new name ≡ now old name
  names_same name old new none changes = ap (λ l. now l name) changes.since ∙ same_now name old changes.made (changes.spares name none)

  names_within : (out reports : Path) → ((files : DayFiles) (name : Path) → IsNoneOf name (day_paths files) → IsNoneOf name (some files)) → AreNamesWithin out reports names
      → (old new : List Step) → ChangesNames some names old new → ChangesWithin out reports old new
  names_within out reports fewer within old new changes = record {
    made = changes.made;
    since = changes.since;
    spares = λ name lacks none. changes.spares name (λ number. fewer (files_of names number) name (none_of_day out reports (files_of names number) name (within.are number) lacks none));
    folders = changes.leaves.folders;
  }

-- names beside those of a day
module _ (names : DayNames) where
  beside_of_day : (old new : List Step) → ChangesNames beside_paths names old new → ChangesNames day_paths names old new
  beside_of_day old new changes = record {
    made = changes.made;
    since = changes.since;
    spares = λ name none. changes.spares name (λ number. more_beside (files_of names number) name (none number));
    leaves = changes.leaves;
  }

  module _ (are : AreNamesOfDay names) where
    abbrev aside : (number : ℕ) → AreNone (files_of names number) (beside_paths (files_of names number))
    aside number = none_beside (files_of names number) (are.are number).names

    beside_still : (old new : List Step) → ChangesNames beside_paths names old new → AreUntouched (paths_of_names names) old new
    beside_still old new changes = (
      names_same beside_paths names names.records old new (λ number. (aside number).records) changes,
      names_same beside_paths names names.report old new (λ number. (aside number).report) changes,
      names_same beside_paths names names.stamp old new (λ number. (aside number).stamp) changes,
    )

    beside_killed : (old new : List Step) → ChangesNames beside_paths names old new → (number : ℕ) (is_own : (records report : List ℕ) → Bool)
        → HasReport is_own (files_of names number) old → AtEachMoment (HasReport is_own (files_of names number)) old new
    beside_killed old new changes number is_own has =
        spared is_own (files_of names number) old new changes.made changes.since (changes.spares names.records (λ n. (aside n).records)) (changes.spares names.report (λ n. (aside n).report)) has

    beside_spares : (old new : List Step) (changes : ChangesNames beside_paths names old new) (number : ℕ) → SparesNames (files_of names number) changes.made
    beside_spares old new changes number = record {
      records = changes.spares names.records (λ n. (aside n).records);
      report = changes.spares names.report (λ n. (aside n).report);
      stamp = changes.spares names.stamp (λ n. (aside n).stamp);
    }

    beside_safe : (old new : List Step) → ChangesNames beside_paths names old new → (number : ℕ) (is_own : (records report : List ℕ) → Bool) (is_of : (stamp records report : List ℕ) → Bool)
        → HasOwn is_own is_of (files_of names number) old → AtEachMoment (HasOwn is_own is_of (files_of names number)) old new
    beside_safe old new changes number is_own is_of has = own_spared (files_of names number) is_own is_of old new changes.made changes.since (beside_spares old new changes number) has

    beside_shows : (old new : List Step) → ChangesNames beside_paths names old new → (number : ℕ) → ShowsDay (files_of names number) old → ShowsDay (files_of names number) new
    beside_shows old new changes number shows = shows_spared (files_of names number) old new changes.made changes.since (beside_spares old new changes number) shows

    beside_own : (choice : Choice) (is_own : (records report : List ℕ) → Bool) (old new : List Step) → ChangesNames beside_paths names old new
        → IsOwnOfFile names.input choice is_own old → IsOwnOfFile names.input choice is_own new
    beside_own choice is_own old new changes own bytes records text report has reported =
        let same = seen_as names.input old new (names_same beside_paths names names.input old new (λ number. more_beside (files_of names number) names.input (are.are number).own) changes) in
        own bytes records text report (sym same ∙ has) reported

-- with another reason
left_again : (stays : Bool) (paths : DayPaths) (one other : Unopened) (old new : List Step) → other.side ≡ one.side → IsLeftFor stays (CannotOpen one) paths old new → IsLeftFor stays (CannotOpen other) paths old new
left_again true paths one other old new same is = subst (λ (s : Side). IsKeptBeside s paths old new) (sym same) is
left_again false paths one other old new same is = is

pub there_again : (asked : DayOptions) (paths : DayPaths) (outcome told : DayOutcome) (old new : List Step) → IsSameBut outcome told
    → IsOutcomeThere asked paths outcome old new → IsToldThere asked paths told old new
there_again asked paths (outcomes.Done repacked) told old new same is = subst (λ o. IsToldThere asked paths o old new) (sym same) is
there_again asked paths (outcomes.Same repacked) told old new same is = subst (λ o. IsToldThere asked paths o old new) (sym same) is
there_again asked paths outcomes.Young told old new same is = subst (λ o. IsToldThere asked paths o old new) (sym same) is
there_again asked paths (outcomes.Refused (CannotOpen unopened)) told old new same is =
    subst (λ o. IsToldThere asked paths o old new) (sym same.2) (left_again asked.keep_old paths unopened same.0 old new same.1 is.1)
there_again asked paths (outcomes.Refused NotShown) told old new same is = subst (λ o. IsToldThere asked paths o old new) (sym same) is
there_again asked paths (outcomes.Refused Differs) told old new same is = subst (λ o. IsToldThere asked paths o old new) (sym same) is
there_again asked paths (outcomes.Refused Changed) told old new same is = subst (λ o. IsToldThere asked paths o old new) (sym same) is
there_again asked paths (outcomes.Refused (Larger repacked)) told old new same is = subst (λ o. IsToldThere asked paths o old new) (sym same) is
there_again asked paths (outcomes.Refused (Shrunk shrinkage)) told old new same is = subst (λ o. IsToldThere asked paths o old new) (sym same) is
there_again asked paths (outcomes.Refused (Misplaced found)) told old new same is = subst (λ o. IsToldThere asked paths o old new) (sym same) is
there_again asked paths (outcomes.Refused ClaimedByAnother) told old new same is = subst (λ o. IsToldThere asked paths o old new) (sym same) is
there_again asked paths (outcomes.Refused (Tool fault)) told old new same is = subst (λ o. IsToldThere asked paths o old new) (sym same) is
there_again asked paths (outcomes.Refused Gone) told old new same is = absurd is.0
there_again asked paths (outcomes.Refused Listing) told old new same is = absurd is.0

pub unclaimed_told : (asked : DayOptions) (paths : DayPaths) (why : DayFault) (old new : List Step) → IsUnclaimed why → AreUntouched paths old new → IsToldThere asked paths (outcomes.Refused why) old new
unclaimed_told asked paths (CannotOpen unopened) old new is still = left_untouched paths old new asked.keep_old (CannotOpen unopened) still (inl still)
unclaimed_told asked paths ClaimedByAnother old new is still = (tt, left_claimed paths old new asked.keep_old (inl still))
unclaimed_told asked paths NotShown old new is still = absurd is
unclaimed_told asked paths Differs old new is still = absurd is
unclaimed_told asked paths Changed old new is still = absurd is
unclaimed_told asked paths (Larger repacked) old new is still = absurd is
unclaimed_told asked paths (Shrunk shrinkage) old new is still = absurd is
unclaimed_told asked paths (Misplaced found) old new is still = absurd is
unclaimed_told asked paths (Tool fault) old new is still = absurd is
unclaimed_told asked paths Gone old new is still = absurd is
unclaimed_told asked paths Listing old new is still = absurd is

-- what was so between two moments was so between earlier and later ones
module _ (asked : DayOptions) (names : DayNames) (out reports : Path) (outcome : DayOutcome) where
  pub told_from : (old mid new : List Step) → ChangesWithin out reports old mid → AreUntouched (paths_of_names names) old mid → ToldBetween asked names out reports outcome mid new → ToldBetween asked names out reports outcome old new
  told_from old mid new first still told = record {
    from = told.from;
    to = told.to;
    before = within_then out reports old mid told.from first told.before;
    still = untouched_then (paths_of_names names) old mid told.from still told.still;
    there = told.there;
    after = told.after;
    stays = told.stays;
  }

  pub told_until : (old mid new : List Step) → ToldBetween asked names out reports outcome old mid → ChangesWithin out reports mid new → StaysMade names mid new → ToldBetween asked names out reports outcome old new
  told_until old mid new told last stays = record {
    from = told.from;
    to = told.to;
    before = told.before;
    still = told.still;
    there = told.there;
    after = within_then out reports told.to mid new told.after last;
    stays = made_then names told.to mid new told.stays stays;
  }

  pub told_now : (old new : List Step) → IsToldThere asked (paths_of_names names) outcome old new → ToldBetween asked names out reports outcome old new
  told_now old new there = record { from = old; to = new; before = within_none out reports old; still = (refl, refl, refl); there = there; after = within_none out reports new; stays = record { records = refl; report = refl } }

pub if_ok_as : {A E : Type 0} {P Q : A → Type 0} (result : Result A E) → ((x : A) → P x → Q x) → IfOk result P → IfOk result Q
if_ok_as (Ok x) so p = so x p
if_ok_as (Err why) so p = tt

-- each folder was stored, if no call failed
was_stored : (end : DayEnd) (old new : List Step) → (end.is_stored ≡ false → failures old < failures new) → failures new ≡ failures old → end.is_stored ≡ true
was_stored end old new unstored none = elim (cases_Bool end.is_stored) [
  | inl stored ↦ stored
  | inr not ↦ let fails = unstored not in absurd (omega (arith, none, fails))
]

-- a day that was done
module _ {H E : Type 0} (outcome : H → DayOutcome) (names : DayNames) (out reports : Path) (asked : DayOptions) where
  -- as its end tells, perhaps with another reason
  abbrev pub EndsAs : DayEnd → Result H E → Type 0
  EndsAs end result = IfOk result (λ handled. (ended : DayOutcome) × (end.outcome ≡ Ok ended) × IsSameBut ended (outcome handled))

  ended_well : (end : DayEnd) (result : Result H E) → EndsAs end result → IsOk result → IsOk end.outcome
  ended_well end (Ok handled) same ok = ap is_ok same.1
  ended_well end (Err why) same ok = cc

  pub handles_done : (number : ℕ) (was_left : Bool) (end : DayEnd) (result : Result H E) (before after : List Step → Type 0)
      → EndsAs end result → Goes before after (DoesDay names.input (files_of names number) was_left asked end) → Goes before after (HandlesDay outcome names out reports asked result)
  handles_done number was_left end result before after same goes = goes_so _ _ before after (λ old new went does. record {
    changes = names_by day_paths names number old new does.changes;
    killed = λ are other is_own own has. each_so (HasReport is_own (files_of names number)) (HasReport is_own (files_of names other)) (λ past kept. record { report = kept.report })
        old new (does.killed is_own (are.are number) own (record { report = has.report }));
    safe = λ none are other is_own is_of own shows has. each_so (HasOwn is_own is_of (files_of names number)) (HasOwn is_own is_of (files_of names other))
        (λ past kept. own_as is_own is_of names number other past kept) old new
        (does.safe (was_stored end old new does.unstored none) is_own is_of (are.are number)
        (shows_all was_left names.input (files_of names number) old (shows_as names other number old shows)) own (own_as is_own is_of names other number old has));
    shows = λ none are ok other shows. shows_as names number other new (does.leaves (ended_well end result same ok) none (are.are number) (shows_as names other number old shows));
    says = λ are. if_ok_as result (λ handled one. told_now asked names out reports (outcome handled) old new
        (there_again asked (paths_of_names names) one.0 (outcome handled) old new one.2
        (subst (λ r. IfOk r (λ told. IsOutcomeThere asked (paths_of_names names) told old new)) one.1 (does.outcome (are.are number))))) same;
  }) goes

  -- of which nothing is touched
  pub handles_beside : (result : Result H E) (before after : List Step → Type 0)
      → ((old new : List Step) → AreUntouched (paths_of_names names) old new → IfOk result (λ handled. IsToldThere asked (paths_of_names names) (outcome handled) old new))
      → Goes before after (ChangesNames beside_paths names) → Goes before after (HandlesDay outcome names out reports asked result)
  handles_beside result before after so goes = goes_so _ _ before after (λ old new went changes. record {
    changes = beside_of_day names old new changes;
    killed = λ are number is_own own has. beside_killed names are old new changes number is_own has;
    safe = λ none are number is_own is_of own shows has. beside_safe names are old new changes number is_own is_of has;
    shows = λ none are ok number shows. beside_shows names are old new changes number shows;
    says = λ are. if_ok_as result (λ handled there. told_now asked names out reports (outcome handled) old new there) (so old new (beside_still names are old new changes));
  }) goes

  -- that was left as it is
  pub handles_same : (repacked : Repacked) (result : Result H E) (before after : List Step → Type 0)
      → IfOk result (λ handled. outcome handled ≡ outcomes.Same repacked)
      → Goes before after (LooksForSame (paths_of_names names) asked (Ok (Some repacked))) → Goes before after (HandlesDay outcome names out reports asked result)
  handles_same repacked result before after is goes = goes_so _ _ before after (λ old new went looks. record {
    changes = names_still day_paths names old new looks.changes;
    killed = λ are number is_own own has. beside_killed names are old new (names_still beside_paths names old new looks.changes) number is_own has;
    safe = λ none are number is_own is_of own shows has. beside_safe names are old new (names_still beside_paths names old new looks.changes) number is_own is_of has;
    shows = λ none are ok number shows. beside_shows names are old new (names_still beside_paths names old new looks.changes) number shows;
    says = λ are. if_ok_as result (λ handled same. told_now asked names out reports (outcome handled) old new
        (subst (λ o. IsToldThere asked (paths_of_names names) o old new) (sym same) (looks.same, still_there (paths_of_names names) old new looks.changes))) is;
  }) goes

  pub handles_found : (repacked : Repacked) (given : Result (Option Repacked) AllocError) (result : Result H E) (before after : List Step → Type 0)
      → given ≡ Ok (Some repacked) → IfOk result (λ handled. outcome handled ≡ outcomes.Same repacked)
      → Goes before after (LooksForSame (paths_of_names names) asked given) → Goes before after (HandlesDay outcome names out reports asked result)
  handles_found repacked given result before after found is goes =
      handles_same repacked result before after is (subst (λ r. Goes before after (LooksForSame (paths_of_names names) asked r)) found goes)

  -- after something else was done
  pub handles_after : (result : Result H E) (before mid after : List Step → Type 0) → AreNamesWithin out reports names → Goes before mid (ChangesNames beside_paths names)
      → Goes mid after (HandlesDay outcome names out reports asked result) → Goes before after (HandlesDay outcome names out reports asked result)
  handles_after result before mid after within one two = goes_then _ _ _ before mid after (λ old middle new first second. record {
    changes = names_then day_paths names old middle new (beside_of_day names old middle first) second.changes;
    killed = λ are number is_own own has.
        let K : List Step → Type 0 = HasReport is_own (files_of names number) in
        let sooner = beside_killed names are old middle first number is_own has in
        joined K old middle new sooner (second.killed are number is_own (beside_own names are asked.options is_own old middle first own) (at_end K old middle sooner));
    safe = λ none are number is_own is_of own shows has.
        let P : List Step → Type 0 = HasOwn is_own is_of (files_of names number) in
        let sooner = beside_safe names are old middle first number is_own is_of has in
        joined P old middle new sooner (second.safe (none_failed old middle new first.made second.changes.made first.since second.changes.since none).1 are number is_own is_of
        (beside_own names are asked.options is_own old middle first own) (beside_shows names are old middle first number shows) (at_end P old middle sooner));
    shows = λ none are ok number shows.
        second.shows (none_failed old middle new first.made second.changes.made first.since second.changes.since none).1 are ok number (beside_shows names are old middle first number shows);
    says = λ are. if_ok_as result (λ handled told. told_from asked names out reports (outcome handled) old middle new
        (names_within beside_paths names out reports more_beside within old middle first) (beside_still names are old middle first) told) (second.says are);
  }) one two

-- of a day of which nothing is touched
pub untouched : (days : DayOptions) (unopened : Unopened) → IsOutcomeOfDay days (Refused (CannotOpen unopened))
untouched days unopened = record {
  asked = in_length days.options.record_length days;
  for_day = record { record_length = days.options.record_length; is = refl; own = λ same. refl };
  of = outcomes.Refused (CannotOpen unopened);
  same = refl;
  is = tt;
}

untouched_there : (days : DayOptions) (names : DayNames) (out reports : Path) (unopened : Unopened) (old new : List Step) → ChangesFiles [] old new
    → IsDayTold days names out reports (Refused (CannotOpen unopened)) old new
untouched_there days names out reports unopened old new leaves = record {
  asked = in_length days.options.record_length days;
  for_day = record { record_length = days.options.record_length; is = refl; own = λ same. refl };
  of = outcomes.Refused (CannotOpen unopened);
  same = refl;
  there = λ are. told_now (in_length days.options.record_length days) names out reports (outcomes.Refused (CannotOpen unopened)) old new
      (left_untouched (paths_of_names names) old new days.keep_old (CannotOpen unopened) (still_there (paths_of_names names) old new leaves) (inl (still_there (paths_of_names names) old new leaves)));
}

-- of a day that is young
pub young_outcome : (days : DayOptions) → AsksForAge days → IsOutcomeOfDay days Young
young_outcome days asks = record {
  asked = in_length days.options.record_length days;
  for_day = record { record_length = days.options.record_length; is = refl; own = λ same. refl };
  of = outcomes.Young;
  same = refl;
  is = asks;
}

young_there : (days : DayOptions) (names : DayNames) (out reports : Path) (old new : List Step) → AsksForAge days → ChangesFiles [] old new → IsDayTold days names out reports Young old new
young_there days names out reports old new asks leaves = record {
  asked = in_length days.options.record_length days;
  for_day = record { record_length = days.options.record_length; is = refl; own = λ same. refl };
  of = outcomes.Young;
  same = refl;
  there = λ are. told_now (in_length days.options.record_length days) names out reports outcomes.Young old new (asks, still_there (paths_of_names names) old new leaves);
}

-- what becomes of a day, told of an entry with its path
pub outcome_of : (asked : DayOptions) (path channel : List ℕ) (outcome : Outcome) (day : IsDayOf path channel)
    → IsOutcomeOfDay (with_name (day_name day.name) asked) outcome → IsOutcomeOf asked path channel outcome
outcome_of asked path channel outcome day is = subst (λ o. IsOutcomeOf asked path channel o) (sym is.same) (by is.of is.same is.is)
  where
    by : (of : DayOutcome) → outcome ≡ of_day of → IsDayOutcome is.asked of → IsOutcomeOf asked path channel (of_day of)
    by (outcomes.Done repacked) same so = record { day = day; outcome_is = subst (λ o. IsOutcomeOfDay (with_name (day_name day.name) asked) o) same is }
    by (outcomes.Same repacked) same so = record { day = day; outcome_is = subst (λ o. IsOutcomeOfDay (with_name (day_name day.name) asked) o) same is }
    by outcomes.Young same so = record { day = day; outcome_is = subst (λ o. IsOutcomeOfDay (with_name (day_name day.name) asked) o) same is }
    by (outcomes.Refused (CannotOpen unopened)) same so = record { day = day; outcome_is = subst (λ o. IsOutcomeOfDay (with_name (day_name day.name) asked) o) same is }
    by (outcomes.Refused NotShown) same so = record { day = day; outcome_is = subst (λ o. IsOutcomeOfDay (with_name (day_name day.name) asked) o) same is }
    by (outcomes.Refused Changed) same so = record { day = day; outcome_is = subst (λ o. IsOutcomeOfDay (with_name (day_name day.name) asked) o) same is }
    by (outcomes.Refused Differs) same so = record { day = day; outcome_is = subst (λ o. IsOutcomeOfDay (with_name (day_name day.name) asked) o) same is }
    by (outcomes.Refused (Shrunk shrinkage)) same so = record { day = day; outcome_is = subst (λ o. IsOutcomeOfDay (with_name (day_name day.name) asked) o) same is }
    by (outcomes.Refused (Larger repacked)) same so = record { day = day; outcome_is = subst (λ o. IsOutcomeOfDay (with_name (day_name day.name) asked) o) same is }
    by (outcomes.Refused (Misplaced found)) same so = record { day = day; outcome_is = subst (λ o. IsOutcomeOfDay (with_name (day_name day.name) asked) o) same is }
    by (outcomes.Refused ClaimedByAnother) same so = record { day = day; outcome_is = subst (λ o. IsOutcomeOfDay (with_name (day_name day.name) asked) o) same is }
    by (outcomes.Refused (Tool fault)) same so = record { day = day; outcome_is = subst (λ o. IsOutcomeOfDay (with_name (day_name day.name) asked) o) same is }
    by (outcomes.Refused Gone) same so = absurd so
    by (outcomes.Refused Listing) same so = absurd so

-- What is done of one day of an archive.
pub record WorksOn (goes_on : Bool) (archive : Archiving) (path : Path) (old new : List Step) : Type 0 where
  pub works : WorksFor goes_on archive old new
  pub changes : ChangesNames day_paths (day_names_in archive path) old new

-- a day of an archive
module _ (archive : Archiving) (apart : StandApart archive.folders) (path : Path) (day : IsDay path) where
  abbrev its_names : DayNames
  its_names = day_names_in archive path

  abbrev outf : Path
  outf = archive.folders.out.now

  abbrev reports : Path
  reports = archive.folders.reports.now

  spares_other : HaveNames outf reports → (other : Path) → IsDay other → path ≢ other → (old new : List Step) (changes : ChangesNames day_paths its_names old new) (number : ℕ)
      → SparesNames (files_of (day_names_in archive other) number) changes.made
  spares_other have other another unlike old new changes number =
      let files : DayFiles = files_of (day_names_in archive other) number in
      let none = λ (name : Name) (n : ℕ). none_of_other files (files_of its_names n) name (other_day archive.folders apart have other path another day number n (λ same. unlike (sym same))) in
      record { records = changes.spares files.records.path (none Records); report = changes.spares files.report.path (none Report); stamp = changes.spares files.stamp.path (none Stamp) }

  -- what was made of another is as it was
  pub others_left : (old new : List Step) → ChangesNames day_paths its_names old new → LeavesMade archive.folders.root.now outf reports (λ other. other ≡ path) old new
  others_left old new changes = record {
    each = λ have other another unlike.
        let spares = spares_other have other another (λ same. unlike (sym same)) old new changes 0 in
        made_spared (day_names_in archive other) old new changes.made changes.since spares.records spares.report;
  }

  keeps_other : HaveNames outf reports → (other : Path) → IsDay other → path ≢ other → (old new : List Step) → ChangesNames day_paths its_names old new → KeepsReport archive.days (day_names_in archive other) old new
  keeps_other have other another unlike old new changes = record {
    each = λ number is_own own has.
        let spares = spares_other have other another unlike old new changes number in
        spared is_own (files_of (day_names_in archive other) number) old new changes.made changes.since spares.records spares.report has;
  }

  -- what is done of one day keeps the reports of all
  module _ {H E : Type 0} (outcome : H → DayOutcome) (name : DayName) (record_length : Length) (own_length : archive.days.same_length ≡ false → record_length ≡ archive.days.options.record_length) where
    keeps_own : (result : Result H E) → HaveNames outf reports → (old new : List Step) → HandlesDay outcome its_names outf reports (in_length record_length (with_name name archive.days)) result old new
        → KeepsReport archive.days its_names old new
    keeps_own result have old new handles = record {
      each = λ number is_own own has. handles.killed (day_apart archive.folders path apart have day) number is_own
          (own.own (in_length record_length archive.days) (record { record_length = record_length; is = refl; own = own_length })) has;
    }

    safe_of_day : (result : Result H E) (old new : List Step) → HandlesDay outcome its_names outf reports (in_length record_length (with_name name archive.days)) result old new
        → KeepsDays (is_ok result) archive old new
    safe_of_day result old new handles = record {
      each = λ none have other another. elim (cases_Bool (bytes_eq path other)) [
        | inl same ↦ subst (λ p. KeepsDay (is_ok result) archive.days (day_names_in archive p) old new) ((bytes_eq-Decides path other).0 same) (record {
          safe = λ number is_own is_of own stamp shows has. handles.safe none (day_apart archive.folders path apart have day) number is_own is_of
              (own.own (in_length record_length archive.days) (record { record_length = record_length; is = refl; own = own_length })) shows has;
          shows = λ on number shows. handles.shows none (day_apart archive.folders path apart have day) on number shows;
        })
        | inr differ ↦
            let unlike : path ≢ other = λ same. let yes = (bytes_eq-Decides path other).1 same in absurd cc in
            record {
              safe = λ number is_own is_of own stamp shows has. own_spared (files_of (day_names_in archive other) number) is_own is_of old new handles.changes.made handles.changes.since
                  (spares_other have other another unlike old new handles.changes number) has;
              shows = λ on number shows. shows_spared (files_of (day_names_in archive other) number) old new handles.changes.made handles.changes.since
                  (spares_other have other another unlike old new handles.changes number) shows;
            }
      ];
    }

    day_works : (result : Result H E) (old new : List Step) → HandlesDay outcome its_names outf reports (in_length record_length (with_name name archive.days)) result old new
        → WorksFor (is_ok result) archive old new
    day_works result old new handles = record {
      does = record {
        within = names_within day_paths its_names outf reports (λ files other none. none) (day_within archive.folders.root.now outf reports path day) old new handles.changes;
        reports = record {
          each = λ have other another. elim (cases_Bool (bytes_eq path other)) [
            | inl same ↦ subst (λ p. KeepsReport archive.days (day_names_in archive p) old new) ((bytes_eq-Decides path other).0 same) (keeps_own result have old new handles)
            | inr differ ↦ keeps_other have other another (λ same. let yes = (bytes_eq-Decides path other).1 same in absurd cc) old new handles.changes
          ];
        };
        safe = safe_of_day result old new handles;
      };
      lists_none = λ none. handles.changes.leaves.unlisted;
    }

    pub day_goes : (result : Result H E) (before after : List Step → Type 0) → Goes before after (HandlesDay outcome its_names outf reports (in_length record_length (with_name name archive.days)) result)
        → Goes before after (WorksOn (is_ok result) archive path)
    day_goes result before after goes = goes_so _ _ before after (λ old new went handles. record { works = day_works result old new handles; changes = handles.changes }) goes

    answered : {L F : Type 0} (told : L → Outcome) (result : Result H E) (answer : Result L F) → IfOk answer (λ t. (h : H) × (result ≡ Ok h) × (told t ≡ of_day (outcome h)))
        → is_ok answer ≡ true → is_ok result ≡ true
    answered told result (Ok t) is ok = ap is_ok is.1
    answered told result (Err why) is ok = cc

    -- what is told of it
    pub day_told : {L F : Type 0} (told : L → Outcome) (result : Result H E) (answer : Result L F) (before mid after : List Step → Type 0)
        → IfOk answer (λ t. (h : H) × (result ≡ Ok h) × (told t ≡ of_day (outcome h)))
        → Goes before mid (ChangesFiles []) → Goes mid after (HandlesDay outcome its_names outf reports (in_length record_length (with_name name archive.days)) result)
        → Goes before after (TellsDay told archive (with_name name archive.days) path answer)
    day_told told result answer before mid after is one two = goes_then _ _ _ before mid after (λ old middle new first second.
        let works = looks_work archive true old middle first in
        record {
          works = works_then archive apart (is_ok answer) old middle new works
              (works_end archive (is_ok result) (is_ok answer) middle new (answered told result answer is) (day_works result middle new second));
          changes = names_then day_paths its_names old middle new (names_still day_paths its_names old middle first) second.changes;
          says = if_ok_as answer (λ t have. record {
            asked = in_length record_length (with_name name archive.days);
            for_day = record { record_length = record_length; is = refl; own = own_length };
            of = outcome have.0;
            same = have.2;
            there = λ some. told_from (in_length record_length (with_name name archive.days)) its_names outf reports (outcome have.0) old middle new works.does.within (still_there (paths_of_names its_names) old middle first)
                (subst (λ r. IfOk r (λ handled. ToldBetween (in_length record_length (with_name name archive.days)) its_names outf reports (outcome handled) middle new)) have.1 (second.says (day_apart archive.folders path apart some day)));
          }) is;
        }) one two

-- by files that have these names
pub does_named : (names : DayNames) (files : DayFiles) (asked : DayOptions) (input : Path) (number : ℕ) (was_left : Bool) (end : DayEnd) (before after : List Step → Type 0)
    → input ≡ names.input → files ≡ files_of names number
    → Goes before after (DoesDay input files was_left asked end) → Goes before after (DoesDay names.input (files_of names number) was_left asked end)
does_named names files asked input number was_left end before after at are goes =
    subst (λ i. Goes before after (DoesDay i (files_of names number) was_left asked end)) at
    (subst (λ f. Goes before after (DoesDay input f was_left asked end)) are goes)

-- a stamp waits for its name
pub awaits_named : (names : DayNames) (asked : DayOptions) (number : ℕ) (files : DayFiles) (was_left : Bool) (end : DayEnd) (before after : List Step → Type 0)
    → files ≡ files_of names number → end.left ≡ StampLeft → Goes before after (DoesDay names.input (files_of names number) was_left asked end)
    → HoldsAt after (AwaitsName names asked files)
awaits_named names asked number files was_left end before after is left goes past went =
    let sooner = goes.from past went in
    let does = sooner.2 in
    record {
      number = number;
      are = is;
      waits = λ are.
          let waits = does.waits left (are.are number) in
          let same = now_kept (day_paths (files_of names number)) names.input sooner.0 past (are.are number).own does.changes.changes in
          subst (λ (f : DayFiles). WaitsForStamp names.input f asked.options past past) (sym is) (record {
            facts = waits.facts;
            looked = found_as names.input past sooner.0 waits.facts (sym same) waits.looked;
            bytes = waits.bytes;
            records = waits.records;
            text = waits.text;
            report = waits.report;
            has_input = seen_as names.input sooner.0 past same ∙ waits.has_input;
            reported = waits.reported;
            named = waits.named;
            stamp_is = waits.stamp_is;
          });
    }

-- that of a day of an archive
pub waits_as : {C : Type 0} (archive : Archiving) (apart : StandApart archive.folders) (path : Path) (day : IsDay path) (name : DayName) (record_length : Length)
    (own_length : archive.days.same_length ≡ false → record_length ≡ archive.days.options.record_length) (names : DayNames) (asked : DayOptions) (waiting : Option (Waiting C)) (after : List Step → Type 0)
    → names ≡ day_names_in archive path → asked ≡ in_length record_length (with_name name archive.days)
    → IfSome waiting (λ day. HoldsAt after (AwaitsName names asked day.files)) → IfSome waiting (λ day. HoldsAt after (WaitsAs archive path day.files))
waits_as archive apart path day name record_length own_length names asked None after is same waits = tt
waits_as archive apart path day name record_length own_length names asked (Some waiting) after is same waits = λ past went.
    let w : AwaitsName (day_names_in archive path) (in_length record_length (with_name name archive.days)) waiting.files past =
    subst (λ (n : DayNames). AwaitsName n (in_length record_length (with_name name archive.days)) waiting.files past) is (subst (λ (a : DayOptions). AwaitsName names a waiting.files past) same (waits past went)) in
    record {
      number = w.number;
      are = w.are;
      asked = in_length record_length archive.days;
      for_day = record { record_length = record_length; is = refl; own = own_length };
      waits = λ have. w.waits (day_apart archive.folders path apart have day);
    }

module _ (archive : Archiving) (days : DayOptions) (path : Path) where
  -- whatever is told of a day
  pub tells_works : {H E : Type 0} (outcome : H → Outcome) (result : Result H E) (before after : List Step → Type 0)
      → Goes before after (TellsDay outcome archive days path result) → Goes before after (WorksFor (is_ok result) archive)
  tells_works outcome result before after goes = goes_so _ _ before after (λ old new went told. told.works) goes

  -- of a day of which no more is told than what was done
  pub tells_nothing : {H E : Type 0} (outcome : H → Outcome) (why : E) (before after : List Step → Type 0)
      → Goes before after (WorksOn false archive path) → Goes before after (TellsDay outcome archive days path (Err why))
  tells_nothing outcome why before after goes = goes_so _ _ before after (λ old new went does. record { works = does.works; changes = does.changes; says = tt }) goes

  -- or only looked at
  pub looks_on : (goes_on : Bool) (before after : List Step → Type 0) → Goes before after (ChangesFiles []) → Goes before after (WorksOn goes_on archive path)
  looks_on goes_on before after goes = goes_so _ _ before after (λ old new went leaves. record {
    works = looks_work archive goes_on old new leaves;
    changes = names_still day_paths (day_names_in archive path) old new leaves;
  }) goes

  pub works_on_as : (one other : Bool) (before after : List Step → Type 0) → one ≡ other → Goes before after (WorksOn one archive path) → Goes before after (WorksOn other archive path)
  works_on_as one other before after is goes = subst (λ g. Goes before after (WorksOn g archive path)) is goes

  pub works_on_then : (apart : StandApart archive.folders) (goes_on : Bool) (before mid after : List Step → Type 0)
      → Goes before mid (WorksOn true archive path) → Goes mid after (WorksOn goes_on archive path) → Goes before after (WorksOn goes_on archive path)
  works_on_then apart goes_on before mid after one two = goes_then _ _ _ before mid after (λ old middle new first second. record {
    works = works_then archive apart goes_on old middle new first.works second.works;
    changes = names_then day_paths (day_names_in archive path) old middle new first.changes second.changes;
  }) one two

  -- nor is it touched
  pub tells_untouched : {H E : Type 0} (outcome : H → Outcome) (handled : H) (unopened : Unopened) (before after : List Step → Type 0)
      → outcome handled ≡ Refused (CannotOpen unopened) → Goes before after (ChangesFiles []) → Goes before after (TellsDay {E = E} outcome archive days path (Ok handled))
  tells_untouched outcome handled unopened before after is goes = goes_so _ _ before after (λ old new went leaves. record {
    works = looks_work archive true old new leaves;
    changes = names_still day_paths (day_names_in archive path) old new leaves;
    says = subst (λ o. IsDayTold days (day_names_in archive path) archive.folders.out.now archive.folders.reports.now o old new) (sym is)
        (untouched_there days (day_names_in archive path) archive.folders.out.now archive.folders.reports.now unopened old new leaves);
  }) goes

  -- that is young
  pub tells_young : {H E : Type 0} (outcome : H → Outcome) (handled : H) (before after : List Step → Type 0)
      → AsksForAge days → outcome handled ≡ Young → Goes before after (ChangesFiles []) → Goes before after (TellsDay {E = E} outcome archive days path (Ok handled))
  tells_young outcome handled before after asks is goes = goes_so _ _ before after (λ old new went leaves. record {
    works = looks_work archive true old new leaves;
    changes = names_still day_paths (day_names_in archive path) old new leaves;
    says = subst (λ o. IsDayTold days (day_names_in archive path) archive.folders.out.now archive.folders.reports.now o old new) (sym is)
        (young_there days (day_names_in archive path) archive.folders.out.now archive.folders.reports.now old new asks leaves);
  }) goes

  -- once somebody has looked
  pub tells_after : {H E : Type 0} (apart : StandApart archive.folders) (outcome : H → Outcome) (result : Result H E) (before mid after : List Step → Type 0)
      → Goes before mid (ChangesFiles []) → Goes mid after (TellsDay outcome archive days path result) → Goes before after (TellsDay outcome archive days path result)
  tells_after apart outcome result before mid after one two = goes_then _ _ _ before mid after (λ old middle new first second.
      let works = looks_work archive true old middle first in
      record {
        works = works_then archive apart (is_ok result) old middle new works second.works;
        changes = names_then day_paths (day_names_in archive path) old middle new (names_still day_paths (day_names_in archive path) old middle first) second.changes;
        says = if_ok_as result (λ t is. record {
          asked = is.asked;
          for_day = is.for_day;
          of = is.of;
          same = is.same;
          there = λ are. told_from is.asked (day_names_in archive path) archive.folders.out.now archive.folders.reports.now is.of old middle new works.does.within (still_there (paths_of_names (day_names_in archive path)) old middle first) (is.there are);
        }) second.says;
      }) one two

-- One after another, what was made of days stays.
pub left_then : (root out reports : Path) (But : Path → Type 0) (old mid new : List Step) → LeavesMade root out reports But old mid → LeavesMade root out reports But mid new
    → LeavesMade root out reports But old new
left_then root out reports But old mid new one two = record {
  each = λ have path day unlike. made_then (day_names root out reports path) old mid new (one.each have path day unlike) (two.each have path day unlike);
}

-- What is told of a day of which nothing was touched before.
pub record SaysOfDay {H E : Type 0} (outcome : H → Outcome) (archive : Archiving) (days : DayOptions) (path : Path) (result : Result H E) (old new : List Step) : Type 0 where
  pub works : WorksFor (is_ok result) archive old new
  pub leaves : LeavesMade archive.folders.root.now archive.folders.out.now archive.folders.reports.now (λ other. other ≡ path) old new
  pub says : IfOk result (λ told. IsDayTold days (day_names_in archive path) archive.folders.out.now archive.folders.reports.now (outcome told) old new)

-- others that waited wait no more
pub drops_works : (archive : Archiving) (path : Path) (before after : List Step → Type 0) → Goes before after (DropsWaiting archive path) → Goes before after (WorksFor true archive)
drops_works archive path before after goes = goes_so _ _ before after (λ old new went drops. settled_works archive true old new drops.works) goes

pub says_dropped : {H E : Type 0} (outcome : H → Outcome) (archive : Archiving) (apart : StandApart archive.folders) (days : DayOptions) (path : Path) (result : Result H E) (before mid after : List Step → Type 0)
    → IsDay path → Goes before mid (DropsWaiting archive path) → Goes mid after (TellsDay outcome archive days path result) → Goes before after (SaysOfDay outcome archive days path result)
says_dropped outcome archive apart days path result before mid after day one two = goes_then _ _ _ before mid after (λ old middle new first second.
    let works = settled_works archive true old middle first.works in
    record {
      works = works_then archive apart (is_ok result) old middle new works second.works;
      leaves = left_then archive.folders.root.now archive.folders.out.now archive.folders.reports.now (λ other. other ≡ path) old middle new
          (settled_leaves archive (λ other. other ≡ path) old middle first.works) (others_left archive apart path day middle new second.changes);
      says = if_ok_as result (λ t is. record {
        asked = is.asked;
        for_day = is.for_day;
        of = is.of;
        same = is.same;
        there = λ have. told_from is.asked (day_names_in archive path) archive.folders.out.now archive.folders.reports.now is.of old middle new works.does.within (first.still have) (is.there have);
      }) second.says;
    }) one two

-- what waits is left while another day is handled
pub waiting_handled : {H E C : Type 0} (outcome : H → Outcome) (archive : Archiving) (apart : StandApart archive.folders) (days : DayOptions) (path folder : Path) (result : Result H E) (waiting : List (Waiting C))
    (before after : List Step → Type 0) → Goes before after (TellsDay outcome archive days path result) → HoldsAt before (λ past. IsNoneWaiting archive path waiting) → AreWaitingAt before archive folder waiting
    → AreWaitingAt after archive folder waiting
waiting_handled outcome archive apart days path folder result waiting before after goes none wait past went =
    let sooner = goes.from past went in
    waiting_beside archive folder path waiting sooner.0 past (inputs_same archive apart sooner.0 past sooner.2.works.does.within) sooner.2.changes (none sooner.0 sooner.1) (wait sooner.0 sooner.1)

-- by other names for the same
pub handles_named : {H E : Type 0} (outcome : H → DayOutcome) (names others : DayNames) (out reports : Path) (asked given : DayOptions) (result : Result H E) (before after : List Step → Type 0)
    → others ≡ names → given ≡ asked → Goes before after (HandlesDay outcome others out reports given result) → Goes before after (HandlesDay outcome names out reports asked result)
handles_named outcome names others out reports asked given result before after is same goes =
    subst (λ n. Goes before after (HandlesDay outcome n out reports asked result)) is (subst (λ a. Goes before after (HandlesDay outcome others out reports a result)) same goes)

-- Of a day that is asked for.
module _ (names : DayNames) where
  pub claims_none : (before : List Step → Type 0) → Goes before before (ChangesNames beside_paths names)
  claims_none before = goes_none _ before (names_none beside_paths names)

  pub claims_then : (before mid after : List Step → Type 0) → Goes before mid (ChangesNames beside_paths names) → Goes mid after (ChangesNames beside_paths names) → Goes before after (ChangesNames beside_paths names)
  claims_then before mid after one two = goes_then _ _ _ before mid after (names_then beside_paths names) one two

  -- what stands beside its names goes
  pub claims_swept : (number : ℕ) (files : DayFiles) (before after : List Step → Type 0) → files ≡ files_of names number → Goes before after (ChangesFiles (beside_paths files)) → Goes before after (ChangesNames beside_paths names)
  claims_swept number files before after is goes = goes_so _ _ before after (λ old new went changes. names_by beside_paths names number old new changes)
      (subst (λ f. Goes before after (ChangesFiles (beside_paths f))) is goes)

  -- or it is looked at
  pub claims_looked : (asked : DayOptions) (result : Result (Option Repacked) AllocError) (before after : List Step → Type 0)
      → Goes before after (LooksForSame (paths_of_names names) asked result) → Goes before after (ChangesNames beside_paths names)
  claims_looked asked result before after goes = goes_so _ _ before after (λ old new went looks. names_still beside_paths names old new looks.changes) goes
