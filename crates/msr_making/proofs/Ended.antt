-- How a day ends.
use Rattle.std.proofs.Common.{◌≡◌, ◌⊎◌, ◌≤◌, ◌&&◌, inl, inr, ⊎_elim, ℕ, Bool, true, false, List, [], ◌∷◌, refl, sym, ◌∙◌, subst, Result, Ok, Err, Some, None, Option, IfOk, IsSome, arith}
use Rattle.std.specs.declared.alloc.AllocError.{AllocError}
use Rattle.msr_options.specs.declared.days.DayOptions.{DayOptions}
use Rattle.msr_tree.specs.Calls.{AreOneFile, Goes}
use Rattle.msr_tree.specs.Folders.{ChangesFiles}
use Rattle.msr_tree.specs.Steps.{Path, Step, failures, seen}
use Rattle.msr_tree.proofs.Acting.{goes_as}
use Rattle.msr_tree.proofs.Moments.{at_end, joined}
use Rattle.msr_tree.proofs.Filing.{changes_more, changes_then, leaves_kept, no_fewer, now_kept, ready_kept, seen_kept}
use Rattle.msr_naming.proofs.FallingBack.{goes_both}
use Rattle.msr_naming.specs.Naming.{AreDayNames, day_paths}
use Rattle.msr_naming.specs.Promise.{HasOwn, HasReport, IsFreeIf, IsUnseenIf}
use Rattle.msr_naming.specs.declared.files.DayFiles.{DayFiles}
use Rattle.msr_making.specs.Clearing.{EndsSwept, SeesNoneBeside, StaysOrGoes}
use Rattle.msr_making.specs.Ending.{DoesFound, FailsFor, IsMade, MadeAs, MakesDay, SeeksDay}
use Rattle.msr_making.specs.Looking.{IsDayLook, IsLookedAt, IsSightAt, IsUnfound}
use Rattle.msr_making.specs.Making.{DoesDay, IsOwnOfFile, WaitsForStamp}
use Rattle.msr_making.specs.Places.{AreFileNames, DayPaths, ShowsAllLeft, paths_of}
use Rattle.msr_making.specs.Stamping.{StampsAsked}
use Rattle.msr_making.specs.Told.{AreSpared, AreUntouched, IsKeptFor, IsLeftFor, IsOutcomeThere, IsRefusedThere, IsUnshrunk, LeavesSamples, stays_for}
use Rattle.msr_making.specs.declared.answer.DayEnd.{DayEnd}
use Rattle.msr_making.specs.declared.answer.DayFault.{DayFault}
use Rattle.msr_making.specs.declared.answer.DayFault.TheVariants.{CannotOpen, Changed, ClaimedByAnother, Differs, Gone, Larger, Listing, Misplaced, NotShown, Shrunk, Tool}
use Rattle.msr_making.specs.declared.answer.DayOutcome.{DayOutcome}
use Rattle.msr_making.specs.declared.answer.DayOutcome.TheVariants.{Done, Refused, Same, Young}
use Rattle.msr_making.specs.declared.answer.Left.{Left}
use Rattle.msr_making.specs.declared.answer.Left.TheVariants as left
use Rattle.msr_making.specs.declared.answer.Repacked.{Repacked}
use Rattle.msr_making.specs.declared.answer.Stop.{Stop}
use Rattle.msr_making.specs.declared.answer.Stop.TheVariants as stop
use Rattle.msr_making.specs.declared.looks.DayLook.{DayLook}
use Rattle.msr_making.specs.declared.looks.Sight.{Sight}
use Rattle.msr_making.specs.declared.making.Found.{Found}
use Rattle.msr_making.specs.declared.making.Found.TheVariants.{Ended, Open}
use Rattle.msr_making.specs.declared.making.Making.{Making}
use Rattle.msr_making.proofs.Cleared.{unseen_by}
use Rattle.msr_making.proofs.Lefts.{either_before}
use Rattle.msr_making.proofs.Owns.{free_kept, more_stamp, none_empty, none_stamp, own_each, own_kept, report_each, report_kept, shows_kept}
use Rattle.msr_making.proofs.Sights.{day_look_later, looks_kept}
use Rattle.msr_making.proofs.Untouched.{given_then, kept_for, left_claimed, left_then, spared_later, spared_then, still_there, untouched_then}

-- a refusal said of a day is so later
refused_later : (asked : DayOptions) (paths : DayPaths) (why : DayFault) (old mid new : List Step) → failures mid ≤ failures new → IsRefusedThere asked paths why old mid → IsRefusedThere asked paths why old new
refused_later asked paths (CannotOpen u) old mid new few is = ⊎_elim (λ one. inl one) (λ failed. inr (omega arith)) is
refused_later asked paths NotShown old mid new few is = is
refused_later asked paths Differs old mid new few is = is
refused_later asked paths Changed old mid new few is = is
refused_later asked paths (Larger repacked) old mid new few is = is
refused_later asked paths (Shrunk shrinkage) old mid new few is = is
refused_later asked paths (Misplaced found) old mid new few is = is
refused_later asked paths (Tool fault) old mid new few is = is
refused_later asked paths ClaimedByAnother old mid new few is = is
refused_later asked paths Gone old mid new few is = is
refused_later asked paths Listing old mid new few is = is

module _ (input : Path) (look : DayLook) (files : DayFiles) (was_left : Bool) (asked : DayOptions) where
  abbrev paths : DayPaths
  paths = paths_of input files

  -- of a day of which nothing is seen, nothing is left
  free_if : (is_free : Bool) (past : List Step) → (is_free ≡ true → (was_left ≡ false) × IsUnfound look) → IsDayLook paths look past → ShowsAllLeft was_left input files past → IsFreeIf is_free files past
  free_if is_free past so looked settled is = settled.free (so is).0 (unseen_by paths look past (so is).1 looked)

  -- nor does anybody see anything of it
  unseen_if : (is_free : Bool) (past : List Step) → (is_free ≡ true → (was_left ≡ false) × IsUnfound look) → IsDayLook paths look past → IsUnseenIf is_free files past
  unseen_if is_free past so looked is = unseen_by paths look past (so is).1 looked

  module _ (is_free : Bool) (free : is_free ≡ true → (was_left ≡ false) × IsUnfound look) (making : Making) where
    -- it is done
    pub done_so : (repacked : Repacked) (rest : Left) (one mid two : List Step → Type 0) → making.result ≡ Ok repacked
        → Goes one mid (MakesDay input look files is_free asked making) → Goes mid two (StampsAsked look.input files making.is_stored rest)
        → Goes one two (DoesFound input look files was_left asked (record { outcome = Ok (Done repacked); left = rest; is_stored = making.is_stored }))
    done_so repacked rest one mid two is first second = goes_both _ _ _ one mid two
        (λ p q r x y. record {
          safe = λ stored is_own is_of names looked settled own has.
              let so = x.safe stored is_own is_of names looked (free_if is_free p free looked.are settled) own has in
              joined (HasOwn is_own is_of files) p q r so (own_each files (files.stamp.part ∷ []) (none_stamp files names.names) q r y.changes is_own is_of (at_end (HasOwn is_own is_of files) p q so));
          killed = λ is_own names looked own has.
              let so = x.killed is_own names looked (unseen_if is_free p free looked.are) own has in
              joined (HasReport is_own files) p q r so (report_each files (files.stamp.part ∷ []) (none_stamp files names.names) q is_own (at_end (HasReport is_own files) p q so) r y.changes);
          outcome = λ names looked.
              let it = made p q x names looked in
              let none = none_stamp files names.names in
              record {
                records = it.records;
                text = it.text;
                repack = record { input = it.bytes; has_input = it.has_input; answers = it.fit.counted; belong = it.fit.belong; bytes_read = it.fit.read };
                has_records = seen_kept (files.stamp.part ∷ []) files.records.path q r none.records y.changes ∙ it.has_records;
                has_report = seen_kept (files.stamp.part ∷ []) files.report.path q r none.report y.changes ∙ it.has_report;
                verified = it.verified;
                smaller = it.fit.smaller;
                unshrunk = it.unshrunk;
              };
          stamp = λ waits names looked settled.
              let it = made p q x names looked in
              let none = none_stamp files names.names in
              let named = it.named (y.waits waits).0 (free_if is_free p free looked.are settled) in
              record {
                waits = waiting p q r x y waits names looked;
                unstamped = leaves_kept (files.stamp.part ∷ []) files.stamp.path None q r none.stamp y.changes named.unstamped;
              };
          waits = waiting p q r x y;
          leaves = λ ok same names looked shows.
              let few = no_fewer (day_paths files) p q x.changes in
              let more = no_fewer (files.stamp.part ∷ []) q r y.changes in
              shows_kept files (files.stamp.part ∷ []) (none_stamp files names.names) q r y.changes
              (x.leaves (λ stops. let so = is in cc) (omega arith) names looked (unseen_if is_free p free looked.are) shows);
          unstored = λ not. let few = no_fewer (files.stamp.part ∷ []) q r y.changes in let more = x.unstored not in omega arith;
          rest = λ nothing undone names. absurd undone;
          changes = changes_then (day_paths files) p q r x.changes (changes_more (files.stamp.part ∷ []) (day_paths files) q r (λ n none. more_stamp files n none) y.changes);
        }) first second
      where
        made : (p q : List Step) → MakesDay input look files is_free asked making p q → AreFileNames input files → IsLookedAt paths look p → IsMade input files asked is_free making.is_stored repacked p q
        made p q x names looked =
            subst (λ (m : Result Repacked Stop). MadeAs input files asked is_free making.is_stored m p q) is (x.said names looked)

        waiting : (p q r : List Step) → MakesDay input look files is_free asked making p q → StampsAsked look.input files making.is_stored rest q r
            → rest ≡ left.Stamp → AreFileNames input files → IsLookedAt paths look p → WaitsForStamp input files asked.options p r
        waiting p q r x y waits names looked =
            let it = made p q x names looked in
            let none = none_stamp files names.names in
            let stamp = (y.waits waits).1 in
            let named = it.stands (unseen_if is_free p free looked.are) in
            record {
              facts = stamp.facts;
              looked = subst (λ (s : Sight). IsSightAt input p s) stamp.found looked.are.input;
              bytes = it.bytes;
              records = it.records;
              text = it.text;
              report = it.fit.counted.report;
              has_input = it.has_input;
              reported = it.fit.counted.reported;
              named = record {
                records_are = ready_kept (files.stamp.part ∷ []) files.records.path it.records q r none.records y.changes named.records_are;
                report_is = ready_kept (files.stamp.part ∷ []) files.report.path it.text q r none.report y.changes named.report_is;
                unseen = seen_kept (files.stamp.part ∷ []) files.stamp.path q r none.stamp y.changes ∙ named.unseen;
              };
              stamp_is = stamp.ready;
            }

    refused_so : (why : DayFault) (outcome : Result DayOutcome AllocError) (p q r : List Step) → failures p ≤ failures q → failures q ≤ failures r
        → IfOk outcome (λ o. ((o ≡ Refused ClaimedByAnother) × (AreDayNames files → AreUntouched paths q r)) ⊎ ((o ≡ Refused why) × (AreDayNames files → StaysOrGoes (stays_for asked why) why paths q r))) → AreDayNames files
        → IsRefusedThere asked paths why p q × FailsFor why p q × IsKeptFor why paths p q × AreSpared paths p q → IfOk outcome (λ o. IsOutcomeThere asked paths o p r)
    refused_so why (Ok o) p q r few more left are is = ⊎_elim
        (λ claimed. subst (λ (x : DayOutcome). IsOutcomeThere asked paths x p r) (sym claimed.0)
        (tt, left_claimed paths p r asked.keep_old (spared_then paths p q r few more is.3 (inl (claimed.1 are)))))
        (λ so. subst (λ (x : DayOutcome). IsOutcomeThere asked paths x p r) (sym so.0)
        (refused_later asked paths why p q r more is.0, given_then paths p q r (spared_then paths p q r few more is.3) (stays_for asked why) why few more is.1 is.2 (so.1 are)))
        left
    refused_so why (Err e) p q r few more left are is = tt

    -- it is refused
    pub given_up : (why : DayFault) (end : DayEnd) (is_stored : Bool) (one mid two : List Step → Type 0) → making.result ≡ Err (stop.Refused why) → (is_stored ≡ true → (end.is_stored ≡ true) × (making.is_stored ≡ true)) → (is_stored ≡ false → (end.is_stored ≡ false) ⊎ (making.is_stored ≡ false))
        → Goes one mid (MakesDay input look files is_free asked making) → Goes mid two (EndsSwept paths files asked why end)
        → Goes one two (DoesFound input look files was_left asked (record { outcome = end.outcome; left = end.left; is_stored = is_stored }))
    given_up why end is_stored one mid two is both neither first second = goes_both _ _ _ one mid two
        (λ p q r x y. record {
          safe = λ stored is_own is_of names looked settled own has.
              let so = x.safe (both stored).1 is_own is_of names looked (free_if is_free p free looked.are settled) own has in
              joined (HasOwn is_own is_of files) p q r so (y.ends.safe (both stored).0 is_own is_of names.names (at_end (HasOwn is_own is_of files) p q so));
          killed = λ is_own names looked own has.
              let so = x.killed is_own names looked (unseen_if is_free p free looked.are) own has in
              joined (HasReport is_own files) p q r so (y.ends.killed is_own names.names (at_end (HasReport is_own files) p q so));
          outcome = λ names looked.
              refused_so why end.outcome p q r (no_fewer (day_paths files) p q x.changes) (no_fewer (day_paths files) q r y.ends.changes) y.ends.stays names.names
              (subst (λ (m : Result Repacked Stop). MadeAs input files asked is_free making.is_stored m p q) is (x.said names looked));
          stamp = λ waits names looked settled. absurd (y.ends.unstamped waits);
          waits = λ waits names looked. absurd (y.ends.unstamped waits);
          leaves = λ ok same names looked shows.
              let few = no_fewer (day_paths files) p q x.changes in
              let more = no_fewer (day_paths files) q r y.ends.changes in
              y.ends.leaves ok (omega arith) names.names
              (x.leaves (λ stops. let so = is in cc) (omega arith) names looked (unseen_if is_free p free looked.are) shows);
          unstored = λ not.
              let few = no_fewer (day_paths files) p q x.changes in
              let more = no_fewer (day_paths files) q r y.ends.changes in
              ⊎_elim (λ n. let fails = y.ends.unstored n in omega arith) (λ n. let fails = x.unstored n in omega arith) (neither not);
          rest = λ nothing undone names. y.rest nothing names.names;
          changes = changes_then (day_paths files) p q r x.changes y.ends.changes;
        }) first second

    -- memory was refused
    pub stopped_so : (e : AllocError) (one two : List Step → Type 0) → Goes one two (MakesDay input look files is_free asked making)
        → Goes one two (DoesFound input look files was_left asked (record { outcome = Err e; left = left.Parts; is_stored = making.is_stored }))
    stopped_so e one two goes = goes_as _ _ one two
        (λ p q x. record {
          safe = λ stored is_own is_of names looked settled own has. x.safe stored is_own is_of names looked (free_if is_free p free looked.are settled) own has;
          killed = λ is_own names looked own has. x.killed is_own names looked (unseen_if is_free p free looked.are) own has;
          outcome = λ names looked. tt;
          stamp = λ waits names looked settled. absurd cc;
          waits = λ waits names looked. absurd cc;
          leaves = λ ok same names looked shows. absurd cc;
          unstored = x.unstored;
          rest = λ nothing undone names. absurd cc;
          changes = x.changes;
        }) goes

-- what is said of a day by what was seen before is so by what was seen earlier, if nothing was changed
module _ (paths : DayPaths) (asked : DayOptions) (old mid new : List Step) (changes : ChangesFiles [] old mid) where
  seen_so : (path : Path) (what : Option (List ℕ)) → seen mid path ≡ what → seen old path ≡ what
  seen_so path what is = sym (seen_kept [] path old mid tt changes) ∙ is

  one_so : (a b : Path) → AreOneFile a b mid → AreOneFile a b old
  one_so a b is = (is.0, sym (now_kept [] a old mid tt changes) ∙ is.1, sym (now_kept [] b old mid tt changes) ∙ is.2)

  few : failures old ≤ failures mid
  few = no_fewer [] old mid changes

  left_so : (stays : Bool) (why : DayFault) → IsLeftFor stays why paths mid new → IsLeftFor stays why paths old new
  left_so stays why is =
      let still = still_there paths old mid changes in
      left_then paths old mid new (spared_later paths old mid new few still) stays why few (kept_for paths old mid why still) is

  samples_so : (was : ℕ) → LeavesSamples paths was mid → LeavesSamples paths was old
  samples_so was is = record {
    report = is.report;
    text = is.text;
    reads = is.reads;
    has_report = seen_so paths.report _ is.has_report;
    has_records = subst (λ (x : Option (List ℕ)). IsSome x) (seen_kept [] paths.records old mid tt changes) is.has_records;
    are = is.are;
  }

  samples_later : (was : ℕ) → LeavesSamples paths was old → LeavesSamples paths was mid
  samples_later was is = record {
    report = is.report;
    text = is.text;
    reads = is.reads;
    has_report = seen_kept [] paths.report old mid tt changes ∙ is.has_report;
    has_records = subst (λ (x : Option (List ℕ)). IsSome x) (sym (seen_kept [] paths.records old mid tt changes)) is.has_records;
    are = is.are;
  }

  unshrunk_so : (repacked : Repacked) → IsUnshrunk asked paths repacked mid → IsUnshrunk asked paths repacked old
  unshrunk_so repacked is = λ keep was left. is keep was (samples_later was left)

  refused_before : (why : DayFault) → IsRefusedThere asked paths why mid new → IsRefusedThere asked paths why old new
  refused_before (CannotOpen u) is = let f = few in ⊎_elim
      (λ one. inl (⊎_elim (λ a. inl (one_so paths.input paths.records a)) (λ b. inr (⊎_elim (λ a. inl (one_so paths.input paths.report a)) (λ a. inr (one_so paths.input paths.stamp a)) b)) one))
      (λ failed. inr (omega arith)) is
  refused_before NotShown is = record {
    repacked = is.repacked;
    records = is.records;
    text = is.text;
    repack = record { input = is.repack.input; has_input = seen_so paths.input _ is.repack.has_input; answers = is.repack.answers; belong = is.repack.belong; bytes_read = is.repack.bytes_read };
    check = is.check;
    unshown = is.unshown;
  }
  refused_before Differs is = record {
    repacked = is.repacked;
    records = is.records;
    text = is.text;
    repack = record { input = is.repack.input; has_input = seen_so paths.input _ is.repack.has_input; answers = is.repack.answers; belong = is.repack.belong; bytes_read = is.repack.bytes_read };
    check = is.check;
    other = is.other;
  }
  refused_before Changed is = record {
    repacked = is.repacked;
    records = is.records;
    text = is.text;
    repack = record { input = is.repack.input; has_input = seen_so paths.input _ is.repack.has_input; answers = is.repack.answers; belong = is.repack.belong; bytes_read = is.repack.bytes_read };
    check = is.check;
    other = is.other;
  }
  refused_before (Larger repacked) is = record {
    records = is.records;
    text = is.text;
    repack = record { input = is.repack.input; has_input = seen_so paths.input _ is.repack.has_input; answers = is.repack.answers; belong = is.repack.belong; bytes_read = is.repack.bytes_read };
    only_smaller = is.only_smaller;
    larger = is.larger;
    unshrunk = unshrunk_so repacked is.unshrunk;
  }
  refused_before (Shrunk shrinkage) is = record {
    repacked = is.repacked;
    records = is.records;
    text = is.text;
    repack = record { input = is.repack.input; has_input = seen_so paths.input _ is.repack.has_input; answers = is.repack.answers; belong = is.repack.belong; bytes_read = is.repack.bytes_read };
    keep_old = is.keep_old;
    left = samples_so shrinkage.was is.left;
    is = is.is;
    fewer = is.fewer;
  }
  refused_before (Misplaced found) is = record { input = is.input; records = is.records; text = is.text; has_input = seen_so paths.input _ is.has_input; is = is.is }
  refused_before (Tool fault) is = record { input = is.input; written = is.written; told = is.told; has_input = seen_so paths.input _ is.has_input; answers = is.answers }
  refused_before ClaimedByAnother is = is
  refused_before Gone is = is
  refused_before Listing is = is

  pub outcome_before : (outcome : DayOutcome) → IsOutcomeThere asked paths outcome mid new → IsOutcomeThere asked paths outcome old new
  outcome_before (Done repacked) is = record {
    records = is.records;
    text = is.text;
    repack = record { input = is.repack.input; has_input = seen_so paths.input _ is.repack.has_input; answers = is.repack.answers; belong = is.repack.belong; bytes_read = is.repack.bytes_read };
    has_records = is.has_records;
    has_report = is.has_report;
    verified = is.verified;
    smaller = is.smaller;
    unshrunk = unshrunk_so repacked is.unshrunk;
  }
  outcome_before Young is = (is.0, untouched_then paths old mid new (still_there paths old mid changes) is.1)
  outcome_before (Same repacked) is = (
    record {
      resume = is.0.resume;
      left = either_before paths asked repacked old mid changes is.0.left;
    },
    untouched_then paths old mid new (still_there paths old mid changes) is.1,
  )
  outcome_before (Refused why) is = (refused_before why is.0, left_so (stays_for asked why) why is.1)

-- of the same names
pub seeks_at : (a b : DayPaths) (asked : DayOptions) (result : Result Found AllocError) (one two : List Step → Type 0) → a ≡ b → Goes one two (SeeksDay a asked result) → Goes one two (SeeksDay b asked result)
seeks_at a b asked result one two same goes = subst (λ (d : DayPaths). Goes one two (SeeksDay d asked result)) same goes

-- the whole day
module _ (input : Path) (files : DayFiles) (was_left : Bool) (asked : DayOptions) where
  beside_later : (old new : List Step) → ChangesFiles [] old new → SeesNoneBeside files old → SeesNoneBeside files new
  beside_later old new changes none = (
    seen_kept [] files.records.part old new tt changes ∙ none.0,
    seen_kept [] files.report.part old new tt changes ∙ none.1,
    seen_kept [] files.stamp.part old new tt changes ∙ none.2,
  )

  -- it is left as it is
  pub day_left : (outcome : DayOutcome) (rest : Left) (one two : List Step → Type 0) → (rest ≡ left.Stamp → ⊥) → Goes one two (SeeksDay (paths_of input files) asked (Ok (Ended outcome)))
      → Goes one two (DoesDay input files was_left asked (record { outcome = Ok outcome; left = rest; is_stored = true }))
  day_left outcome rest one two unstamped goes = goes_as _ _ one two
      (λ p q x. record {
        safe = λ stored is_own is_of names settled own has. own_each files [] (none_empty files) p q x.changes is_own is_of has;
        killed = λ is_own names own has. report_each files [] (none_empty files) p is_own has q x.changes;
        outcome = λ names. x.said;
        stamp = λ waits names settled. absurd (unstamped waits);
        waits = λ waits names. absurd (unstamped waits);
        leaves = λ ok same names shows. shows_kept files [] (none_empty files) p q x.changes shows;
        rest = λ nothing undone names none. beside_later p q x.changes none;
        unstored = λ not. absurd cc;
        changes = changes_more [] (day_paths files) p q (λ n none. tt) x.changes;
      }) goes

  pub day_stopped : (e f : AllocError) (rest : Left) (one two : List Step → Type 0) → (rest ≡ left.Stamp → ⊥) → Goes one two (SeeksDay (paths_of input files) asked (Err e))
      → Goes one two (DoesDay input files was_left asked (record { outcome = Err f; left = rest; is_stored = true }))
  day_stopped e f rest one two unstamped goes = goes_as _ _ one two
      (λ p q x. record {
        safe = λ stored is_own is_of names settled own has. own_each files [] (none_empty files) p q x.changes is_own is_of has;
        killed = λ is_own names own has. report_each files [] (none_empty files) p is_own has q x.changes;
        outcome = λ names. tt;
        stamp = λ waits names settled. absurd (unstamped waits);
        waits = λ waits names. absurd (unstamped waits);
        leaves = λ ok same names shows. absurd cc;
        rest = λ nothing undone names none. beside_later p q x.changes none;
        unstored = λ not. absurd cc;
        changes = changes_more [] (day_paths files) p q (λ n none. tt) x.changes;
      }) goes

  module _ (old mid : List Step) (changes : ChangesFiles [] old mid) where
    settled_later : ShowsAllLeft was_left input files old → ShowsAllLeft was_left input files mid
    settled_later settled = record {
      free = λ left_none unseen. free_kept files [] (none_empty files) old mid changes
          (settled.free left_none (
            sym (seen_kept [] files.records.path old mid tt changes) ∙ unseen.0,
            sym (seen_kept [] files.report.path old mid tt changes) ∙ unseen.1,
            sym (seen_kept [] files.stamp.path old mid tt changes) ∙ unseen.2,
          ));
    }

    own_later : (is_own : (records report : List ℕ) → Bool) → IsOwnOfFile input asked.options is_own old → IsOwnOfFile input asked.options is_own mid
    own_later is_own own bytes records text report has reported = own bytes records text report (sym (seen_kept [] input old mid tt changes) ∙ has) reported

  waits_before : (old mid new : List Step) → ChangesFiles [] old mid → WaitsForStamp input files asked.options mid new → WaitsForStamp input files asked.options old new
  waits_before old mid new changes it = record {
    facts = it.facts;
    looked = looks_kept input old mid (Some it.facts) changes it.looked;
    bytes = it.bytes;
    records = it.records;
    text = it.text;
    report = it.report;
    has_input = sym (seen_kept [] input old mid tt changes) ∙ it.has_input;
    reported = it.reported;
    named = it.named;
    stamp_is = it.stamp_is;
  }

  outcome_known : (result : Result DayOutcome AllocError) (p q r : List Step) → ChangesFiles [] p q
      → IfOk result (λ o. IsOutcomeThere asked (paths_of input files) o q r) → IfOk result (λ o. IsOutcomeThere asked (paths_of input files) o p r)
  outcome_known (Ok o) p q r changes is = outcome_before (paths_of input files) asked p q r changes o is
  outcome_known (Err e) p q r changes is = tt

  -- it is done
  pub day_found : (look : DayLook) (end : DayEnd) (one mid two : List Step → Type 0) → Goes one mid (SeeksDay (paths_of input files) asked (Ok (Open look))) → Goes mid two (DoesFound input look files was_left asked end)
      → Goes one two (DoesDay input files was_left asked end)
  day_found look end one mid two first second = goes_both _ _ _ one mid two
      (λ p q r x y.
      let looked : IsLookedAt (paths_of input files) look q = record { are = day_look_later (paths_of input files) look p q x.changes x.said.0.are; known = x.said.1 } in
      record {
        safe = λ stored is_own is_of names settled own has.
            joined (HasOwn is_own is_of files) p q r (own_each files [] (none_empty files) p q x.changes is_own is_of has)
            (y.safe stored is_own is_of names looked (settled_later p q x.changes settled) (own_later p q x.changes is_own own) (own_kept files [] (none_empty files) p q x.changes is_own is_of has));
        killed = λ is_own names own has.
            joined (HasReport is_own files) p q r (report_each files [] (none_empty files) p is_own has q x.changes)
            (y.killed is_own names looked (own_later p q x.changes is_own own) (report_kept files [] (none_empty files) p is_own has q x.changes));
        outcome = λ names. outcome_known end.outcome p q r x.changes (y.outcome names looked);
        stamp = λ waits names settled.
            let it = y.stamp waits names looked (settled_later p q x.changes settled) in
            record { waits = waits_before p q r x.changes it.waits; unstamped = it.unstamped };
        waits = λ waits names. waits_before p q r x.changes (y.waits waits names looked);
        leaves = λ ok same names shows.
            let few = no_fewer [] p q x.changes in
            let more = no_fewer (day_paths files) q r y.changes in
            y.leaves ok (omega arith) names looked (shows_kept files [] (none_empty files) p q x.changes shows);
        rest = λ nothing undone names none. y.rest nothing undone names;
        unstored = λ not. let few = no_fewer [] p q x.changes in let more = y.unstored not in omega arith;
        changes = changes_then (day_paths files) p q r (changes_more [] (day_paths files) p q (λ n none. tt) x.changes) y.changes;
      }) first second

-- whether both were stored
pub both_true : (a b : Bool) → a && b ≡ true → (a ≡ true) × (b ≡ true)
both_true true true is = (refl, refl)
both_true true false is = absurd cc
both_true false b is = absurd cc

pub one_false : (a b : Bool) → a && b ≡ false → (a ≡ false) ⊎ (b ≡ false)
one_false true b is = inr is
one_false false b is = inl refl
