-- The laws of the walker's visits. They are proved here, since an `impl` can cite nothing else of its own crate.
use Rattle.std.proofs.Common.{◌≡◌, ◌≤◌, inl, inr, ℕ, Bool, true, false, List, [], ◌∷◌, ◌++◌, refl, sym, ◌∙◌, ap, subst, arith, IfSome, IsSomeAnd, length, option_map}
use Rattle.std.specs.List.{AllByRecursion}
use Rattle.msr_folders.proofs.WithinLemmas.{root_spares, within_laws, within_none, within_then, within_unlisted}
use Rattle.msr_folders.specs.Entries.{StandsWithin}
use Rattle.msr_folders.specs.Paths.{joined}
use Rattle.msr_folders.specs.Visits.{StopsAt, TellsInPart, TellsThese}
use Rattle.msr_folders.specs.Walks.{VisitLaws}
use Rattle.msr_folders.specs.Within.{ChangesWithin, IsSeparate}
use Rattle.msr_naming.specs.Promise.{HasOwn, HasReport}
use Rattle.msr_making.specs.Making.{WaitsForStamp}
use Rattle.msr_naming.specs.declared.batch.Waiting.{Waiting}
use Rattle.msr_naming.specs.declared.files.DayFiles.{DayFiles}
use Rattle.msr_options.specs.Choice.{Choice}
use Rattle.msr_options.specs.declared.days.DayOptions.{DayOptions}
use Rattle.msr_options.specs.declared.task.Archiving.{Archiving}
use Rattle.msr_tree.proofs.Acting.{more_fail}
use Rattle.msr_tree.proofs.Changes.{same_now}
use Rattle.msr_tree.proofs.Moments.{at_end, joined as joined_moments}
use Rattle.msr_tree.specs.Calls.{IsFoundAs}
use Rattle.msr_tree.specs.Steps.{AtEachMoment, Failed, IsReady, Path, Spares, Step, Throughout, Unlisted, failures, now, seen}
use Rattle.msr_tree.specs.declared.facts.Facts.{Facts}
use Rattle.msr_walk.specs.Files.{files_of}
use Rattle.msr_walk.specs.Waiting.{AreWaiting, IsWaiting, files_waiting}
use Rattle.msr_walk.specs.Kills.{IsOwnOfDay, KeepsReports, day_names_in}
use Rattle.msr_walk.specs.Losses.{ChangesDays, IsStampOfDay, KeepsDays, RestsDays}

pub seen_as : (name : Path) (old new : List Step) → now new name ≡ now old name → seen new name ≡ seen old name
seen_as name old new same = ap (λ found. option_map (λ file. file.bytes) found) same

-- neither name changes
module _ (is_own : (records report : List ℕ) → Bool) (files : DayFiles) where
  still_own : (old new : List Step) → now new files.records.path ≡ now old files.records.path → now new files.report.path ≡ now old files.report.path
      → HasReport is_own files old → HasReport is_own files new
  still_own old new records report has = record {
    report = subst (λ (x : _). IfSome x (λ r. IsSomeAnd (seen new files.report.path) (λ p. is_own r p ≡ true))) (sym (seen_as files.records.path old new records))
        (subst (λ (y : _). IfSome (seen old files.records.path) (λ r. IsSomeAnd y (λ p. is_own r p ≡ true))) (sym (seen_as files.report.path old new report)) has.report);
  }

  spared_made : (old made : List Step) → Spares files.records.path made → Spares files.report.path made → HasReport is_own files old
      → Throughout (HasReport is_own files) old made
  spared_made old [] records report has = has
  spared_made old (step ∷ made) records report has = (
    spared_made old made records.0 report.0 has,
    still_own old (step ∷ made ++ old) (same_now files.records.path old (step ∷ made) records) (same_now files.report.path old (step ∷ made) report) has,
  )

  pub spared : (old new made : List Step) → new ≡ made ++ old → Spares files.records.path made → Spares files.report.path made → HasReport is_own files old
      → AtEachMoment (HasReport is_own files) old new
  spared old new made since records report has = record { made = made; since = since; holds = spared_made old made records report has }

own_later : (days : DayOptions) (input : Path) (is_own : (records report : List ℕ) → Bool) (old new : List Step) → seen new input ≡ seen old input
    → IsOwnOfDay days input is_own old → IsOwnOfDay days input is_own new
own_later days input is_own old new same own = record { own = λ asked for_day bytes records text report has reported. own.own asked for_day bytes records text report (sym same ∙ has) reported }

-- a look at a name that leads to what it led to
pub found_as : (name : Path) (old new : List Step) (facts : Facts) → now new name ≡ now old name → IsFoundAs name new facts → IsFoundAs name old facts
found_as name old new facts same found = record {
  regular = λ is. subst (λ (n : _). IsSomeAnd n (λ file. facts.bytes ≡ length file.bytes)) same (found.regular is);
  other = λ is. sym same ∙ found.other is;
}

pub stamp_later : (days : DayOptions) (input : Path) (is_of : (stamp records report : List ℕ) → Bool) (old new : List Step) → now new input ≡ now old input
    → IsStampOfDay days input is_of old → IsStampOfDay days input is_of new
stamp_later days input is_of old new same stamp = record {
  of = λ asked for_day facts bytes records text report looked has reported.
      stamp.of asked for_day facts bytes records text report (found_as input old new facts same looked) (sym (seen_as input old new same) ∙ has) reported;
}

-- no call failed of those until then, nor of those after
pub none_failed : (old mid new one two : List Step) → mid ≡ one ++ old → new ≡ two ++ mid → failures new ≡ failures old → (failures mid ≡ failures old) × (failures new ≡ failures mid)
none_failed old mid new one two first second none =
    let few : failures old ≤ failures mid = subst (λ (l : List Step). failures old ≤ failures l) (sym first) (more_fail old one) in
    let more : failures mid ≤ failures new = subst (λ (l : List Step). failures mid ≤ failures l) (sym second) (more_fail mid two) in
    (omega arith, omega arith)

pub within_joined : (folder path : Path) → StandsWithin folder (joined folder path)
within_joined [] path = inl refl
within_joined (f ∷ folder) [] = inl refl
within_joined (f ∷ folder) (p ∷ path) = inr (p ∷ path, refl)

module _ (archive : Archiving) where
  abbrev root : Path
  root = archive.folders.root.now

  abbrev out : Path
  out = archive.folders.out.now

  abbrev reports : Path
  reports = archive.folders.reports.now

  pub reports_none : (past : List Step) → KeepsReports archive past past
  reports_none past = record { each = λ have path day. record { each = λ number is_own own has. record { made = []; since = refl; holds = has } } }

  pub days_none : (goes_on : Bool) (past : List Step) → ChangesDays goes_on archive past past
  days_none goes_on past = record {
    within = within_none out reports past;
    reports = reports_none past;
    safe = record {
      each = λ none have path day. record {
        safe = λ number is_own is_of own stamp shows has. record { made = []; since = refl; holds = has };
        shows = λ on number shows. shows;
      };
    };
  }

  -- a call that failed
  pub days_unlisted : (goes_on : Bool) (past : List Step) (place : Path) → ChangesDays goes_on archive past (Failed ∷ Unlisted place ∷ past)
  days_unlisted goes_on past place = record {
    within = within_unlisted out reports past place;
    reports = record {
      each = λ have path day. record {
        each = λ number is_own own has. spared is_own (files_of (day_names_in archive path) number) past (Failed ∷ Unlisted place ∷ past) (Failed ∷ Unlisted place ∷ []) refl
            ((tt, refl), refl) ((tt, refl), refl) has;
      };
    };
    safe = record { each = λ none. absurd (omega (arith, none)) };
  }

  -- the walk may stop after it
  pub days_end : (goes_on ends : Bool) (old new : List Step) → (ends ≡ true → goes_on ≡ true) → ChangesDays goes_on archive old new → ChangesDays ends archive old new
  days_end goes_on ends old new so changes = record {
    within = changes.within;
    reports = changes.reports;
    safe = record {
      each = λ none have path day.
          let keeps = changes.safe.each none have path day in
          record { safe = keeps.safe; shows = λ on. keeps.shows (so on) };
    };
  }

  module _ (apart : IsSeparate root out reports) where
    pub input_now : (path : Path) (old new : List Step) → ChangesWithin out reports old new → now new (joined root path) ≡ now old (joined root path)
    input_now path old new changes = ap (λ l. now l (joined root path)) changes.since
        ∙ same_now (joined root path) old changes.made (root_spares out reports root apart (joined root path) old new changes (within_joined root path))

    pub own_after : (path : Path) (is_own : (records report : List ℕ) → Bool) (old new : List Step) → ChangesWithin out reports old new
        → IsOwnOfDay archive.days (joined root path) is_own old → IsOwnOfDay archive.days (joined root path) is_own new
    own_after path is_own old new changes own =
        own_later archive.days (joined root path) is_own old new (seen_as (joined root path) old new (input_now path old new changes)) own

    pub reports_then : (old mid new : List Step) → ChangesWithin out reports old mid → KeepsReports archive old mid → KeepsReports archive mid new → KeepsReports archive old new
    reports_then old mid new within one two = record {
      each = λ have path day. record {
        each = λ number is_own own has.
            let K : List Step → Type 0 = HasReport is_own (files_of (day_names_in archive path) number) in
            let first = (one.each have path day).each number is_own own has in
            joined_moments K old mid new first ((two.each have path day).each number is_own (own_after path is_own old mid within own) (at_end K old mid first));
      };
    }

    safe_then : (goes_on : Bool) (old mid new : List Step) → ChangesDays true archive old mid → ChangesDays goes_on archive mid new → KeepsDays goes_on archive old new
    safe_then goes_on old mid new one two = record {
      each = λ none have path day.
          let parts = none_failed old mid new one.within.made two.within.made one.within.since two.within.since none in
          let sooner = one.safe.each parts.0 have path day in
          let later = two.safe.each parts.1 have path day in
          record {
            safe = λ number is_own is_of own stamp shows has.
                let P : List Step → Type 0 = HasOwn is_own is_of (files_of (day_names_in archive path) number) in
                let first = sooner.safe number is_own is_of own stamp shows has in
                joined_moments P old mid new first
                (later.safe number is_own is_of (own_after path is_own old mid one.within own)
                (stamp_later archive.days (joined root path) is_of old mid (input_now path old mid one.within) stamp) (sooner.shows refl number shows) (at_end P old mid first));
            shows = λ on number shows. later.shows on number (sooner.shows refl number shows);
          };
    }

    pub days_then : (goes_on : Bool) (old mid new : List Step) → ChangesDays true archive old mid → ChangesDays goes_on archive mid new → ChangesDays goes_on archive old new
    days_then goes_on old mid new one two = record {
      within = within_then out reports old mid new one.within two.within;
      reports = reports_then old mid new one.within one.reports two.reports;
      safe = safe_then goes_on old mid new one two;
    }

-- between visits
module _ (archive : Archiving) where
  pub rests_none : (past : List Step) → RestsDays archive past past
  rests_none past = record {
    does = days_none archive true past;
    leaves = record { each = λ have path day none. record { records = refl; report = refl } };
  }

  pub rests_unlisted : (past : List Step) (place : Path) → RestsDays archive past (Failed ∷ Unlisted place ∷ past)
  rests_unlisted past place = record {
    does = days_unlisted archive true past place;
    leaves = record { each = λ have path day none. record { records = refl; report = refl } };
  }

  pub rests_then : IsSeparate archive.folders.root.now archive.folders.out.now archive.folders.reports.now → (old mid new : List Step)
      → RestsDays archive old mid → RestsDays archive mid new → RestsDays archive old new
  rests_then apart old mid new one two = record {
    does = days_then archive apart true old mid new one.does two.does;
    leaves = record {
      each = λ have path day none.
          let sooner = one.leaves.each have path day none in
          let later = two.leaves.each have path day none in
          record { records = later.records ∙ sooner.records; report = later.report ∙ sooner.report };
    };
  }

-- a folder that gives no list leaves what waits
module _ (place : Path) where
  abbrev noted : List Step → List Step
  noted past = Failed ∷ Unlisted place ∷ past

  ready_listed : (name : Path) (bytes : List ℕ) (past : List Step) → IsReady name bytes past → IsReady name bytes (noted past)
  ready_listed name bytes past ready = record { file = ready.file; leads = ready.leads; has = ready.has; stored = ready.stored }

  waits_listed : (input : Path) (files : DayFiles) (choice : Choice) (past : List Step) → WaitsForStamp input files choice past past
      → WaitsForStamp input files choice (noted past) (noted past)
  waits_listed input files choice past waits = record {
    facts = waits.facts;
    looked = record { regular = waits.looked.regular; other = waits.looked.other };
    bytes = waits.bytes;
    records = waits.records;
    text = waits.text;
    report = waits.report;
    has_input = waits.has_input;
    reported = waits.reported;
    named = record {
      records_are = ready_listed files.records.path _ past waits.named.records_are;
      report_is = ready_listed files.report.path _ past waits.named.report_is;
      unseen = waits.named.unseen;
    };
    stamp_is = ready_listed files.stamp.part _ past waits.stamp_is;
  }

  each_listed : (archive : Archiving) (folder : Path) (list : List DayFiles) (past : List Step) → AllByRecursion (λ files. IsWaiting archive folder files past) list
      → AllByRecursion (λ files. IsWaiting archive folder files (noted past)) list
  each_listed archive folder [] past all = tt
  each_listed archive folder (files ∷ list) past all =
      let waits = all.0.waits in (
        record {
          path = all.0.path;
          day = all.0.day;
          beside = all.0.beside;
          waits = record {
            number = waits.number;
            are = waits.are;
            asked = waits.asked;
            for_day = waits.for_day;
            waits = λ have. waits_listed (day_names_in archive all.0.path).input files waits.asked.options past (waits.waits have);
          };
        },
        each_listed archive folder list past all.1,
      )

  pub waiting_listed : {C : Type 0} (archive : Archiving) (folder : Path) (days : List (Waiting C)) (past : List Step) → AreWaiting archive folder days past
      → AreWaiting archive folder days (noted past)
  waiting_listed archive folder days past wait = record { each = each_listed archive folder (files_waiting days) past wait.each; apart = wait.apart }

-- the laws of a visitor of days
pub days_laws : {V E T : Type 0} (is_entry : V → E → Type 0) (is_line : V → E → List ℕ → Type 0) (is_tally : List E → T → Type 0)
    (archive : V → Archiving) → ((visitor : V) → IsSeparate (archive visitor).folders.root.now (archive visitor).folders.out.now (archive visitor).folders.reports.now) →
    VisitLaws {V = V} {L = E} {T = T} (λ visitor. TellsThese (is_entry visitor) (is_line visitor) is_tally)
    (λ visitor out0 out. StopsAt (TellsInPart (is_entry visitor) (is_line visitor) out0 out) out0 out)
    (λ visitor goes_on. ChangesDays goes_on (archive visitor)) (λ visitor. RestsDays (archive visitor))
days_laws is_entry is_line is_tally archive separate =
    let laws = within_laws is_entry is_line is_tally (λ visitor. (archive visitor).folders.out.now) (λ visitor. (archive visitor).folders.reports.now) in
    record {
      calm = laws.calm;
      none = laws.none;
      more = laws.more;
      refused = laws.refused;
      later = laws.later;
      still = λ visitor. days_none (archive visitor) true;
      onward = λ visitor. days_then (archive visitor) (separate visitor);
      ends = λ visitor old new changes. days_end (archive visitor) true false old new (λ on. refl) changes;
      rests = λ visitor. rests_none (archive visitor);
      rests_on = λ visitor. rests_then (archive visitor) (separate visitor);
      resting = λ visitor old new rests. rests.does;
      unlisted = λ visitor. rests_unlisted (archive visitor);
    }
