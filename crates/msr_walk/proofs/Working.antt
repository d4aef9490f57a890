-- What is done within two folders.
use Rattle.std.proofs.Common.{◌≡◌, ◌≢◌, ℕ, codes, inl, inr, ⊎_elim, Bool, true, false, List, [], ◌∷◌, ◌++◌, refl, sym, ◌∙◌, ap, subst, Some, None, Result, Ok, Err}
use Rattle.std.proofs.lemmas.Bool.{cases_Bool}
use Rattle.std.proofs.lemmas.Slice.Eq.{bytes_eq-Decides}
use Rattle.std.specs.List.{AllByRecursion}
use Rattle.std.specs.Str.{bytes_eq}
use Rattle.msr_folders.proofs.WalkedLemmas.{goes_none, goes_so, goes_then}
use Rattle.msr_folders.proofs.WithinLemmas.{root_spares, within_then}
use Rattle.msr_folders.specs.Days.{IsDay}
use Rattle.msr_folders.specs.Entries.{StandsWithin}
use Rattle.msr_folders.specs.Paths.{ended, joined}
use Rattle.msr_folders.specs.Walks.{HoldsAt, VisitDoes}
use Rattle.msr_folders.specs.Within.{ChangesWithin, IsSeparate}
use Rattle.msr_naming.proofs.Names.{seen_ready}
use Rattle.msr_naming.specs.Naming.{AreDayNames, IsOther, day_paths}
use Rattle.msr_naming.specs.Promise.{HasOwn, NamesStamps, ShowsDay, StandInFolders, stamp_paths}
use Rattle.msr_naming.specs.declared.batch.Waiting.{Waiting}
use Rattle.msr_naming.specs.declared.files.DayFiles.{DayFiles}
use Rattle.msr_naming.specs.declared.files.Name.TheVariants.{Records, Report, Stamp}
use Rattle.msr_options.specs.Tasks.{StandApart}
use Rattle.msr_options.specs.declared.task.Archiving.{Archiving}
use Rattle.msr_tree.proofs.Changes.{changes_then, now_kept, same_now, seen_kept}
use Rattle.msr_tree.proofs.Folders.{leaves_does, leaves_none}
use Rattle.msr_tree.proofs.Moments.{at_end, joined as joined_moments}
use Rattle.msr_tree.specs.Calls.{DoesStep, Goes}
use Rattle.msr_tree.specs.Folders.{ChangesFiles, LeavesFolders}
use Rattle.msr_tree.specs.Steps.{AtEachMoment, ChangesOnly, Failed, IsNoneOf, Leaves, Path, Removed, Spares, Step, Throughout, now, seen}
use Rattle.msr_tree.specs.declared.tree.TreeFault.{TreeFault}
use Rattle.msr_tree.specs.declared.tree.TreeFault.TheVariants as fault
use Rattle.msr_walk.proofs.Aside.{overlaps_within, separate}
use Rattle.msr_walk.proofs.DayApart.{day_apart}
use Rattle.msr_walk.proofs.DayPaths.{day_within}
use Rattle.msr_walk.proofs.Endings.{differ}
use Rattle.msr_walk.proofs.Kept.{each_so, keeps_aside}
use Rattle.msr_walk.proofs.OtherDays.{part_apart}
use Rattle.msr_walk.proofs.Spared.{SparesNames, made_spared, made_then, own_as, own_spared, shows_spared}
use Rattle.msr_walk.proofs.Standing.{stand_in}
use Rattle.msr_walk.proofs.Waits.{SameInputs, Waits, all_so, found_waiting, none_of_stamps_by, of_days}
use Rattle.msr_walk.specs.Files.{DayNames, HaveNames, IsStampWithin, LeavesMade, files_of}
use Rattle.msr_walk.specs.Handling.{AreWithin}
use Rattle.msr_walk.specs.Waiting.{ShareNoNames, AreOfDay, AreWaitingAt, IsWaiting, files_waiting}
use Rattle.msr_walk.specs.Kills.{IsOwnOfDay, KeepsReports, day_names_in}
use Rattle.msr_walk.specs.Laws.{days_end, days_none, days_then, input_now, none_failed, own_after, reports_then, rests_none, stamp_later, within_joined}
use Rattle.msr_walk.specs.Losses.{ChangesDays, IsStampOfDay, KeepsDays, RestsDays, SettlesDay}
use Rattle.msr_walk.specs.Told.{SettlesNames, SettlesWaiting, StaysWithin, WorksFor}

-- a name that is in neither folder is no other that is in one of them
apart_from : (folder name other : Path) → StandsWithin folder other → ¬ (StandsWithin folder name) → bytes_eq name other ≡ false
apart_from folder name other is none = elim (cases_Bool (bytes_eq name other)) [
  | inl same ↦ absurd (none (subst (λ p. StandsWithin folder p) (sym ((bytes_eq-Decides name other).0 same)) is))
  | inr differ ↦ differ
]

pub none_of_day : (out reports : Path) (files : DayFiles) (name : Path) → AreWithin out reports files
    → ¬ (StandsWithin out name) → ¬ (StandsWithin reports name) → IsNoneOf name (day_paths files)
none_of_day out reports files name are lacks none = (
  apart_from out name files.records.path are.records lacks,
  (
    apart_from out name files.records.part are.records_part lacks,
    (
      apart_from reports name files.report.path are.report none,
      (
        apart_from reports name files.report.part are.report_part none,
        (apart_from reports name files.stamp.path are.stamp.path none, (apart_from reports name files.stamp.part are.stamp.part none, tt)),
      ),
    ),
  ),
)

pub none_of_stamps : (reports : Path) (days : List DayFiles) (name : Path) → AllByRecursion (IsStampWithin reports) days → ¬ (StandsWithin reports name) → IsNoneOf name (stamp_paths days)
none_of_stamps reports [] name all none = tt
none_of_stamps reports (files ∷ days) name all none = (
  apart_from reports name files.stamp.path all.0.path none,
  (apart_from reports name files.stamp.part all.0.part none, none_of_stamps reports days name all.1 none),
)

-- a report has none of the names of stamps
report_aside : (reports : Path) (days : List DayFiles) (path : Path) → reports ≢ [] → AllByRecursion (IsStampWithin reports) days
    → IsNoneOf (ended (joined reports path) (codes ".txt")) (stamp_paths days)
report_aside reports [] path some all = tt
report_aside reports (files ∷ days) path some all = let apart = all.0.apart some path in (apart.0, (apart.1.0, report_aside reports days path some all.1))

-- a name is taken away
removes_only : {T : Type 0} (path : Path) (result : Result T TreeFault) (old new : List Step) → DoesStep (Removed path) result old new → ChangesOnly (path ∷ []) old new
removes_only path (Ok x) old new does = record { made = Removed path ∷ []; since = does; spares = λ name none. (tt, none.0) }
removes_only path (Err fault.Memory) old new does = record { made = []; since = does; spares = λ name none. tt }
removes_only path (Err fault.Failed) old new does = ⊎_elim
    (λ same. record { made = Failed ∷ []; since = does.2 ∙ ap (λ l. Failed ∷ l) same; spares = λ name none. (tt, refl) })
    (λ done. record { made = Failed ∷ Removed path ∷ []; since = does.2 ∙ ap (λ l. Failed ∷ l) done; spares = λ name none. ((tt, none.0), refl) })
    does.1

module _ (archive : Archiving) where
  abbrev out_of : Path
  out_of = archive.folders.out.now

  abbrev reports_of : Path
  reports_of = archive.folders.reports.now

  abbrev SafeOfAll : (old new : List Step) → Type 0
  SafeOfAll old new = HaveNames out_of reports_of → (path : Path) → IsDay path → SettlesDay archive.days (day_names_in archive path) old new

  -- what waits is settled, and what was made of each day stays
  pub settled_leaves : (But : Path → Type 0) (old new : List Step) → SettlesWaiting archive old new
      → LeavesMade archive.folders.root.now out_of reports_of But old new
  settled_leaves But old new settled = record { each = λ have path day none. (settled.does.safe have path day).stays }

  pub works_none : (goes_on : Bool) (past : List Step) → WorksFor goes_on archive past past
  works_none goes_on past = record { does = days_none archive goes_on past; lists_none = λ none. refl }

  -- the walk goes on, or stops
  pub works_end : (goes_on ends : Bool) (old new : List Step) → (ends ≡ true → goes_on ≡ true) → WorksFor goes_on archive old new → WorksFor ends archive old new
  works_end goes_on ends old new so works = record { does = days_end archive goes_on ends old new so works.does; lists_none = works.lists_none }

  pub settled_works : (goes_on : Bool) (old new : List Step) → SettlesWaiting archive old new → WorksFor goes_on archive old new
  settled_works goes_on old new settled = record {
    does = record {
      within = settled.does.within;
      reports = settled.does.reports;
      safe = record {
        each = λ none have path day.
            let settles = settled.does.safe have path day in
            record { safe = λ number is_own is_of own stamp shows has. settles.safe number is_own is_of own stamp has; shows = λ on. settles.shows };
      };
    };
    lists_none = settled.lists_none;
  }

  -- names within the two folders were changed, and none that is of records or of a report
  settles_by : (names : List Path) (old new : List Step)
      → ((name : Path) → ¬ (StandsWithin out_of name) → ¬ (StandsWithin reports_of name) → IsNoneOf name names)
      → (HaveNames out_of reports_of → (path : Path) → IsDay path → IsNoneOf (day_names_in archive path).records names × IsNoneOf (day_names_in archive path).report names)
      → SafeOfAll old new → ChangesOnly names old new → LeavesFolders old new → SettlesNames archive names old new
  settles_by names old new within aside safe changes leaves = record {
    works = record {
      does = record {
        within = record {
          made = changes.made;
          since = changes.since;
          spares = λ name lacks none. changes.spares name (within name lacks none);
          folders = leaves.folders;
        };
        reports = keeps_aside archive names old new aside changes;
        safe = safe;
      };
      lists_none = λ none. leaves.unlisted;
    };
    only = changes;
  }

  -- none that is of a stamp either
  pub safe_spared : (path : Path) (old new made : List Step) → new ≡ made ++ old → ((number : ℕ) → SparesNames (files_of (day_names_in archive path) number) made)
      → SettlesDay archive.days (day_names_in archive path) old new
  safe_spared path old new made since spares = record {
    safe = λ number is_own is_of own stamp has. own_spared (files_of (day_names_in archive path) number) is_own is_of old new made since (spares number) has;
    shows = λ number shows. shows_spared (files_of (day_names_in archive path) number) old new made since (spares number) shows;
    stays = made_spared (day_names_in archive path) old new made since (spares 0).records (spares 0).report;
  }

  -- no name was
  pub looks_settled : (old new : List Step) → ChangesFiles [] old new → SettlesNames archive [] old new
  looks_settled old new changes = settles_by [] old new (λ name lacks none. tt) (λ have path day. (tt, tt))
      (λ have path day. safe_spared path old new changes.changes.made changes.changes.since
      (λ number. record { records = changes.changes.spares _ tt; report = changes.changes.spares _ tt; stamp = changes.changes.spares _ tt }))
      changes.changes changes.folders

  pub looks_work : (goes_on : Bool) (old new : List Step) → ChangesFiles [] old new → WorksFor goes_on archive old new
  looks_work goes_on old new changes = settled_works goes_on old new (looks_settled old new changes).works

  pub goes_works_none : (goes_on : Bool) (before : List Step → Type 0) → Goes before before (WorksFor goes_on archive)
  goes_works_none goes_on before = goes_none (WorksFor goes_on archive) before (works_none goes_on)

  pub goes_end : (goes_on : Bool) (before after : List Step → Type 0) → Goes before after (WorksFor true archive) → Goes before after (WorksFor goes_on archive)
  goes_end goes_on before after goes = goes_so _ _ before after (λ old new went works. works_end true goes_on old new (λ on. refl) works) goes

  pub settles_waiting : (names : List Path) (before after : List Step → Type 0) → Goes before after (SettlesNames archive names) → Goes before after (SettlesWaiting archive)
  settles_waiting names before after goes = goes_so _ _ before after (λ old new went settles. settles.works) goes

  pub goes_waiting : (goes_on : Bool) (before after : List Step → Type 0) → Goes before after (SettlesWaiting archive) → Goes before after (WorksFor goes_on archive)
  goes_waiting goes_on before after goes = goes_so _ _ before after (λ old new went settles. settled_works goes_on old new settles) goes

  -- between visits
  pub goes_rested : (names : List Path) (before after : List Step → Type 0) → Goes before after (SettlesNames archive names)
      → Goes before after (VisitDoes (RestsDays archive) (Unit {0}))
  goes_rested names before after goes = goes_so _ _ before after (λ old new went settles. record {
    does = record { does = (settled_works true old new settles.works).does; leaves = settled_leaves (λ path. ⊥) old new settles.works };
    lists_none = settles.works.lists_none;
  }) goes

  pub rests_nothing : (before : List Step → Type 0) → Goes before before (VisitDoes (RestsDays archive) (Unit {0}))
  rests_nothing before = goes_none (VisitDoes (RestsDays archive) (Unit {0})) before (λ past. record { does = rests_none archive past; lists_none = λ none. refl })

  pub goes_settled : (goes_on : Bool) (names : List Path) (before after : List Step → Type 0) → Goes before after (SettlesNames archive names) → Goes before after (WorksFor goes_on archive)
  goes_settled goes_on names before after goes = goes_so _ _ before after (λ old new went settles. settled_works goes_on old new settles.works) goes

  pub settles_none : (names : List Path) (past : List Step) → SettlesNames archive names past past
  settles_none names past =
      let looks = looks_settled past past (record { changes = record { made = []; since = refl; spares = λ name none. tt }; folders = leaves_none past }) in
      record { works = looks.works; only = record { made = []; since = refl; spares = λ name none. tt } }

  pub goes_settles_none : (names : List Path) (before : List Step → Type 0) → Goes before before (SettlesNames archive names)
  goes_settles_none names before = goes_none (SettlesNames archive names) before (settles_none names)

  pub goes_waiting_none : (before : List Step → Type 0) → Goes before before (SettlesWaiting archive)
  goes_waiting_none before = settles_waiting [] before before (goes_settles_none [] before)

  -- of more names
  pub goes_settles_more : (few more : List Path) (before after : List Step → Type 0) → ((name : Path) → IsNoneOf name more → IsNoneOf name few)
      → Goes before after (SettlesNames archive few) → Goes before after (SettlesNames archive more)
  goes_settles_more few more before after so goes = goes_so _ _ before after (λ old new went settles. record {
    works = settles.works;
    only = record { made = settles.only.made; since = settles.only.since; spares = λ name none. settles.only.spares name (so name none) };
  }) goes

  module _ (apart : StandApart archive.folders) where
    pub works_then : (goes_on : Bool) (old mid new : List Step) → WorksFor true archive old mid → WorksFor goes_on archive mid new → WorksFor goes_on archive old new
    works_then goes_on old mid new one two = record {
      does = days_then archive (separate archive.folders apart) goes_on old mid new one.does two.does;
      lists_none = λ none. two.lists_none none ∙ one.lists_none none;
    }

    pub goes_works_then : (goes_on : Bool) (before mid after : List Step → Type 0) → Goes before mid (WorksFor true archive) → Goes mid after (WorksFor goes_on archive)
        → Goes before after (WorksFor goes_on archive)
    goes_works_then goes_on before mid after one two = goes_then _ _ _ before mid after (works_then goes_on) one two

    -- the input of a day stays
    pub inputs_same : (old new : List Step) → ChangesWithin out_of reports_of old new → SameInputs archive old new
    inputs_same old new within path = input_now archive (separate archive.folders apart) path old new within

    later_safe : (path : Path) (old mid new : List Step) → ChangesWithin out_of reports_of old mid → SettlesDay archive.days (day_names_in archive path) mid new
        → (is_own : (records report : List ℕ) → Bool) (is_of : (stamp records report : List ℕ) → Bool) (number : ℕ)
        → IsOwnOfDay archive.days (day_names_in archive path).input is_own old → IsStampOfDay archive.days (day_names_in archive path).input is_of old
        → AtEachMoment (HasOwn is_own is_of (files_of (day_names_in archive path) number)) old mid → AtEachMoment (HasOwn is_own is_of (files_of (day_names_in archive path) number)) old new
    later_safe path old mid new within settles is_own is_of number own stamp first =
        let P : List Step → Type 0 = HasOwn is_own is_of (files_of (day_names_in archive path) number) in
        joined_moments P old mid new first (settles.safe number is_own is_of (own_after archive (separate archive.folders apart) path is_own old mid within own)
        (stamp_later archive.days (day_names_in archive path).input is_of old mid (inputs_same old mid within path) stamp) (at_end P old mid first))

    settled_then : (old mid new : List Step) → SettlesWaiting archive old mid → SettlesWaiting archive mid new → SettlesWaiting archive old new
    settled_then old mid new one two = record {
      does = record {
        within = within_then out_of reports_of old mid new one.does.within two.does.within;
        reports = reports_then archive (separate archive.folders apart) old mid new one.does.within one.does.reports two.does.reports;
        safe = λ have path day.
            let first = one.does.safe have path day in
            let second = two.does.safe have path day in
            record {
              safe = λ number is_own is_of own stamp has. later_safe path old mid new one.does.within second is_own is_of number own stamp (first.safe number is_own is_of own stamp has);
              shows = λ number shows. second.shows number (first.shows number shows);
              stays = made_then (day_names_in archive path) old mid new first.stays second.stays;
            };
      };
      lists_none = λ none. two.lists_none none ∙ one.lists_none none;
    }

    pub goes_waiting_then : (before mid after : List Step → Type 0) → Goes before mid (SettlesWaiting archive) → Goes mid after (SettlesWaiting archive)
        → Goes before after (SettlesWaiting archive)
    goes_waiting_then before mid after one two = goes_then _ _ _ before mid after settled_then one two

    -- what waits is settled, whether the walk goes on or not
    pub changes_settled : (goes_on : Bool) (old mid new : List Step) → ChangesDays goes_on archive old mid → SettlesWaiting archive mid new → ChangesDays goes_on archive old new
    changes_settled goes_on old mid new one two = record {
      within = within_then out_of reports_of old mid new one.within two.does.within;
      reports = reports_then archive (separate archive.folders apart) old mid new one.within one.reports two.does.reports;
      safe = record {
        each = λ none have path day.
            let first = one.safe.each (none_failed old mid new one.within.made two.does.within.made one.within.since two.does.within.since none).0 have path day in
            let second = two.does.safe have path day in
            record {
              safe = λ number is_own is_of own stamp shows has. later_safe path old mid new one.within second is_own is_of number own stamp (first.safe number is_own is_of own stamp shows has);
              shows = λ on number shows. second.shows number (first.shows on number shows);
            };
      };
    }

    pub settles_then : (names : List Path) (old mid new : List Step) → SettlesNames archive names old mid → SettlesNames archive names mid new → SettlesNames archive names old new
    settles_then names old mid new one two = record { works = settled_then old mid new one.works two.works; only = changes_then names old mid new one.only two.only }

    pub goes_settles_then : (names : List Path) (before mid after : List Step → Type 0) → Goes before mid (SettlesNames archive names) → Goes mid after (SettlesNames archive names)
        → Goes before after (SettlesNames archive names)
    goes_settles_then names before mid after one two = goes_then _ _ _ before mid after (settles_then names) one two

    -- what stands within the folder of the reports is no day's records
    no_records : (path name : Path) → StandsWithin reports_of name → bytes_eq (joined out_of path) name ≡ false
    no_records path name within = differ _ _ (λ is. apart.outputs (overlaps_within out_of reports_of name (subst (λ p. StandsWithin out_of p) is (within_joined out_of path)) within))

    records_aside : (waiting : List DayFiles) (path : Path) → AllByRecursion (IsStampWithin reports_of) waiting → IsNoneOf (day_names_in archive path).records (stamp_paths waiting)
    records_aside [] path all = tt
    records_aside (files ∷ waiting) path all =
        (no_records path files.stamp.path all.0.path, (no_records path files.stamp.part all.0.part, records_aside waiting path all.1))

    -- the stamps of days are within the folder of the reports
    stamp_within : (files : DayFiles) → AreOfDay archive files → IsStampWithin reports_of files
    stamp_within files of = subst (λ (f : DayFiles). IsStampWithin reports_of f) (sym of.are) ((day_within archive.folders.root.now out_of reports_of of.path of.day).are of.number).stamp

    -- a name beside that of a stamp is taken away
    pub removed_at : {T : Type 0} (files : DayFiles) (path : Path) (result : Result T TreeFault) (before after : List Step → Type 0) → path ≡ files.stamp.part
        → HoldsAt before (λ past. AreOfDay archive files) → Goes before after (DoesStep (Removed path) result) → Goes before after (SettlesNames archive (files.stamp.part ∷ []))
    removed_at files path result before after is of_day goes = goes_so _ _ before after (λ old new went does.
        let of = of_day old went in
        let at : DoesStep (Removed files.stamp.part) result old new = subst (λ p. DoesStep (Removed p) result old new) is does in
        let changes = removes_only files.stamp.part result old new at in
        let aside = λ (have : HaveNames out_of reports_of) (named : Path) (day : IsDay named) (number : ℕ).
        part_apart archive.folders apart have named of.path day of.day number of.number in
        let here = λ (name : Path) (none : bytes_eq name (files_of (day_names_in archive of.path) of.number).stamp.part ≡ false).
        subst (λ (f : DayFiles). IsNoneOf name (f.stamp.part ∷ [])) (sym of.are) (none, tt) in
        settles_by (files.stamp.part ∷ []) old new (λ name lacks none. (apart_from reports_of name files.stamp.part (stamp_within files of).part none, tt))
        (λ have named day. let apart = aside have named day 0 in (here _ apart.0, here _ apart.1))
        (λ have named day. safe_spared named old new changes.made changes.since (λ number. let apart = aside have named day number in record {
          records = changes.spares _ (here _ apart.0);
          report = changes.spares _ (here _ apart.1);
          stamp = changes.spares _ (here _ apart.2);
        }))
        changes (leaves_does (Removed files.stamp.part) result old new tt at)) goes

    -- stamps get their names
    module _ (folder : Path) (days : List DayFiles) (result : Result (Unit {0}) TreeFault) (old new : List Step) (wait : AllByRecursion (λ files. IsWaiting archive folder files old) days)
        (apart_days : HaveNames out_of reports_of → ShareNoNames days) (names : NamesStamps (joined out_of folder) (joined reports_of folder) days result old new) where
      abbrev within_all : AllByRecursion (IsStampWithin reports_of) days
      within_all = all_so (AreOfDay archive) (IsStampWithin reports_of) days stamp_within (of_days archive folder days old wait)

      spared_by : (path : Path) (number : ℕ) → AllByRecursion (λ files. (number : ℕ) → IsOther (files_of (day_names_in archive path) number) files) days
          → SparesNames (files_of (day_names_in archive path) number) names.changes.changes.made
      spared_by path number none =
          let files = files_of (day_names_in archive path) number in
          let others = all_so _ (λ other. IsOther files other) days (λ other apart. apart number) none in
          record {
            records = names.changes.changes.spares files.records.path (none_of_stamps_by files Records days others);
            report = names.changes.changes.spares files.report.path (none_of_stamps_by files Report days others);
            stamp = names.changes.changes.spares files.stamp.path (none_of_stamps_by files Stamp days others);
          }

      module _ (have : HaveNames out_of reports_of) (path : Path) (day : IsDay path) (number : ℕ) (found : Waits archive folder path days old) where
        abbrev its : DayNames
        its = day_names_in archive path

        abbrev files : DayFiles
        files = found.files

        stamped_safe : (is_own : (records report : List ℕ) → Bool) (is_of : (stamp records report : List ℕ) → Bool) → IsStampOfDay archive.days its.input is_of old
            → HasOwn is_own is_of (files_of its number) old → AtEachMoment (HasOwn is_own is_of (files_of its number)) old new
        stamped_safe is_own is_of stamp has =
            let w = found.waits in
            let waits = w.waits have in
            let are : AreDayNames files = subst (λ (f : DayFiles). AreDayNames f) (sym w.are) ((day_apart archive.folders path apart have day).are w.number).names in
            let stand : StandInFolders (joined out_of folder) (joined reports_of folder) files =
            subst (λ (f : DayFiles). StandInFolders (joined out_of folder) (joined reports_of folder) f) (sym w.are)
            (subst (λ (p : Path). StandInFolders (joined out_of p) (joined reports_of p) (files_of its w.number)) found.beside (stand_in path day archive.folders apart have w.number)) in
            let whole = stamp.of w.asked w.for_day waits.facts waits.bytes waits.records waits.text waits.report waits.looked waits.has_input waits.reported in
            let had : HasOwn is_own is_of files old = subst (λ (f : DayFiles). HasOwn is_own is_of f old) (sym w.are) (own_as is_own is_of its number w.number old has) in
            let kept = names.safe is_own is_of files _ waits.records waits.text are stand found.one (record { named = waits.named; stamp_is = waits.stamp_is }) whole had in
            each_so (HasOwn is_own is_of files) (HasOwn is_own is_of (files_of its number))
            (λ past has. own_as is_own is_of its w.number number past (subst (λ (f : DayFiles). HasOwn is_own is_of f past) w.are has)) old new kept

        stamped_shows : ShowsDay (files_of its number) old → ShowsDay (files_of its number) new
        stamped_shows shows =
            let w = found.waits in
            let waits = w.waits have in
            let seen_old : seen old its.records ≡ Some waits.records = subst (λ (f : DayFiles). seen old f.records.path ≡ Some waits.records) w.are (seen_ready old files.records.path waits.records waits.named.records_are) in
            let seen_new : seen new its.records ≡ Some waits.records = seen_kept (stamp_paths days) its.records old new (records_aside days path within_all) names.changes.changes ∙ seen_old in
            let unseen : seen old its.stamp ≡ None = subst (λ (f : DayFiles). seen old f.stamp.path ≡ None) w.are waits.named.unseen in
            record {
              free = λ none. let gone : Some waits.records ≡ None = sym seen_new ∙ none.0 in absurd cc;
              unstamped = λ gone. subst (λ (f : DayFiles). Leaves new f.stamp.path None) w.are
                  (names.unstamped files found.one (subst (λ (f : DayFiles). Leaves old f.stamp.path None) (sym w.are) (shows.unstamped unseen))
                  (subst (λ (f : DayFiles). seen new f.stamp.path ≡ None) (sym w.are) gone));
            }

      pub stamps_settle : SettlesNames archive (stamp_paths days) old new
      stamps_settle = settles_by (stamp_paths days) old new
          (λ name lacks none. none_of_stamps reports_of days name within_all none)
          (λ have path day. (records_aside days path within_all, report_aside reports_of days path have.reports_some within_all))
          (λ have path day. record {
            safe = λ number is_own is_of own stamp has. ⊎_elim
                (λ found. stamped_safe have path day number found is_own is_of stamp has)
                (λ none. own_spared (files_of (day_names_in archive path) number) is_own is_of old new names.changes.changes.made names.changes.changes.since (spared_by path number none) has)
                (found_waiting archive apart have folder path day days old wait (apart_days have));
            shows = λ number shows. ⊎_elim
                (λ found. stamped_shows have path day number found shows)
                (λ none. shows_spared (files_of (day_names_in archive path) number) old new names.changes.changes.made names.changes.changes.since (spared_by path number none) shows)
                (found_waiting archive apart have folder path day days old wait (apart_days have));
            stays = record {
              records = now_kept (stamp_paths days) _ old new (records_aside days path within_all) names.changes.changes;
              report = now_kept (stamp_paths days) _ old new (report_aside reports_of days path have.reports_some within_all) names.changes.changes;
            };
          })
          names.changes.changes names.changes.folders

    pub stamps_work : {C : Type 0} (folder at_out at_reports : Path) (days : List (Waiting C)) (result : Result (Unit {0}) TreeFault) (before after : List Step → Type 0)
        → AreWaitingAt before archive folder days → Goes before after (NamesStamps at_out at_reports (files_waiting days) result)
        → at_out ≡ joined out_of folder → at_reports ≡ joined reports_of folder
        → Goes before after (SettlesNames archive (stamp_paths (files_waiting days)))
    stamps_work folder at_out at_reports days result before after wait goes out_is reports_is = goes_so _ _ before after (λ old new went names.
        let waiting = wait old went in
        stamps_settle folder (files_waiting days) result old new waiting.each waiting.apart
        (subst (λ p. NamesStamps (joined out_of folder) p (files_waiting days) result old new) reports_is (subst (λ p. NamesStamps p at_reports (files_waiting days) result old new) out_is names))) goes

-- what holds at each moment so far still does
pub held_after : (Holds : Type 0) (Does : (old new : List Step) → Type 0) (before after : List Step → Type 0) → Goes before after Does
    → HoldsAt before (λ past. Holds) → HoldsAt after (λ past. Holds)
held_after Holds Does before after goes held new went = let sooner = goes.from new went in held sooner.0 sooner.1

module _ (root out reports : Path) (apart : IsSeparate root out reports) where
  stays_made : (old made : List Step) → ((name : Path) → StandsWithin root name → Spares name made)
      → Throughout (λ past. (name : Path) → StandsWithin root name → now past name ≡ now old name) old made
  stays_made old [] spares = λ name within. refl
  stays_made old (step ∷ made) spares = (
    stays_made old made (λ name within. (spares name within).0),
    λ name within. same_now name old (step ∷ made) (spares name within),
  )

  root_stays : (old new : List Step) → ChangesWithin out reports old new → StaysWithin root old new
  root_stays old new changes = record {
    each = record {
      made = changes.made;
      since = changes.since;
      holds = stays_made old changes.made (λ name within. root_spares out reports root apart name old new changes within);
    };
  }

pub goes_stays : (archive : Archiving) → StandApart archive.folders → (goes_on : Bool) (before after : List Step → Type 0) → Goes before after (ChangesDays goes_on archive)
    → Goes before after (StaysWithin archive.folders.root.now)
goes_stays archive apart goes_on before after goes = goes_so _ _ before after
    (λ old new went changes. root_stays archive.folders.root.now archive.folders.out.now archive.folders.reports.now (separate archive.folders apart) old new changes.within) goes

pub goes_keeps : (archive : Archiving) (goes_on : Bool) (before after : List Step → Type 0) → Goes before after (ChangesDays goes_on archive) → Goes before after (KeepsReports archive)
goes_keeps archive goes_on before after goes = goes_so _ _ before after (λ old new went changes. changes.reports) goes

pub goes_safe : (archive : Archiving) (goes_on : Bool) (before after : List Step → Type 0) → Goes before after (ChangesDays goes_on archive) → Goes before after (KeepsDays goes_on archive)
goes_safe archive goes_on before after goes = goes_so _ _ before after (λ old new went changes. changes.safe) goes

-- whether it went on or not
pub goes_ended : (archive : Archiving) (goes_on : Bool) (before after : List Step → Type 0) → Goes before after (ChangesDays goes_on archive) → Goes before after (ChangesDays false archive)
goes_ended archive goes_on before after goes = goes_so _ _ before after (λ old new went changes. days_end archive goes_on false old new (λ on. cc) changes) goes
