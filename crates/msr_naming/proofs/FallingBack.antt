-- What is kept of a day, and done, where a folder may not be stored.
use Rattle.std.proofs.Common.{◌≡◌, inl, ℕ, Bool, true, false, List, [], ◌∷◌, ◌++◌, map, reverse, refl, sym, subst, ◌∙◌, ap, Result, Ok, Err, OnOk, Some, None, arith}
use Rattle.msr_tree.specs.Calls.{Goes}
use Rattle.msr_tree.specs.Folders.{ChangesFiles}
use Rattle.msr_tree.specs.Steps.{IsReady, Path, Removed, Step, seen}
use Rattle.msr_tree.specs.declared.tree.TreeFault.{TreeFault}
use Rattle.msr_tree.specs.declared.tree.TreeFault.TheVariants as fault
use Rattle.msr_tree.proofs.Acting.{goes_as}
use Rattle.msr_tree.proofs.Changes.{ready_renamed}
use Rattle.msr_tree.proofs.Filing.{changes_then, no_fewer, ready_kept, seen_kept}
use Rattle.msr_tree.proofs.Moments.{at_end, joined}
use Rattle.msr_naming.specs.declared.fallback.Naming.{Naming}
use Rattle.msr_naming.specs.declared.files.DayFiles.{DayFiles}
use Rattle.msr_naming.specs.declared.naming.Act.{Act}
use Rattle.msr_naming.specs.declared.naming.Stopped.{Stopped}
use Rattle.msr_naming.specs.declared.naming.Act.TheVariants.{Remove, Store, Rename}
use Rattle.msr_naming.specs.declared.files.Name.TheVariants.{Records, RecordsPart, Report, ReportPart, Stamp}
use Rattle.msr_naming.specs.Following.{FallsBack, FollowsPlan, FollowsPlanIf, last_acts, over_gone_acts, over_report_acts, report_acts, unstored_acts}
use Rattle.msr_naming.specs.Naming.{AreDayNames, Performs, act_step, day_paths, told}
use Rattle.msr_naming.specs.Promise.{AreNamed, AreReady, ClearsDay, GivesNames, HasReport, HaveDayNames, IsFree, IsFreeIf, IsUnseenIf, KeepsShown, NamesDay, SeesNames, SeesNone, ShowsDay, StoresNames}
use Rattle.msr_naming.proofs.Changed.{only_named, only_some}
use Rattle.msr_naming.proofs.Kills as kill
use Rattle.msr_naming.proofs.Names.{no_stamp_left, not_renamed, ready_gone, ready_still, removed_unseen, seen_nothing, seen_ready, seen_still}
use Rattle.msr_naming.proofs.Plan.{does_some, doing, goes_later, goes_stopped, stopping, stops_first, then_later}
use Rattle.msr_naming.proofs.Promises.{clear_acts, clear_keeps, clear_killed, day_acts, day_keeps, day_killed, gone, new_acts, new_day_keeps, new_day_killed, one, report_named, two}

when_ok : {P : Type 0} {Q : Type 0} (result : Result (Unit {0}) TreeFault) → (P → Q) → OnOk result P → OnOk result Q
when_ok (Ok x) so is = so is
when_ok (Err why) so is = tt

-- what has its names is seen, and its stamp cannot come back
shows_named : (files : DayFiles) (r p : List ℕ) (past : List Step) → AreNamed files r p past → ShowsDay files past
shows_named files r p past named = record {
  free = λ none.
      let gone = none.0 in
      let has = seen_ready past files.records.path r named.records_are in
      absurd (cc);
  unstamped = λ unseen. named.unstamped;
}

-- the old stamp and the old records go
abbrev pub gone_acts : List Act
gone_acts = Remove Stamp ∷ Store Report ∷ Remove Records ∷ Store Records ∷ []

abbrev pub before_acts : List Act
before_acts = Remove Stamp ∷ Store Report ∷ Remove Records ∷ Store Records ∷ Rename ReportPart Report ∷ []

abbrev pub rest_acts : List Act
rest_acts = Remove Stamp ∷ Remove Records ∷ Remove Report ∷ []

abbrev pub stopped : Result (Unit {0}) TreeFault
stopped = Err fault.Failed

module _ (files : DayFiles) where
  -- what is beside the names stays while the old stamp and the old records go
  parts_kept : (are : AreDayNames files) (r p : List ℕ) (result : Result (Unit {0}) TreeFault) (old mid : List Step) → Performs (map (act_step files) gone_acts) result old mid → AreReady files r p old → AreReady files r p mid
  parts_kept are r p result old mid performs ready =
      let names : List Path = files.stamp.path ∷ files.records.path ∷ [] in
      let changes = only_some names (map (act_step files) gone_acts) old mid (λ name none. ((((tt, refl), none.1.0), refl), none.0)) (tt, (tt, (tt, (tt, tt)))) performs.some in
      record {
        records_are = ready_kept names files.records.part r old mid (are.apart RecordsPart Stamp refl, (are.apart RecordsPart Records refl, tt)) changes ready.records_are;
        report_is = ready_kept names files.report.part p old mid (are.apart ReportPart Stamp refl, (are.apart ReportPart Records refl, tt)) changes ready.report_is;
      }

  module _ (are : AreDayNames files) (r p : List ℕ) where
    -- the records get their name where the report has its own
    sees_last : (past : List Step) → IsReady files.report.path p past → IsReady files.records.part r past
        → (seen (two files are r p ∷ past) files.records.path ≡ Some r) × (seen (two files are r p ∷ past) files.report.path ≡ Some p)
    sees_last past report records = (
      seen_ready (two files are r p ∷ past) files.records.path r (ready_renamed files.records.part files.records.path r past records),
      seen_ready (two files are r p ∷ past) files.report.path p (ready_still (two files are r p) past files.report.path p (not_renamed files.records.part files.records.path files.report.path (are.apart Report Records refl) (are.apart Report RecordsPart refl)) report),
    )

    sees_anew : (past : List Step) → AreReady files r p past
        → (seen (two files are r p ∷ one files are r p ∷ past) files.records.path ≡ Some r) × (seen (two files are r p ∷ one files are r p ∷ past) files.report.path ≡ Some p)
    sees_anew past ready = let named = report_named files are r p past ready in sees_last (one files are r p ∷ past) named.1 named.2

    -- they are on the disk then, and no stamp is seen that was not
    has_last : (past : List Step) → IsReady files.report.path p past → IsReady files.records.part r past → seen past files.stamp.path ≡ None → HaveDayNames files r p (two files are r p ∷ past)
    has_last past report records unseen = record {
      records_are = ready_renamed files.records.part files.records.path r past records;
      report_is = ready_still (two files are r p) past files.report.path p (not_renamed files.records.part files.records.path files.report.path (are.apart Report Records refl) (are.apart Report RecordsPart refl)) report;
      unseen = seen_still (two files are r p) past files.stamp.path (not_renamed files.records.part files.records.path files.stamp.path (are.apart Stamp Records refl) (are.apart Stamp RecordsPart refl)) ∙ unseen;
    }

    unseen_then : (past : List Step) → seen past files.stamp.path ≡ None → seen (one files are r p ∷ past) files.stamp.path ≡ None
    unseen_then past unseen = seen_still (one files are r p) past files.stamp.path (not_renamed files.report.part files.report.path files.stamp.path (are.apart Stamp Report refl) (are.apart Stamp ReportPart refl)) ∙ unseen

    has_anew : (past : List Step) → AreReady files r p past → seen past files.stamp.path ≡ None → HaveDayNames files r p (two files are r p ∷ one files are r p ∷ past)
    has_anew past ready unseen = let named = report_named files are r p past ready in has_last (one files are r p ∷ past) named.1 named.2 (unseen_then past unseen)

    -- what is beside the names stays while the old ones go at once
    ready_removed : (mid : List Step) → AreReady files r p mid → AreReady files r p (Removed files.records.path ∷ Removed files.stamp.path ∷ mid)
    ready_removed mid ready =
        let l1 = Removed files.stamp.path ∷ mid in
        record {
          records_are = ready_still (Removed files.records.path) l1 files.records.part r (are.apart RecordsPart Records refl) (ready_still (Removed files.stamp.path) mid files.records.part r (are.apart RecordsPart Stamp refl) ready.records_are);
          report_is = ready_still (Removed files.records.path) l1 files.report.part p (are.apart ReportPart Records refl) (ready_still (Removed files.stamp.path) mid files.report.part p (are.apart ReportPart Stamp refl) ready.report_is);
        }

    has_unstored : (mid : List Step) → AreReady files r p mid → HaveDayNames files r p (two files are r p ∷ one files are r p ∷ Removed files.records.path ∷ Removed files.stamp.path ∷ mid)
    has_unstored mid ready =
        let l1 = Removed files.stamp.path ∷ mid in
        has_anew (Removed files.records.path ∷ l1) (ready_removed mid ready)
        (seen_still (Removed files.records.path) l1 files.stamp.path (are.apart Stamp Records refl) ∙ removed_unseen files.stamp.path mid)

    sees_unstored : (mid : List Step) → AreReady files r p mid
        → (seen (two files are r p ∷ one files are r p ∷ Removed files.records.path ∷ Removed files.stamp.path ∷ mid) files.records.path ≡ Some r)
        × (seen (two files are r p ∷ one files are r p ∷ Removed files.records.path ∷ Removed files.stamp.path ∷ mid) files.report.path ≡ Some p)
    sees_unstored mid ready =
        let named = report_named files are r p (Removed files.records.path ∷ Removed files.stamp.path ∷ mid) (ready_removed mid ready) in
        sees_last (one files are r p ∷ Removed files.records.path ∷ Removed files.stamp.path ∷ mid) named.1 named.2

    -- a folder that is not stored changes no name
    stores_none : (before mid : List Step) → Performs (act_step files (Store Report) ∷ []) stopped before mid → ChangesFiles [] before mid
    stores_none before mid performs = only_some [] (act_step files (Store Report) ∷ []) before mid (λ n none. (tt, refl)) (tt, tt) performs.some

    -- once the report has its name, what fails leaves it
    kept_by_store : (before mid : List Step) → Performs (act_step files (Store Report) ∷ []) stopped before mid → (name : Path) (bytes : List ℕ) → IsReady name bytes before → IsReady name bytes mid
    kept_by_store before mid performs name bytes ready =
        ready_kept [] name bytes before mid tt (stores_none before mid performs) ready

    before_last : (old before mid : List Step) → before ≡ reverse (map (act_step files) before_acts) ++ old → Performs (act_step files (Store Report) ∷ []) stopped before mid
        → AreReady files r p old → IsReady files.report.path p mid × IsReady files.records.part r mid × (seen mid files.stamp.path ≡ None)
    before_last old before mid is performs ready =
        let named = report_named files are r p (gone files are r p old) (ready_gone files are r p old ready) in (
          kept_by_store before mid performs files.report.path p (subst (λ (l : List Step). IsReady files.report.path p l) (sym is) named.1),
          kept_by_store before mid performs files.records.part r (subst (λ (l : List Step). IsReady files.records.part r l) (sym is) named.2),
          seen_kept [] files.stamp.path before mid tt (stores_none before mid performs)
              ∙ (ap (λ (l : List Step). seen l files.stamp.path) is ∙ unseen_then (gone files are r p old) (seen_nothing (gone files are r p old) files.stamp.path (no_stamp_left files are old))),
        )

  -- over older files, where no folder is stored from the first on
  pub named_unstored : (answer : Result (Unit {0}) TreeFault) (is_free : Bool) (naming : Naming) (old mid new : List Step) → naming.is_stored ≡ false → told naming.answer ≡ answer
      → Performs (map (act_step files) gone_acts) stopped old mid → Performs (map (act_step files) unstored_acts) answer mid new → NamesDay files is_free naming old new
  named_unstored answer is_free naming old mid new not same one two = record {
    safe = λ is. absurd (cc);
    killed = λ is_own are before unseen has.
        let first = does_some (HasReport is_own files) (kill.fails is_own files) (map (act_step files) gone_acts) old mid one.some (kill.gone is_own files are old has) in
        joined (HasReport is_own files) old mid new first
        (does_some (HasReport is_own files) (kill.fails is_own files) (map (act_step files) unstored_acts) mid new two.some
        (kill.naming_unstored is_own files are before.records before.report before.own mid (parts_kept are before.records before.report stopped old mid one before.ready) (at_end (HasReport is_own files) old mid first)));
    sees = subst (λ (a : Result (Unit {0}) TreeFault). OnOk a (AreDayNames files → SeesNames files old new)) (sym same)
        (when_ok answer (λ is. λ are r p ready.
        let both = sees_unstored are r p mid (parts_kept are r p stopped old mid one ready) in
        (ap (λ (l : List Step). seen l files.records.path) is ∙ both.0, ap (λ (l : List Step). seen l files.report.path) is ∙ both.1)) two.all);
    gives = subst (λ (a : Result (Unit {0}) TreeFault). OnOk a (naming.is_stored ≡ true → AreDayNames files → IsFreeIf is_free files old → GivesNames files old new)) (sym same)
        (when_ok answer (λ is. λ stored. absurd (cc)) two.all);
    ready = subst (λ (a : Result (Unit {0}) TreeFault). OnOk a (AreDayNames files → IsUnseenIf is_free files old → StoresNames files old new)) (sym same)
        (when_ok answer (λ is. λ are unseen r p ready. subst (λ (l : List Step). HaveDayNames files r p l) (sym is) (has_unstored are r p mid (parts_kept are r p stopped old mid one ready))) two.all);
    leaves = subst (λ (a : Result (Unit {0}) TreeFault). OnOk a (naming.is_stored ≡ true → AreDayNames files → IsUnseenIf is_free files old → KeepsShown files old new)) (sym same)
        (when_ok answer (λ is. λ stored. absurd (cc)) two.all);
    changes = changes_then (day_paths files) old mid new (only_named files gone_acts old mid one.some) (only_named files unstored_acts mid new two.some);
    cause = λ is.
        let few = no_fewer (day_paths files) old mid (only_named files gone_acts old mid one.some) in
        let more = two.cause (sym same ∙ is) in
        omega arith;
    unstored = λ is.
        let more = one.cause refl in
        let few = no_fewer (day_paths files) mid new (only_named files unstored_acts mid new two.some) in
        omega arith;
  }

  -- over older files, where the folder of the report could not be stored once the report had its name
  named_last : (answer : Result (Unit {0}) TreeFault) (naming : Naming) (old new : List Step) → naming.is_stored ≡ false → told naming.answer ≡ answer
      → FallsBack (map (act_step files) before_acts) (act_step files (Store Report)) (map (act_step files) last_acts) answer old new → NamesDay files false naming old new
  named_last answer naming old new not same falls =
      let before = falls.before in
      let mid = falls.mid in
      let store : List Step = act_step files (Store Report) ∷ [] in
      let some = then_later (map (act_step files) before_acts) store tt stopped old before mid
      (record {
        some = (5, omega arith, inl falls.done);
        all = falls.done;
        cause = λ is. cc;
      }) falls.stopped in
      let day = stops_first (map (act_step files) (before_acts ++ Store Report ∷ [])) (map (act_step files) last_acts) fault.Failed old mid some in
      record {
        safe = λ is. absurd (cc);
        killed = λ is_own are parts unseen has.
            let first = (day_killed files stopped old mid day).killed is_own are parts has in
            let last = before_last are parts.records parts.report old before mid falls.done falls.stopped parts.ready in
            let both = sees_last are parts.records parts.report mid last.0 last.1 in
            joined (HasReport is_own files) old mid new first
            (does_some (HasReport is_own files) (kill.fails is_own files) (map (act_step files) last_acts) mid new falls.after.some
            (at_end (HasReport is_own files) old mid first, kill.both is_own files (two files are parts.records parts.report ∷ mid) parts.records parts.report parts.own both.0 both.1));
        sees = subst (λ (a : Result (Unit {0}) TreeFault). OnOk a (AreDayNames files → SeesNames files old new)) (sym same)
            (when_ok answer (λ is. λ are r p ready.
            let last = before_last are r p old before mid falls.done falls.stopped ready in
            let both = sees_last are r p mid last.0 last.1 in
            (ap (λ (l : List Step). seen l files.records.path) is ∙ both.0, ap (λ (l : List Step). seen l files.report.path) is ∙ both.1)) falls.after.all);
        gives = subst (λ (a : Result (Unit {0}) TreeFault). OnOk a (naming.is_stored ≡ true → AreDayNames files → IsFreeIf false files old → GivesNames files old new)) (sym same)
            (when_ok answer (λ is. λ stored. absurd (cc)) falls.after.all);
        ready = subst (λ (a : Result (Unit {0}) TreeFault). OnOk a (AreDayNames files → IsUnseenIf false files old → StoresNames files old new)) (sym same)
            (when_ok answer (λ is. λ are unseen r p ready.
            let last = before_last are r p old before mid falls.done falls.stopped ready in
            subst (λ (l : List Step). HaveDayNames files r p l) (sym is) (has_last are r p mid last.0 last.1 last.2)) falls.after.all);
        leaves = subst (λ (a : Result (Unit {0}) TreeFault). OnOk a (naming.is_stored ≡ true → AreDayNames files → IsUnseenIf false files old → KeepsShown files old new)) (sym same)
            (when_ok answer (λ is. λ stored. absurd (cc)) falls.after.all);
        changes = changes_then (day_paths files) old mid new (only_named files day_acts old mid day.some) (only_named files last_acts mid new falls.after.some);
        cause = λ is.
            let few = no_fewer (day_paths files) old mid (only_named files day_acts old mid day.some) in
            let more = falls.after.cause (sym same ∙ is) in
            omega arith;
        unstored = λ is.
            let more = day.cause refl in
            let few = no_fewer (day_paths files) mid new (only_named files last_acts mid new falls.after.some) in
            omega arith;
      }

  -- where each folder was stored
  named_so : (answer : Result (Unit {0}) TreeFault) (naming : Naming) (old new : List Step) → naming.is_stored ≡ true → told naming.answer ≡ answer
      → Performs (map (act_step files) day_acts) answer old new → NamesDay files false naming old new
  named_so answer naming old new is same performs =
      let keeps = day_keeps files answer old new performs in
      record {
        safe = λ stored is_own is_of are parts free has. keeps.safe is_own is_of are parts has;
        killed = λ is_own are parts unseen has. (day_killed files answer old new performs).killed is_own are parts has;
        sees = subst (λ (a : Result (Unit {0}) TreeFault). OnOk a (AreDayNames files → SeesNames files old new)) (sym same)
            (when_ok answer (λ gives. λ are r p ready.
            let named = (gives are).named r p ready in
            (seen_ready new files.records.path r named.records_are, seen_ready new files.report.path p named.report_is)) keeps.done);
        gives = subst (λ (a : Result (Unit {0}) TreeFault). OnOk a (naming.is_stored ≡ true → AreDayNames files → IsFreeIf false files old → GivesNames files old new)) (sym same)
            (when_ok answer (λ gives. λ stored are free. gives are) keeps.done);
        ready = subst (λ (a : Result (Unit {0}) TreeFault). OnOk a (AreDayNames files → IsUnseenIf false files old → StoresNames files old new)) (sym same)
            (when_ok answer (λ gives. λ are unseen r p ready.
            let named = (gives are).named r p ready in
            record { records_are = named.records_are; report_is = named.report_is; unseen = seen_nothing new files.stamp.path named.unstamped }) keeps.done);
        leaves = subst (λ (a : Result (Unit {0}) TreeFault). OnOk a (naming.is_stored ≡ true → AreDayNames files → IsUnseenIf false files old → KeepsShown files old new)) (sym same)
            (when_ok answer (λ gives. λ stored are unseen r p ready shows. shows_named files r p new ((gives are).named r p ready)) keeps.done);
        changes = keeps.changes;
        cause = λ told_so. keeps.cause (sym same ∙ told_so);
        unstored = λ not. absurd cc;
      }

  -- where nothing was left of the day
  pub named_anew : (answer : Result (Unit {0}) TreeFault) (naming : Naming) (old new : List Step) → naming.is_stored ≡ true → told naming.answer ≡ answer
      → Performs (map (act_step files) new_acts) answer old new → NamesDay files true naming old new
  named_anew answer naming old new is same performs =
      let keeps = new_day_keeps files answer old new performs in
      record {
        safe = λ stored is_own is_of are parts free has. keeps.safe is_own is_of are (parts, free refl) has;
        killed = λ is_own are parts unseen has. (new_day_killed files answer old new performs).killed is_own are (parts, unseen refl) has;
        sees = subst (λ (a : Result (Unit {0}) TreeFault). OnOk a (AreDayNames files → SeesNames files old new)) (sym same)
            (when_ok answer (λ is_all. λ are r p ready.
            let both = sees_anew are r p old ready in
            (ap (λ (l : List Step). seen l files.records.path) is_all ∙ both.0, ap (λ (l : List Step). seen l files.report.path) is_all ∙ both.1)) performs.all);
        gives = subst (λ (a : Result (Unit {0}) TreeFault). OnOk a (naming.is_stored ≡ true → AreDayNames files → IsFreeIf true files old → GivesNames files old new)) (sym same)
            (when_ok answer (λ gives. λ stored are free. gives are (free refl)) keeps.done);
        ready = subst (λ (a : Result (Unit {0}) TreeFault). OnOk a (AreDayNames files → IsUnseenIf true files old → StoresNames files old new)) (sym same)
            (when_ok answer (λ is_all. λ are unseen r p ready. subst (λ (l : List Step). HaveDayNames files r p l) (sym is_all) (has_anew are r p old ready (unseen refl).2)) performs.all);
        leaves = subst (λ (a : Result (Unit {0}) TreeFault). OnOk a (naming.is_stored ≡ true → AreDayNames files → IsUnseenIf true files old → KeepsShown files old new)) (sym same)
            (when_ok answer (λ gives. λ stored are unseen r p ready shows. shows_named files r p new ((gives are (shows.free (unseen refl))).named r p ready)) keeps.done);
        changes = keeps.changes;
        cause = λ told_so. keeps.cause (sym same ∙ told_so);
        unstored = λ not. absurd cc;
      }

  -- the old stamp and the old records could not go
  pub named_kept : (why : TreeFault) (naming : Naming) (old new : List Step) → naming.is_stored ≡ true → told naming.answer ≡ stopping why
      → Performs (map (act_step files) gone_acts) (stopping why) old new → NamesDay files false naming old new
  named_kept why naming old new is same performs = named_so (stopping why) naming old new is same (stops_first (map (act_step files) gone_acts) (map (act_step files) over_gone_acts) why old new performs)

  -- they went
  named_by : (b : Bool) (naming : Naming) (old mid new : List Step) → naming.is_stored ≡ b → Performs (map (act_step files) gone_acts) (doing tt) old mid
      → FollowsPlanIf b (map (act_step files) over_gone_acts) (map (act_step files) report_acts) (act_step files (Store Report)) (map (act_step files) last_acts) (told naming.answer) mid new
      → NamesDay files false naming old new
  named_by true naming old mid new is one two =
      named_so (told naming.answer) naming old new is refl (then_later (map (act_step files) gone_acts) (map (act_step files) over_gone_acts) tt (told naming.answer) old mid new one two)
  named_by false naming old mid new is one two =
      named_last (told naming.answer) naming old new is refl (record {
        before = two.before;
        mid = two.mid;
        done = two.done ∙ ap (λ (l : List Step). reverse (map (act_step files) report_acts) ++ l) one.all;
        stopped = two.stopped;
        after = two.after;
      })

  pub named_gone : (naming : Naming) (old mid new : List Step) → Performs (map (act_step files) gone_acts) (doing tt) old mid → FollowsPlan files over_gone_acts report_acts naming mid new → NamesDay files false naming old new
  named_gone naming old mid new one two = named_by naming.is_stored naming old mid new refl one two

  -- what stands under the names went
  pub cleared_so : (answer : Result (Unit {0}) TreeFault) (naming : Naming) (old new : List Step) → naming.is_stored ≡ true → told naming.answer ≡ answer
      → Performs (map (act_step files) clear_acts) answer old new → ClearsDay files naming old new
  cleared_so answer naming old new stored_is same performs =
      let keeps = clear_keeps files answer old new performs in
      record {
        safe = λ stored is_own is_of are has. keeps.safe is_own is_of are tt has;
        killed = λ is_own are has. (clear_killed files answer old new performs).killed is_own are tt has;
        sees = subst (λ (a : Result (Unit {0}) TreeFault). OnOk a (AreDayNames files → SeesNone files new)) (sym same)
            (when_ok answer (λ free. λ are.
            (seen_nothing new files.records.path (free are).records, seen_nothing new files.report.path (free are).report, seen_nothing new files.stamp.path (free are).stamp)) keeps.done);
        gone = subst (λ (a : Result (Unit {0}) TreeFault). OnOk a (naming.is_stored ≡ true → AreDayNames files → IsFree files new)) (sym same)
            (when_ok answer (λ free. λ stored are. free are) keeps.done);
        changes = keeps.changes;
        cause = λ told_so. keeps.cause (sym same ∙ told_so);
        unstored = λ not. absurd cc;
      }

  sees_gone : (are : AreDayNames files) (mid : List Step) → SeesNone files (Removed files.report.path ∷ Removed files.records.path ∷ Removed files.stamp.path ∷ mid)
  sees_gone are mid =
      let l1 = Removed files.stamp.path ∷ mid in
      let l2 = Removed files.records.path ∷ l1 in (
        seen_still (Removed files.report.path) l2 files.records.path (are.apart Records Report refl) ∙ removed_unseen files.records.path l1,
        removed_unseen files.report.path l2,
        seen_still (Removed files.report.path) l2 files.stamp.path (are.apart Stamp Report refl) ∙ (seen_still (Removed files.records.path) l1 files.stamp.path (are.apart Stamp Records refl) ∙ removed_unseen files.stamp.path mid),
      )

  -- also where a folder was not stored
  pub cleared_unstored : (answer : Result (Unit {0}) TreeFault) (naming : Naming) (old mid new : List Step) → naming.is_stored ≡ false → told naming.answer ≡ answer
      → Performs (map (act_step files) clear_acts) stopped old mid → Performs (map (act_step files) rest_acts) answer mid new → ClearsDay files naming old new
  cleared_unstored answer naming old mid new not same one two = record {
    safe = λ is. absurd (cc);
    killed = λ is_own are has.
        let K : List Step → Type 0 = HasReport is_own files in
        let first = (clear_killed files stopped old mid one).killed is_own are tt has in
        let h0 = at_end K old mid first in
        let l1 = Removed files.stamp.path ∷ mid in
        let l2 = Removed files.records.path ∷ l1 in
        let h1 = kill.alone is_own files (Removed files.stamp.path) mid (are.apart Records Stamp refl) (are.apart Report Stamp refl) h0 in
        let h2 = kill.none is_own files l2 (kill.unseen is_own files are l1) in
        let h3 = kill.none is_own files (Removed files.report.path ∷ l2) (sees_gone are mid).0 in
        joined K old mid new first (does_some K (kill.fails is_own files) (map (act_step files) rest_acts) mid new two.some (((h0, h1), h2), h3));
    sees = subst (λ (a : Result (Unit {0}) TreeFault). OnOk a (AreDayNames files → SeesNone files new)) (sym same)
        (when_ok answer (λ is. λ are. subst (λ (l : List Step). SeesNone files l) (sym is) (sees_gone are mid)) two.all);
    gone = subst (λ (a : Result (Unit {0}) TreeFault). OnOk a (naming.is_stored ≡ true → AreDayNames files → IsFree files new)) (sym same)
        (when_ok answer (λ all. λ stored. absurd cc) two.all);
    changes = changes_then (day_paths files) old mid new (only_named files clear_acts old mid one.some) (only_named files rest_acts mid new two.some);
    cause = λ is.
        let few = no_fewer (day_paths files) old mid (only_named files clear_acts old mid one.some) in
        let more = two.cause (sym same ∙ is) in
        omega arith;
    unstored = λ is.
        let more = one.cause refl in
        let few = no_fewer (day_paths files) mid new (only_named files rest_acts mid new two.some) in
        omega arith;
  }

-- one call, and then another
pub goes_both : (One Two Both : (old new : List Step) → Type 0) (before mid after : List Step → Type 0)
    → ((old middle new : List Step) → One old middle → Two middle new → Both old new) → Goes before mid One → Goes mid after Two → Goes before after Both
goes_both One Two Both before mid after so one two = record {
  from = λ new went.
      let later = two.from new went in
      let sooner = one.from later.0 later.1 in
      (sooner.0, sooner.1, so sooner.0 later.0 new sooner.2 later.2);
}

-- the same of calls
module _ (files : DayFiles) where
  pub records_last : (answer : Result (Unit {0}) Stopped) (one mid two : List Step → Type 0)
      → Goes one mid (Performs (map (act_step files) (Store Report ∷ [])) (doing tt)) → Goes mid two (Performs (map (act_step files) last_acts) (told answer))
      → Goes one two (FollowsPlan files over_report_acts [] (record { is_stored = true; answer = answer }))
  records_last answer one mid two first last = goes_later (map (act_step files) (Store Report ∷ [])) (map (act_step files) last_acts) tt (told answer) one mid two first last

  pub records_fall : (answer : Result (Unit {0}) Stopped) (one mid two : List Step → Type 0)
      → Goes one mid (Performs (map (act_step files) (Store Report ∷ [])) stopped) → Goes mid two (Performs (map (act_step files) last_acts) (told answer))
      → Goes one two (FollowsPlan files over_report_acts [] (record { is_stored = false; answer = answer }))
  records_fall answer one mid two first last =
      goes_both _ _ _ one mid two (λ p q r a b. record { before = p; mid = q; done = refl; stopped = a; after = b }) first last

  pub records_stop : (stop : Stopped) (one two : List Step → Type 0)
      → Goes one two (Performs (map (act_step files) (Store Report ∷ [])) (stopping stop.fault))
      → Goes one two (FollowsPlan files over_report_acts [] (record { is_stored = true; answer = Err stop }))
  records_stop stop one two first = goes_stopped (map (act_step files) (Store Report ∷ [])) (map (act_step files) last_acts) stop.fault one two first

  then_follows : (b : Bool) (answer : Result (Unit {0}) TreeFault) (old mid new : List Step) → Performs (map (act_step files) report_acts) (doing tt) old mid
      → FollowsPlanIf b (map (act_step files) over_report_acts) [] (act_step files (Store Report)) (map (act_step files) last_acts) answer mid new
      → FollowsPlanIf b (map (act_step files) over_gone_acts) (map (act_step files) report_acts) (act_step files (Store Report)) (map (act_step files) last_acts) answer old new
  then_follows true answer old mid new one two = then_later (map (act_step files) report_acts) (map (act_step files) over_report_acts) tt answer old mid new one two
  then_follows false answer old mid new one two = record { before = two.before; mid = two.mid; done = two.done ∙ one.all; stopped = two.stopped; after = two.after }

  pub gone_named : (naming : Naming) (one mid two : List Step → Type 0)
      → Goes one mid (Performs (map (act_step files) report_acts) (doing tt)) → Goes mid two (FollowsPlan files over_report_acts [] naming) → Goes one two (FollowsPlan files over_gone_acts report_acts naming)
  gone_named naming one mid two first last = goes_both _ _ _ one mid two (λ p q r a b. then_follows naming.is_stored (told naming.answer) p q r a b) first last

  pub gone_stop : (stop : Stopped) (one two : List Step → Type 0)
      → Goes one two (Performs (map (act_step files) report_acts) (stopping stop.fault)) → Goes one two (FollowsPlan files over_gone_acts report_acts (record { is_stored = true; answer = Err stop }))
  gone_stop stop one two first = goes_stopped (map (act_step files) report_acts) (map (act_step files) over_report_acts) stop.fault one two first

  pub over_named : (naming : Naming) (one mid two : List Step → Type 0)
      → Goes one mid (Performs (map (act_step files) gone_acts) (doing tt)) → Goes mid two (FollowsPlan files over_gone_acts report_acts naming) → Goes one two (NamesDay files false naming)
  over_named naming one mid two first last = goes_both _ _ _ one mid two (λ p q r a b. named_gone files naming p q r a b) first last

  pub over_unstored : (answer : Result (Unit {0}) Stopped) (one mid two : List Step → Type 0)
      → Goes one mid (Performs (map (act_step files) gone_acts) stopped) → Goes mid two (Performs (map (act_step files) unstored_acts) (told answer))
      → Goes one two (NamesDay files false (record { is_stored = false; answer = answer }))
  over_unstored answer one mid two first last =
      goes_both _ _ _ one mid two (λ p q r a b. named_unstored files (told answer) false (record { is_stored = false; answer = answer }) p q r refl refl a b) first last

  pub over_stop : (stop : Stopped) (one two : List Step → Type 0)
      → Goes one two (Performs (map (act_step files) gone_acts) (stopping stop.fault)) → Goes one two (NamesDay files false (record { is_stored = true; answer = Err stop }))
  over_stop stop one two first = goes_as _ _ one two (λ p q a. named_kept files stop.fault (record { is_stored = true; answer = Err stop }) p q refl refl a) first

  pub anew_named : (answer : Result (Unit {0}) Stopped) (one two : List Step → Type 0)
      → Goes one two (Performs (map (act_step files) new_acts) (told answer)) → Goes one two (NamesDay files true (record { is_stored = true; answer = answer }))
  anew_named answer one two first = goes_as _ _ one two (λ p q a. named_anew files (told answer) (record { is_stored = true; answer = answer }) p q refl refl a) first

  pub clear_so : (answer : Result (Unit {0}) Stopped) (one two : List Step → Type 0)
      → Goes one two (Performs (map (act_step files) clear_acts) (told answer)) → Goes one two (ClearsDay files (record { is_stored = true; answer = answer }))
  clear_so answer one two first = goes_as _ _ one two (λ p q a. cleared_so files (told answer) (record { is_stored = true; answer = answer }) p q refl refl a) first

  pub clear_stop : (stop : Stopped) (one two : List Step → Type 0)
      → Goes one two (Performs (map (act_step files) clear_acts) (stopping stop.fault)) → Goes one two (ClearsDay files (record { is_stored = true; answer = Err stop }))
  clear_stop stop one two first = clear_so (Err stop) one two first

  pub clear_fall : (answer : Result (Unit {0}) Stopped) (one mid two : List Step → Type 0)
      → Goes one mid (Performs (map (act_step files) clear_acts) stopped) → Goes mid two (Performs (map (act_step files) rest_acts) (told answer))
      → Goes one two (ClearsDay files (record { is_stored = false; answer = answer }))
  clear_fall answer one mid two first last =
      goes_both _ _ _ one mid two (λ p q r a b. cleared_unstored files (told answer) (record { is_stored = false; answer = answer }) p q r refl refl a b) first last
