-- What plans keep, and what is done when they end.
use Rattle.std.proofs.Common.{List, [], ◌∷◌, ℕ, map, refl, sym, subst, ◌∙◌, ap, Result, Ok, Err, OnOk, None}
use Rattle.msr_tree.specs.Steps.{FolderStored, IsReady, Leaves, Path, Removed, Renamed, Step, folder_above, seen}
use Rattle.msr_tree.specs.declared.tree.TreeFault.{TreeFault}
use Rattle.msr_tree.proofs.Changes.{ready_renamed}
use Rattle.msr_tree.proofs.Crash.{is_self, still}
use Rattle.msr_tree.proofs.Moments.{at_end}
use Rattle.msr_naming.specs.declared.files.DayFiles.{DayFiles}
use Rattle.msr_naming.specs.declared.naming.Act.{Act}
use Rattle.msr_naming.specs.declared.naming.Act.TheVariants.{Remove, Store, Rename}
use Rattle.msr_naming.specs.declared.files.Name.TheVariants.{Records, RecordsPart, Report, ReportPart, Stamp}
use Rattle.msr_naming.specs.Naming.{AreDayNames, Performs, act_step}
use Rattle.msr_naming.specs.Promise.{AreNamed, AreReady, GivesNames, HasOwn, HasReport, HaveOwnParts, IsFree, KeepsOwn, KeepsIfKilled, NamesStamps, OverNothing, OverUnseen}
use Rattle.msr_naming.proofs.Names.{no_records_left, no_stamp_left, not_renamed, ready_gone, ready_still, removed_settled}
use Rattle.msr_naming.proofs.Changed.{only_named, only_stamped}
use Rattle.msr_naming.proofs.Kills as kill
use Rattle.msr_naming.proofs.Order as order
use Rattle.msr_naming.proofs.Plan.{does_some}
use Rattle.msr_naming.proofs.Stamps.{Shown, shown_fails, shown_gone, stamped, stamping, stamping_all, stamping_shown}

abbrev pub new_acts : List Act
new_acts = Rename ReportPart Report ∷ Rename RecordsPart Records ∷ []

abbrev pub day_acts : List Act
day_acts = Remove Stamp ∷ Store Report ∷ Remove Records ∷ Store Records ∷ Rename ReportPart Report ∷ Store Report ∷ Rename RecordsPart Records ∷ []

abbrev pub clear_acts : List Act
clear_acts = Remove Stamp ∷ Store Report ∷ Remove Records ∷ Store Records ∷ Remove Report ∷ Store Report ∷ []

when_ok : {P : Type 0} {Q : Type 0} (result : Result (Unit {0}) TreeFault) → (P → Q) → OnOk result P → OnOk result Q
when_ok (Ok x) so is = so is
when_ok (Err why) so is = tt

module _ (files : DayFiles) where
  -- where report and records get their names, with a step between that touches no name
  module _ (are : AreDayNames files) (r p : List ℕ) where
    abbrev pub one : Step
    one = Renamed files.report.part files.report.path

    abbrev pub two : Step
    two = Renamed files.records.part files.records.path

    pub report_named : (past : List Step) → AreReady files r p past → AreReady files r p past × IsReady files.report.path p (one ∷ past) × IsReady files.records.part r (one ∷ past)
    report_named past ready = (
      ready,
      ready_renamed files.report.part files.report.path p past ready.report_is,
      ready_still one past files.records.part r (not_renamed files.report.part files.report.path files.records.part (are.apart RecordsPart Report refl) (are.apart RecordsPart ReportPart refl)) ready.records_are,
    )

    unstamped_then : (past : List Step) → Leaves past files.stamp.path None → Leaves (one ∷ past) files.stamp.path None
    unstamped_then past no_stamp = still one past files.stamp.path None (not_renamed files.report.part files.report.path files.stamp.path (are.apart Stamp Report refl) (are.apart Stamp ReportPart refl)) no_stamp

    records_named : (past : List Step) → IsReady files.report.path p past → IsReady files.records.part r past → Leaves past files.stamp.path None → AreNamed files r p (two ∷ past)
    records_named past report records no_stamp = record {
      records_are = ready_renamed files.records.part files.records.path r past records;
      report_is = ready_still two past files.report.path p (not_renamed files.records.part files.records.path files.report.path (are.apart Report Records refl) (are.apart Report RecordsPart refl)) report;
      unstamped = still two past files.stamp.path None (not_renamed files.records.part files.records.path files.stamp.path (are.apart Stamp Records refl) (are.apart Stamp RecordsPart refl)) no_stamp;
    }

    named_new : (past : List Step) → IsFree files past → AreReady files r p past → AreNamed files r p (two ∷ one ∷ past)
    named_new past free ready = let named = report_named past ready in records_named (one ∷ past) named.1 named.2 (unstamped_then past free.stamp)

    abbrev pub gone : List Step → List Step
    gone old = FolderStored (folder_above files.records.path) ∷ Removed files.records.path ∷ FolderStored (folder_above files.report.path) ∷ Removed files.stamp.path ∷ old

    named_over : (old : List Step) → AreReady files r p old → AreNamed files r p (two ∷ FolderStored (folder_above files.report.path) ∷ one ∷ gone old)
    named_over old ready =
        let store = FolderStored (folder_above files.report.path) in
        let named = report_named (gone old) (ready_gone files are r p old ready) in
        let l5 = one ∷ gone old in
        records_named (store ∷ l5) (ready_still store l5 files.report.path p refl named.1) (ready_still store l5 files.records.part r refl named.2)
        (still store l5 files.stamp.path None refl (unstamped_then (gone old) (no_stamp_left files are old)))

  cleared : (are : AreDayNames files) (old : List Step) → IsFree files (FolderStored (folder_above files.report.path) ∷ Removed files.report.path
      ∷ FolderStored (folder_above files.records.path) ∷ Removed files.records.path ∷ FolderStored (folder_above files.report.path) ∷ Removed files.stamp.path ∷ old)
  cleared are old =
      let store = FolderStored (folder_above files.report.path) in
      let l4 = FolderStored (folder_above files.records.path) ∷ Removed files.records.path ∷ store ∷ Removed files.stamp.path ∷ old in
      let l5 = Removed files.report.path ∷ l4 in
      record {
        records = still store l5 files.records.path None refl (still (Removed files.report.path) l4 files.records.path None (are.apart Records Report refl) (no_records_left files are old));
        report = removed_settled files.report.path (folder_above files.report.path) l4 (is_self (folder_above files.report.path));
        stamp = still store l5 files.stamp.path None refl (still (Removed files.report.path) l4 files.stamp.path None (are.apart Stamp Report refl) (no_stamp_left files are old));
      }

  pub new_day_keeps : (result : Result (Unit {0}) TreeFault) (old new : List Step) → Performs (map (act_step files) new_acts) result old new
      → KeepsOwn files (OverNothing files) (λ o n. IsFree files o → GivesNames files o n) result old new
  new_day_keeps result old new performs = record {
    safe = λ is_own is_of are before has. does_some (HasOwn is_own is_of files) (order.fails is_own is_of files) (map (act_step files) new_acts) old new performs.some
        (order.naming_new is_own is_of files are before.0.records before.0.report before.0.own old before.1 before.0.ready);
    done = when_ok result (λ is. λ are free. record { named = λ r p ready. subst (λ (l : List Step). AreNamed files r p l) (sym is) (named_new are r p old free ready) }) performs.all;
    changes = only_named files new_acts old new performs.some;
    cause = performs.cause;
  }

  pub new_day_killed : (result : Result (Unit {0}) TreeFault) (old new : List Step) → Performs (map (act_step files) new_acts) result old new → KeepsIfKilled files (OverUnseen files) result old new
  new_day_killed result old new performs = record {
    killed = λ is_own are before has. does_some (HasReport is_own files) (kill.fails is_own files) (map (act_step files) new_acts) old new performs.some
        (kill.naming_new is_own files are before.0.records before.0.report before.0.own old before.1 before.0.ready);
    changes = only_named files new_acts old new performs.some;
    cause = performs.cause;
  }

  pub day_keeps : (result : Result (Unit {0}) TreeFault) (old new : List Step) → Performs (map (act_step files) day_acts) result old new
      → KeepsOwn files (HaveOwnParts files) (GivesNames files) result old new
  day_keeps result old new performs = record {
    safe = λ is_own is_of are before has. does_some (HasOwn is_own is_of files) (order.fails is_own is_of files) (map (act_step files) day_acts) old new performs.some
        (order.naming is_own is_of files are before.records before.report before.own old has before.ready);
    done = when_ok result (λ is. λ are. record { named = λ r p ready. subst (λ (l : List Step). AreNamed files r p l) (sym is) (named_over are r p old ready) }) performs.all;
    changes = only_named files day_acts old new performs.some;
    cause = performs.cause;
  }

  pub day_killed : (result : Result (Unit {0}) TreeFault) (old new : List Step) → Performs (map (act_step files) day_acts) result old new → KeepsIfKilled files (HaveOwnParts files) result old new
  day_killed result old new performs = record {
    killed = λ is_own are before has. does_some (HasReport is_own files) (kill.fails is_own files) (map (act_step files) day_acts) old new performs.some
        (kill.naming is_own files are before.records before.report before.own old before.ready has);
    changes = only_named files day_acts old new performs.some;
    cause = performs.cause;
  }

  pub clear_keeps : (result : Result (Unit {0}) TreeFault) (old new : List Step) → Performs (map (act_step files) clear_acts) result old new
      → KeepsOwn files (λ is_own past. Unit {0}) (λ o n. IsFree files n) result old new
  clear_keeps result old new performs = record {
    safe = λ is_own is_of are before has. does_some (HasOwn is_own is_of files) (order.fails is_own is_of files) (map (act_step files) clear_acts) old new performs.some (order.clearing is_own is_of files are old has);
    done = when_ok result (λ is. λ are. subst (λ (l : List Step). IsFree files l) (sym is) (cleared are old)) performs.all;
    changes = only_named files clear_acts old new performs.some;
    cause = performs.cause;
  }

  pub clear_killed : (result : Result (Unit {0}) TreeFault) (old new : List Step) → Performs (map (act_step files) clear_acts) result old new → KeepsIfKilled files (λ is_own past. Unit {0}) result old new
  clear_killed result old new performs = record {
    killed = λ is_own are before has. does_some (HasReport is_own files) (kill.fails is_own files) (map (act_step files) clear_acts) old new performs.some (kill.clearing is_own files are old has);
    changes = only_named files clear_acts old new performs.some;
    cause = performs.cause;
  }

pub stamps_named : (out reports : Path) (days : List DayFiles) (result : Result (Unit {0}) TreeFault) (old new : List Step)
    → Performs (FolderStored out ∷ FolderStored reports ∷ map stamping days) result old new → NamesStamps out reports days result old new
stamps_named out reports days result old new performs = record {
  safe = λ is_own is_of files s r p are stand one awaits whole has. does_some (HasOwn is_own is_of files) (order.fails is_own is_of files) (FolderStored out ∷ FolderStored reports ∷ map stamping days) old new performs.some
      (stamping_all is_own is_of files are out reports stand s r p whole days old one awaits has);
  done = when_ok result (λ is. λ files s are one ready. ap (λ (l : List Step). seen l files.stamp.path) is ∙ stamped files out reports s days old one ready) performs.all;
  unstamped = λ files one gone.
      let each = does_some (Shown files) (shown_fails files) (FolderStored out ∷ FolderStored reports ∷ map stamping days) old new performs.some (stamping_shown files out reports days old one gone) in
      shown_gone files new (at_end (Shown files) old new each);
  changes = only_stamped out reports days old new performs.some;
  cause = performs.cause;
}
