-- A day's own stays what it is while other names change.
use Rattle.std.proofs.Common.{◌≡◌, ℕ, Bool, true, List, [], ◌∷◌, refl, sym, ◌∙◌, subst, IfSome, IsSomeAnd}
use Rattle.msr_tree.specs.Folders.{ChangesFiles}
use Rattle.msr_tree.specs.Steps.{AtEachMoment, ChangesOnly, IsNoneOf, Path, Step, seen}
use Rattle.msr_tree.proofs.Changes.{each_by_changes, leaves_kept, may_kept, seen_kept}
use Rattle.msr_naming.specs.declared.files.DayFiles.{DayFiles}
use Rattle.msr_naming.specs.declared.files.Name.TheVariants.{Records, RecordsPart, Report, ReportPart, Stamp, StampPart}
use Rattle.msr_naming.specs.Naming.{AreDayNames, day_paths}
use Rattle.msr_naming.specs.Promise.{HasOwn, HasReport, IsFree, ShowsDay}
use Rattle.msr_making.specs.Clearing.{beside_paths}
use Rattle.msr_making.specs.Parts.{part_paths}

-- the three names are none of some
pub record AreNone (files : DayFiles) (names : List Path) : Type 0 where
  pub records : IsNoneOf files.records.path names
  pub report : IsNoneOf files.report.path names
  pub stamp : IsNoneOf files.stamp.path names

module _ (files : DayFiles) (names : List Path) (none : AreNone files names) (old new : List Step) (changes : ChangesOnly names old new) where
  own_still : (is_own : (records report : List ℕ) → Bool) (is_of : (stamp records report : List ℕ) → Bool) → HasOwn is_own is_of files old → HasOwn is_own is_of files new
  own_still is_own is_of has = record {
    report = λ records report mr mp. has.report records report (may_kept names files.records.path old new records none.records changes mr) (may_kept names files.report.path old new report none.report changes mp);
    stamp = λ stamp records report ms mr mp. has.stamp stamp records report (may_kept names files.stamp.path old new stamp none.stamp changes ms)
        (may_kept names files.records.path old new records none.records changes mr) (may_kept names files.report.path old new report none.report changes mp);
  }

  report_still : (is_own : (records report : List ℕ) → Bool) → HasReport is_own files old → HasReport is_own files new
  report_still is_own has = record {
    report = subst (λ (x : _). IfSome x (λ r. IsSomeAnd (seen new files.report.path) (λ p. is_own r p ≡ true))) (sym (seen_kept names files.records.path old new none.records changes))
        (subst (λ (y : _). IfSome (seen old files.records.path) (λ r. IsSomeAnd y (λ p. is_own r p ≡ true))) (sym (seen_kept names files.report.path old new none.report changes)) has.report);
  }

module _ (files : DayFiles) (names : List Path) (none : AreNone files names) (old new : List Step) (changes : ChangesFiles names old new) where
  pub own_kept : (is_own : (records report : List ℕ) → Bool) (is_of : (stamp records report : List ℕ) → Bool) → HasOwn is_own is_of files old → HasOwn is_own is_of files new
  own_kept is_own is_of has = own_still files names none old new changes.changes is_own is_of has

  pub free_kept : IsFree files old → IsFree files new
  free_kept free = record {
    records = leaves_kept names files.records.path _ old new none.records changes.changes free.records;
    report = leaves_kept names files.report.path _ old new none.report changes.changes free.report;
    stamp = leaves_kept names files.stamp.path _ old new none.stamp changes.changes free.stamp;
  }

  pub shows_kept : ShowsDay files old → ShowsDay files new
  shows_kept shows = record {
    free = λ unseen. free_kept (shows.free (
      sym (seen_kept names files.records.path old new none.records changes.changes) ∙ unseen.0,
      sym (seen_kept names files.report.path old new none.report changes.changes) ∙ unseen.1,
      sym (seen_kept names files.stamp.path old new none.stamp changes.changes) ∙ unseen.2,
    ));
    unstamped = λ unseen. leaves_kept names files.stamp.path _ old new none.stamp changes.changes
        (shows.unstamped (sym (seen_kept names files.stamp.path old new none.stamp changes.changes) ∙ unseen));
  }

-- of a day that is gone nothing can come back
pub shows_free : (files : DayFiles) (past : List Step) → IsFree files past → ShowsDay files past
shows_free files past free = record { free = λ unseen. free; unstamped = λ unseen. free.stamp }

-- at each moment
pub own_each : (files : DayFiles) (names : List Path) → AreNone files names → (old new : List Step) → ChangesFiles names old new
    → (is_own : (records report : List ℕ) → Bool) (is_of : (stamp records report : List ℕ) → Bool) → HasOwn is_own is_of files old → AtEachMoment (HasOwn is_own is_of files) old new
own_each files names none old new changes is_own is_of has =
    each_by_changes (HasOwn is_own is_of files) names old (λ past so_far. own_still files names none old past so_far is_own is_of has) new changes.changes

module _ (files : DayFiles) (names : List Path) (none : AreNone files names) (old : List Step) (is_own : (records report : List ℕ) → Bool) (has : HasReport is_own files old) where
  pub report_kept : (new : List Step) → ChangesFiles names old new → HasReport is_own files new
  report_kept new changes = report_still files names none old new changes.changes is_own has

  -- at each moment
  pub report_each : (new : List Step) → ChangesFiles names old new → AtEachMoment (HasReport is_own files) old new
  report_each new changes = each_by_changes (HasReport is_own files) names old (λ past so_far. report_still files names none old past so_far is_own has) new changes.changes

pub none_empty : (files : DayFiles) → AreNone files []
none_empty files = record { records = tt; report = tt; stamp = tt }

pub none_parts : (files : DayFiles) → AreDayNames files → AreNone files (part_paths files)
none_parts files are = record {
  records = (are.apart Records RecordsPart refl, (are.apart Records ReportPart refl, tt));
  report = (are.apart Report RecordsPart refl, (are.apart Report ReportPart refl, tt));
  stamp = (are.apart Stamp RecordsPart refl, (are.apart Stamp ReportPart refl, tt));
}

pub none_stamp : (files : DayFiles) → AreDayNames files → AreNone files (files.stamp.part ∷ [])
none_stamp files are = record {
  records = (are.apart Records StampPart refl, tt);
  report = (are.apart Report StampPart refl, tt);
  stamp = (are.apart Stamp StampPart refl, tt);
}

pub none_beside : (files : DayFiles) → AreDayNames files → AreNone files (beside_paths files)
none_beside files are = record {
  records = (are.apart Records RecordsPart refl, (are.apart Records ReportPart refl, (are.apart Records StampPart refl, tt)));
  report = (are.apart Report RecordsPart refl, (are.apart Report ReportPart refl, (are.apart Report StampPart refl, tt)));
  stamp = (are.apart Stamp RecordsPart refl, (are.apart Stamp ReportPart refl, (are.apart Stamp StampPart refl, tt)));
}

-- what stands beside is of the day
pub more_parts : (files : DayFiles) (name : Path) → IsNoneOf name (day_paths files) → IsNoneOf name (part_paths files)
more_parts files name none = (none.1.0, (none.1.1.1.0, tt))

pub more_stamp : (files : DayFiles) (name : Path) → IsNoneOf name (day_paths files) → IsNoneOf name (files.stamp.part ∷ [])
more_stamp files name none = (none.1.1.1.1.1.0, tt)

pub more_beside : (files : DayFiles) (name : Path) → IsNoneOf name (day_paths files) → IsNoneOf name (beside_paths files)
more_beside files name none = (none.1.0, (none.1.1.1.0, (none.1.1.1.1.1.0, tt)))
