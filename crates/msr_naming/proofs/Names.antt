-- What stays of a name while others change.
use Rattle.std.proofs.Common.{◌≡◌, ◌⊎◌, inl, inr, ⊎_elim, true, false, List, ◌∷◌, refl, ◌∙◌, ap, ℕ, Option, Some, None, option_map}
use Rattle.std.specs.Str.{bytes_eq}
use Rattle.msr_tree.specs.Steps.{File, FolderStored, IsReady, Leaves, MayLeave, Path, Removed, Renamed, ShowsAfter, Step, now, seen, stands_in, touches, folder_above}
use Rattle.msr_naming.specs.declared.files.DayFiles.{DayFiles}
use Rattle.msr_naming.specs.declared.files.Name.TheVariants.{Records, RecordsPart, ReportPart, Stamp}
use Rattle.msr_naming.specs.Naming.{AreDayNames}
use Rattle.msr_naming.specs.Promise.{AreReady}
use Rattle.msr_tree.proofs.Changes.{ready_renamed}
use Rattle.msr_tree.proofs.Crash.{is_of, is_self, leaves, leaves_seen, quiet, settled, stays, still, untouched}

-- a rename touches its two names
pub not_renamed : (from to name : Path) → bytes_eq name to ≡ false → bytes_eq name from ≡ false → touches (Renamed from to) name ≡ false
not_renamed from to name one other = rw (one, other) refl

-- a file that is ready stays so while its name is left alone
pub ready_still : (step : Step) (past : List Step) (name : Path) (bytes : List ℕ) → touches step name ≡ false → IsReady name bytes past → IsReady name bytes (step ∷ past)
ready_still step past name bytes not ready = record {
  file = ready.file;
  leads = untouched step past name not ∙ ready.leads;
  has = ready.has;
  stored = stays step past ready.file ready.stored;
}

-- nothing, or these bytes
abbrev pub MayHave : List Step → Path → List ℕ → Type 0
MayHave past name bytes = (after : Option (List ℕ)) → MayLeave past name after → (after ≡ None) ⊎ (after ≡ Some bytes)

pub may_nothing : (past : List Step) (name : Path) (bytes : List ℕ) → Leaves past name None → MayHave past name bytes
may_nothing past name bytes none after may = inl (none after may)

pub may_these : (past : List Step) (name : Path) (bytes : List ℕ) → Leaves past name (Some bytes) → MayHave past name bytes
may_these past name bytes is after may = inr (is after may)

pub may_still : (step : Step) (past : List Step) (name : Path) (bytes : List ℕ) → touches step name ≡ false → MayHave past name bytes → MayHave (step ∷ past) name bytes
may_still step past name bytes not has after may = has after (quiet step past name after (untouched step past name not) may)

-- a file that is ready gets the name
pub may_renamed : (from to : Path) (past : List Step) (bytes : List ℕ) → IsReady from bytes past → MayHave past to bytes → MayHave (Renamed from to ∷ past) to bytes
may_renamed from to past bytes ready has after may = ⊎_elim
    (λ before. has after before)
    (λ shows. let is = ready_renamed from to bytes past ready in inr (is_of (Renamed from to ∷ past) _ is.file after is.leads is.stored shows ∙ ap (λ b. Some b) is.has))
    (leaves (Renamed from to) past to after may)

pub none_shown : (past : List Step) (found : Option File) (after : Option (List ℕ)) → found ≡ None → ShowsAfter past found after → after ≡ None
none_shown past None after is shows = shows
none_shown past (Some file) after is shows = cc

-- a name that is removed leads nowhere
pub removed_leads : (name : Path) (past : List Step) → now (Removed name ∷ past) name ≡ None
removed_leads name past = rw (is_self name) refl

pub removed_unseen : (name : Path) (past : List Step) → seen (Removed name ∷ past) name ≡ None
removed_unseen name past = ap (λ found. option_map (λ file. file.bytes) found) (removed_leads name past)

-- what is left of a name that goes
pub fewer_or_none : (name : Path) (past : List Step) (after : Option (List ℕ)) → MayLeave (Removed name ∷ past) name after → MayLeave past name after ⊎ (after ≡ None)
fewer_or_none name past after may = ⊎_elim
    (λ before. inl before)
    (λ shows. inr (none_shown (Removed name ∷ past) _ after (removed_leads name past) shows))
    (leaves (Removed name) past name after may)

-- nothing, once its folder is stored
pub removed_settled : (name folder : Path) (past : List Step) → stands_in folder name ≡ true → Leaves (FolderStored folder ∷ Removed name ∷ past) name None
removed_settled name folder past inside after may =
    none_shown (Removed name ∷ past) _ after (removed_leads name past) (settled folder (Removed name ∷ past) name after inside may)

pub seen_still : (step : Step) (past : List Step) (name : Path) → touches step name ≡ false → seen (step ∷ past) name ≡ seen past name
seen_still step past name not = ap (λ found. option_map (λ file. file.bytes) found) (untouched step past name not)

pub seen_ready : (past : List Step) (name : Path) (bytes : List ℕ) → IsReady name bytes past → seen past name ≡ Some bytes
seen_ready past name bytes ready = ap (λ found. option_map (λ file. file.bytes) found) ready.leads ∙ ap (λ b. Some b) ready.has

pub seen_nothing : (past : List Step) (name : Path) → Leaves past name None → seen past name ≡ None
seen_nothing past name none = none (seen past name) (leaves_seen past name)

-- what is beside the names stays while the old stamp and the old records go
pub ready_gone : (files : DayFiles) (are : AreDayNames files) (r p : List ℕ) (old : List Step) → AreReady files r p old → AreReady files r p (FolderStored (folder_above files.records.path) ∷ Removed files.records.path ∷ FolderStored (folder_above files.report.path) ∷ Removed files.stamp.path ∷ old)
ready_gone files are r p old ready =
    let l1 = Removed files.stamp.path ∷ old in
    let l2 = FolderStored (folder_above files.report.path) ∷ l1 in
    let l3 = Removed files.records.path ∷ l2 in
    record {
      records_are = ready_still (FolderStored (folder_above files.records.path)) l3 files.records.part r refl (ready_still (Removed files.records.path) l2 files.records.part r (are.apart RecordsPart Records refl)
          (ready_still (FolderStored (folder_above files.report.path)) l1 files.records.part r refl (ready_still (Removed files.stamp.path) old files.records.part r (are.apart RecordsPart Stamp refl) ready.records_are)));
      report_is = ready_still (FolderStored (folder_above files.records.path)) l3 files.report.part p refl (ready_still (Removed files.records.path) l2 files.report.part p (are.apart ReportPart Records refl)
          (ready_still (FolderStored (folder_above files.report.path)) l1 files.report.part p refl (ready_still (Removed files.stamp.path) old files.report.part p (are.apart ReportPart Stamp refl) ready.report_is)));
    }

-- once the old stamp and the old records are gone
pub no_stamp_gone : (files : DayFiles) (are : AreDayNames files) (old : List Step) → Leaves (FolderStored (folder_above files.report.path) ∷ Removed files.stamp.path ∷ old) files.stamp.path None
no_stamp_gone files are old = removed_settled files.stamp.path (folder_above files.report.path) old are.beside

pub no_stamp_left : (files : DayFiles) (are : AreDayNames files) (old : List Step) → Leaves (FolderStored (folder_above files.records.path) ∷ Removed files.records.path ∷ FolderStored (folder_above files.report.path) ∷ Removed files.stamp.path ∷ old) files.stamp.path None
no_stamp_left files are old =
    let l2 = FolderStored (folder_above files.report.path) ∷ Removed files.stamp.path ∷ old in
    still (FolderStored (folder_above files.records.path)) (Removed files.records.path ∷ l2) files.stamp.path None refl
    (still (Removed files.records.path) l2 files.stamp.path None (are.apart Stamp Records refl) (no_stamp_gone files are old))

pub no_records_left : (files : DayFiles) (are : AreDayNames files) (old : List Step) → Leaves (FolderStored (folder_above files.records.path) ∷ Removed files.records.path ∷ FolderStored (folder_above files.report.path) ∷ Removed files.stamp.path ∷ old) files.records.path None
no_records_left files are old = removed_settled files.records.path (folder_above files.records.path) (FolderStored (folder_above files.report.path) ∷ Removed files.stamp.path ∷ old) (is_self (folder_above files.records.path))
