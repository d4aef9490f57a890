-- That no day is told otherwise whose files show what they have to.
use Rattle.std.proofs.Common.{◌≡◌, ◌||◌, ◌∙◌, inl, inr, ⊎_elim, ℕ, Bool, true, false, List, Option, None, Some, refl, sym, ap, subst, is_some, option_map, Ok}
use Rattle.msr_compare.proofs.SameInputs.{exact, no_fault}
use Rattle.msr_compare.specs.Answers.{HaveSameSegments}
use Rattle.msr_compare.specs.declared.comparison.Comparison.TheVariants as comparison
use Rattle.msr_input.specs.declared.fault.Fault.{Fault}
use Rattle.msr_input.specs.declared.fault.ReadFault.TheVariants as stop
use Rattle.msr_input.specs.declared.settings.Settings.{Settings}
use Rattle.msr_report.specs.declared.report.Report.{Report}
use Rattle.msr_report_reader.proofs.OneContent as reader
use Rattle.msr_report_reader.specs.Content.{Content, content_of}
use Rattle.msr_report_reader.specs.Reading.{IsReadFrom}
use Rattle.msr_tool.proofs.RepackedLeast.{shows_same}
use Rattle.msr_tree.specs.Listing.{has_folder, is_there}
use Rattle.msr_tree.specs.Steps.{File as TreeFile, Path, Step, now, seen}
use Rattle.msr_verdict.specs.Packed.{settings_by}
use Rattle.msr_verify.specs.Day.{HasDifferentData, IsFileRefused, IsRecordRefused, IsUnshown, IsVerified}
use Rattle.msr_verify.specs.Exact.{VerifiedIsExact}
use Rattle.msr_verify.specs.Files.{AnswerThere, DayPlaces}
use Rattle.msr_verify.specs.declared.judging.Finding.TheVariants as finding
use Rattle.msr_verify.specs.declared.judging.VerifyFault.TheVariants.{File, Records, ReportLine, ReportRead, ReportMemory}
use Rattle.msr_verify.specs.declared.judgement.Judgement.TheVariants.{Verified, InPlace, Missing, NotShown, Differs, Misplaced, Refused, Skipped, Orphan, Known, KnownMissing}
use Rattle.msr_verify.specs.declared.judgement.Refusal.TheVariants.{FileUnopened, RecordsUnopened, ReportUnopened, SameFile, Listing, RecordsListing, Day}

same_bytes : (one other : List ℕ) → Some one ≡ Some other → one ≡ other
same_bytes one other e = cc

-- what is seen is there
not_gone : (found : Option TreeFile) (folder : Bool) (bytes : List ℕ) → option_map (λ (file : TreeFile). file.bytes) found ≡ Some bytes → (folder || is_some found) ≡ false → ⊥
not_gone None folder bytes e none = absurd cc
not_gone (Some file) true bytes e none = absurd cc
not_gone (Some file) false bytes e none = absurd cc

gone : (past : List Step) (path : Path) (bytes : List ℕ) → seen past path ≡ Some bytes → is_there past path ≡ false → ⊥
gone past path bytes is none = not_gone (now past path) (has_folder past path) bytes is none

-- Files that show it show nothing else.
module _ (file records text : List ℕ) (verified : IsVerified file records text) where
  own : Report
  own = verified.shown.report

  same_content : (other : Report) → IsReadFrom other text → content_of own ≡ content_of other
  unfolding own
  same_content other read =
      let mine = verified.shown.read in
      reader.one_report own other text mine.is_content read.is_content mine.is_text read.is_text

  same_settings : (other : Report) → IsReadFrom other text → settings_by own ≡ settings_by other
  same_settings other read =
      ap (λ (tolerance : ℕ). record { tolerance = tolerance; strict = false }) (ap (λ (said : Content). said.tolerance) (same_content other read))

  same_by : (other : Report) → IsReadFrom other text → HaveSameSegments (settings_by other) file records
  unfolding own
  same_by other read = subst (λ (s : Settings). HaveSameSegments s file records) (same_settings other read) verified.same

  shown : IsUnshown records text → ⊥
  unfolding own
  shown un = un.unshown.none (shows_same own un.report records (same_content un.report un.read) verified.shown.least)

  no_difference : HasDifferentData file records text → ⊥
  no_difference has =
      let same = same_by has.shown.report has.shown.read in
      let told = exact (settings_by has.shown.report) records file (Ok (comparison.Differ has.difference)) tt has.differ
      (record { segments = same.segments; one_has = same.other_has; other_has = same.one_has }) in
      let e = told.1 in
      absurd cc

  file_has_none : (found : Fault) → IsFileRefused file records text found → ⊥
  file_has_none found is =
      let same = same_by is.shown.report is.shown.read in
      no_fault (settings_by is.shown.report) file same.segments found same.one_has is.first

  records_have_none : (found : Fault) → IsRecordRefused records text found → ⊥
  records_have_none found is =
      let same = same_by is.report is.read in
      no_fault (settings_by is.report) records same.segments found same.other_has is.first

-- Whatever is answered, it is of the same files.
module _ (places : DayPlaces) (old : List Step) (whole : AnswerThere places old (Ok finding.Verified)) where
  one_file : (bytes : List ℕ) → seen old places.file ≡ Some bytes → whole.file ≡ bytes
  one_file bytes is = same_bytes whole.file bytes (sym whole.has_file ∙ is)

  one_records : (bytes : List ℕ) → seen old places.records ≡ Some bytes → whole.records ≡ bytes
  one_records bytes is = same_bytes whole.records bytes (sym whole.has_records ∙ is)

  one_text : (bytes : List ℕ) → seen old places.report ≡ Some bytes → whole.text ≡ bytes
  one_text bytes is = same_bytes whole.text bytes (sym whole.has_report ∙ is)

  shows : (file records text : List ℕ) → seen old places.file ≡ Some file → seen old places.records ≡ Some records
      → seen old places.report ≡ Some text → IsVerified file records text
  shows file records text f r t =
      subst (λ (b : List ℕ). IsVerified b records text) (one_file file f)
      (subst (λ (b : List ℕ). IsVerified whole.file b text) (one_records records r)
      (subst (λ (b : List ℕ). IsVerified whole.file whole.records b) (one_text text t) whole.answers))

pub exactly : VerifiedIsExact
exactly names places Verified old new is whole = inl refl
exactly names places Missing old new is whole = ⊎_elim
    (λ none. absurd (gone old places.report whole.text whole.has_report none))
    (λ other. absurd (gone old places.records whole.records whole.has_records other.no_records))
    is
exactly names places InPlace old new is whole = absurd (gone old places.records whole.records whole.has_records is.0.0)
exactly names places NotShown old new is whole =
    absurd (shown is.file is.records is.text (shows places old whole is.file is.records is.text is.has_file is.has_records is.has_report) is.answers)
exactly names places Differs old new is whole =
    absurd (no_difference is.file is.records is.text (shows places old whole is.file is.records is.text is.has_file is.has_records is.has_report) is.answers)
exactly names places (Refused (Day (File (stop.Input found)))) old new is whole = ⊎_elim
    (λ has. absurd (file_has_none has.file has.records has.text (shows places old whole has.file has.records has.text has.has_file has.has_records has.has_report) found has.answers))
    (λ cut. absurd (gone old places.records whole.records whole.has_records cut.no_records)) is
exactly names places (Refused (Day (Records (stop.Input found)))) old new is whole = ⊎_elim
    (λ has. absurd (records_have_none has.file has.records has.text (shows places old whole has.file has.records has.text has.has_file has.has_records has.has_report) found has.answers))
    (λ cut. absurd (gone old places.records whole.records whole.has_records cut.no_records)) is
exactly names places (Refused (Day (ReportLine line))) old new is whole = ⊎_elim
    (λ has.
    let verified = shows places old whole has.file has.records has.text has.has_file has.has_records has.has_report in
    absurd (reader.no_fault verified.shown.report has.text line verified.shown.read has.answers))
    (λ cut. absurd (gone old places.records whole.records whole.has_records cut.no_records)) is
exactly names places (Refused (Day (File stop.Read))) old new is whole = inr (inr (inr tt))
exactly names places (Refused (Day (File stop.Memory))) old new is whole = inr (inr (inr tt))
exactly names places (Refused (Day (Records stop.Read))) old new is whole = inr (inr (inr tt))
exactly names places (Refused (Day (Records stop.Memory))) old new is whole = inr (inr (inr tt))
exactly names places (Refused (Day ReportRead)) old new is whole = inr (inr (inr tt))
exactly names places (Refused (Day ReportMemory)) old new is whole = inr (inr (inr tt))
exactly names places (Refused SameFile) old new is whole = ⊎_elim (λ one. absurd (whole.apart one)) (λ failed. inr (inr (inl failed))) is
exactly names places (Refused FileUnopened) old new is whole = inr (inr (inl is))
exactly names places (Refused RecordsUnopened) old new is whole = inr (inr (inl is))
exactly names places (Refused ReportUnopened) old new is whole = inr (inr (inl is))
exactly names places (Refused Listing) old new is whole = absurd is
exactly names places (Refused RecordsListing) old new is whole = absurd is
exactly names places (Skipped fault) old new is whole = absurd is
exactly names places (Misplaced found) old new is whole = inr (inl is.1)
exactly names places Orphan old new is whole = absurd is
exactly names places (Known refusal) old new is whole = absurd is
exactly names places KnownMissing old new is whole = absurd is
