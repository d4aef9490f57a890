-- The order in which the files of a day get their names.
use Rattle.std.proofs.Common.{◌≡◌, ⊎_elim, ℕ, Bool, true, false, List, [], ◌∷◌, refl, sym, subst, Option, Some, None, IfSome, IsSomeAnd}
use Rattle.msr_tree.specs.Steps.{Failed, FolderStored, Leaves, MayLeave, Removed, Renamed, Step, Throughout, folder_above, touches}
use Rattle.msr_tree.proofs.Changes.{ready_renamed, ready_settled}
use Rattle.msr_tree.proofs.Crash.{is_self, quiet, still, untouched}
use Rattle.msr_naming.specs.declared.files.DayFiles.{DayFiles}
use Rattle.msr_naming.specs.declared.files.Name.TheVariants.{Records, RecordsPart, Report, ReportPart, Stamp}
use Rattle.msr_naming.specs.Naming.{AreDayNames}
use Rattle.msr_naming.specs.Promise.{AreReady, HasOwn, IsFree}
use Rattle.msr_naming.proofs.Names.{MayHave, fewer_or_none, may_nothing, may_renamed, may_still, may_these, no_records_left, no_stamp_gone, no_stamp_left, not_renamed, ready_gone, ready_still}

module _ (is_own : (records report : List ℕ) → Bool) (is_of : (stamp records report : List ℕ) → Bool) (files : DayFiles) where
  abbrev P : List Step → Type 0
  P = HasOwn is_own is_of files

  abbrev Own : Option (List ℕ) → Option (List ℕ) → Type 0
  Own records report = IfSome records (λ r. IfSome report (λ p. is_own r p ≡ true))

  abbrev Of : Option (List ℕ) → Option (List ℕ) → Option (List ℕ) → Type 0
  Of stamp records report = IfSome stamp (λ s. IsSomeAnd records (λ r. IsSomeAnd report (λ p. is_of s r p ≡ true)))

  unstamped : (stamp records report : Option (List ℕ)) → stamp ≡ None → Of stamp records report
  unstamped stamp records report is = subst (λ x. Of x records report) (sym is) tt

  none : (records report : Option (List ℕ)) → records ≡ None → Own records report
  none records report is = subst (λ x. Own x report) (sym is) tt

  alone_shown : (records report : Option (List ℕ)) → report ≡ None → Own records report
  alone_shown None report is = tt
  alone_shown (Some r) report is = subst (λ x. Own (Some r) x) (sym is) tt

  own : (r p : List ℕ) (records report : Option (List ℕ)) → is_own r p ≡ true → records ≡ Some r → report ≡ Some p → Own records report
  own r p records report is rs ps = let both : Own (Some r) (Some p) = is in subst (λ x. Own x report) (sym rs) (subst (λ x. Own (Some r) x) (sym ps) both)

  of : (s r p : List ℕ) (stamp records report : Option (List ℕ)) → is_of s r p ≡ true → stamp ≡ Some s → records ≡ Some r → report ≡ Some p → Of stamp records report
  of s r p stamp records report is ss rs ps =
      let all : Of (Some s) (Some r) (Some p) = is in
      subst (λ x. Of x records report) (sym ss) (subst (λ x. Of (Some s) x report) (sym rs) (subst (λ x. Of (Some s) (Some r) x) (sym ps) all))

  -- a step that leaves the three names alone
  pub alone : (step : Step) (past : List Step) → touches step files.stamp.path ≡ false → touches step files.records.path ≡ false → touches step files.report.path ≡ false → P past → P (step ∷ past)
  alone step past s r p has = record {
    report = λ records report mr mp. has.report records report (quiet step past files.records.path records (untouched step past files.records.path r) mr) (quiet step past files.report.path report (untouched step past files.report.path p) mp);
    stamp = λ stamp records report ms mr mp. has.stamp stamp records report (quiet step past files.stamp.path stamp (untouched step past files.stamp.path s) ms)
        (quiet step past files.records.path records (untouched step past files.records.path r) mr) (quiet step past files.report.path report (untouched step past files.report.path p) mp);
  }

  pub fails : (past : List Step) → P past → P (Failed ∷ past)
  fails past has = alone Failed past refl refl refl has

  -- neither a stamp nor records
  pub nothing : (past : List Step) → Leaves past files.stamp.path None → Leaves past files.records.path None → P past
  nothing past no_stamp no_records = record {
    report = λ records report mr mp. none records report (no_records records mr);
    stamp = λ stamp records report ms mr mp. unstamped stamp records report (no_stamp stamp ms);
  }

  -- no stamp, and perhaps the records, and perhaps their report
  may_own : (r p : List ℕ) (past : List Step) → is_own r p ≡ true → Leaves past files.stamp.path None → MayHave past files.records.path r → MayHave past files.report.path p → P past
  may_own r p past owns no_stamp records_may report_may = record {
    report = λ records report mr mp. ⊎_elim
        (λ gone. none records report gone)
        (λ is. ⊎_elim (λ gone. alone_shown records report gone) (λ it. own r p records report owns is it) (report_may report mp))
        (records_may records mr);
    stamp = λ stamp records report ms mr mp. unstamped stamp records report (no_stamp stamp ms);
  }

  -- records and report, and perhaps a stamp that is of them
  pub has_all : (r p : List ℕ) (past : List Step) → is_own r p ≡ true → ((after : Option (List ℕ)) → MayLeave past files.stamp.path after → IfSome after (λ s. is_of s r p ≡ true))
      → Leaves past files.records.path (Some r) → Leaves past files.report.path (Some p) → P past
  has_all r p past owns stamp_may records_are report_is = record {
    report = λ records report mr mp. own r p records report owns (records_are records mr) (report_is report mp);
    stamp = λ stamp records report ms mr mp. stamp_of r p stamp records report (stamp_may stamp ms) (records_are records mr) (report_is report mp);
  }
    where
      stamp_of : (r p : List ℕ) (stamp records report : Option (List ℕ)) → IfSome stamp (λ s. is_of s r p ≡ true) → records ≡ Some r → report ≡ Some p → Of stamp records report
      stamp_of r p None records report is rs ps = tt
      stamp_of r p (Some s) records report is rs ps = of s r p (Some s) records report is refl rs ps

  module _ (are : AreDayNames files) where
    unstamps : (past : List Step) → P past → P (Removed files.stamp.path ∷ past)
    unstamps past has =
        let step = Removed files.stamp.path in
        let r = untouched step past files.records.path (are.apart Records Stamp refl) in
        let p = untouched step past files.report.path (are.apart Report Stamp refl) in
        record {
          report = λ records report mr mp. has.report records report (quiet step past files.records.path records r mr) (quiet step past files.report.path report p mp);
          stamp = λ stamp records report ms mr mp. ⊎_elim
              (λ before. has.stamp stamp records report before (quiet step past files.records.path records r mr) (quiet step past files.report.path report p mp))
              (λ gone. unstamped stamp records report gone)
              (fewer_or_none files.stamp.path past stamp ms);
        }

    clears : (past : List Step) → Leaves past files.stamp.path None → P past → P (Removed files.records.path ∷ past)
    clears past no_stamp has =
        let step = Removed files.records.path in
        record {
          report = λ records report mr mp. ⊎_elim
              (λ before. has.report records report before (quiet step past files.report.path report (untouched step past files.report.path (are.apart Report Records refl)) mp))
              (λ gone. none records report gone)
              (fewer_or_none files.records.path past records mr);
          stamp = λ stamp records report ms mr mp. unstamped stamp records report (still step past files.stamp.path None (are.apart Stamp Records refl) no_stamp stamp ms);
        }

    abbrev pub gone : List Step
    gone = FolderStored (folder_above files.records.path) ∷ Removed files.records.path ∷ FolderStored (folder_above files.report.path) ∷ Removed files.stamp.path ∷ []

    -- the old stamp and the old records go
    pub going : (old : List Step) → P old → Throughout P old gone
    going old has =
        let l1 = Removed files.stamp.path ∷ old in
        let l2 = FolderStored (folder_above files.report.path) ∷ l1 in
        let l3 = Removed files.records.path ∷ l2 in
        let l4 = FolderStored (folder_above files.records.path) ∷ l3 in
        let h1 = unstamps old has in
        let h2 = alone (FolderStored (folder_above files.report.path)) l1 refl refl refl h1 in
        let h3 = clears l2 (no_stamp_gone files are old) h2 in
        let h4 = nothing l4 (no_stamp_left files are old) (no_records_left files are old) in
        ((((has, h1), h2), h3), h4)

    -- and then the report
    pub clearing : (old : List Step) → P old → Throughout P old (FolderStored (folder_above files.report.path) ∷ Removed files.report.path ∷ gone)
    clearing old has =
        let l4 = FolderStored (folder_above files.records.path) ∷ Removed files.records.path ∷ FolderStored (folder_above files.report.path) ∷ Removed files.stamp.path ∷ old in
        let l5 = Removed files.report.path ∷ l4 in
        let l6 = FolderStored (folder_above files.report.path) ∷ l5 in
        let no_stamp5 = still (Removed files.report.path) l4 files.stamp.path None (are.apart Stamp Report refl) (no_stamp_left files are old) in
        let no_records5 = still (Removed files.report.path) l4 files.records.path None (are.apart Records Report refl) (no_records_left files are old) in
        let h5 = nothing l5 no_stamp5 no_records5 in
        let h6 = alone (FolderStored (folder_above files.report.path)) l5 refl refl refl h5 in
        ((going old has, h5), h6)

    module _ (r p : List ℕ) (owns : is_own r p ≡ true) where
      pub naming_new : (old : List Step) → IsFree files old → AreReady files r p old → Throughout P old (Renamed files.records.part files.records.path ∷ Renamed files.report.part files.report.path ∷ [])
      naming_new old free ready =
          let one = Renamed files.report.part files.report.path in
          let two = Renamed files.records.part files.records.path in
          let stamp_not = not_renamed files.report.part files.report.path files.stamp.path (are.apart Stamp Report refl) (are.apart Stamp ReportPart refl) in
          let records_not = not_renamed files.report.part files.report.path files.records.path (are.apart Records Report refl) (are.apart Records ReportPart refl) in
          let part_not = not_renamed files.report.part files.report.path files.records.part (are.apart RecordsPart Report refl) (are.apart RecordsPart ReportPart refl) in
          let l1 = one ∷ old in
          let no_stamp1 = still one old files.stamp.path None stamp_not free.stamp in
          let no_records1 = still one old files.records.path None records_not free.records in
          let report1 = may_renamed files.report.part files.report.path old p ready.report_is (may_nothing old files.report.path p free.report) in
          let ready1 = ready_still one old files.records.part r part_not ready.records_are in
          let h0 = nothing old free.stamp free.records in
          let h1 = nothing l1 no_stamp1 no_records1 in
          let no_stamp2 = still two l1 files.stamp.path None (not_renamed files.records.part files.records.path files.stamp.path (are.apart Stamp Records refl) (are.apart Stamp RecordsPart refl)) no_stamp1 in
          let records2 = may_renamed files.records.part files.records.path l1 r ready1 (may_nothing l1 files.records.path r no_records1) in
          let report2 = may_still two l1 files.report.path p (not_renamed files.records.part files.records.path files.report.path (are.apart Report Records refl) (are.apart Report RecordsPart refl)) report1 in
          let h2 = may_own r p (two ∷ l1) owns no_stamp2 records2 report2 in
          ((h0, h1), h2)

      pub naming : (old : List Step) → P old → AreReady files r p old
          → Throughout P old (Renamed files.records.part files.records.path ∷ FolderStored (folder_above files.report.path) ∷ Renamed files.report.part files.report.path ∷ gone)
      naming old has ready =
          let l4 = FolderStored (folder_above files.records.path) ∷ Removed files.records.path ∷ FolderStored (folder_above files.report.path) ∷ Removed files.stamp.path ∷ old in
          let one = Renamed files.report.part files.report.path in
          let store = FolderStored (folder_above files.report.path) in
          let two = Renamed files.records.part files.records.path in
          let l5 = one ∷ l4 in
          let l6 = store ∷ l5 in
          let ready4 = ready_gone files are r p old ready in
          let no_stamp5 = still one l4 files.stamp.path None (not_renamed files.report.part files.report.path files.stamp.path (are.apart Stamp Report refl) (are.apart Stamp ReportPart refl)) (no_stamp_left files are old) in
          let no_records5 = still one l4 files.records.path None (not_renamed files.report.part files.report.path files.records.path (are.apart Records Report refl) (are.apart Records ReportPart refl)) (no_records_left files are old) in
          let report5 = ready_renamed files.report.part files.report.path p l4 ready4.report_is in
          let part5 = ready_still one l4 files.records.part r (not_renamed files.report.part files.report.path files.records.part (are.apart RecordsPart Report refl) (are.apart RecordsPart ReportPart refl)) ready4.records_are in
          let no_stamp6 = still store l5 files.stamp.path None refl no_stamp5 in
          let no_records6 = still store l5 files.records.path None refl no_records5 in
          let report6 = ready_settled files.report.path (folder_above files.report.path) p l5 (is_self (folder_above files.report.path)) report5 in
          let part6 = ready_still store l5 files.records.part r refl part5 in
          let no_stamp7 = still two l6 files.stamp.path None (not_renamed files.records.part files.records.path files.stamp.path (are.apart Stamp Records refl) (are.apart Stamp RecordsPart refl)) no_stamp6 in
          let records7 = may_renamed files.records.part files.records.path l6 r part6 (may_nothing l6 files.records.path r no_records6) in
          let report7 = may_still two l6 files.report.path p (not_renamed files.records.part files.records.path files.report.path (are.apart Report Records refl) (are.apart Report RecordsPart refl)) (may_these l6 files.report.path p report6) in
          let h5 = nothing l5 no_stamp5 no_records5 in
          let h6 = nothing l6 no_stamp6 no_records6 in
          let h7 = may_own r p (two ∷ l6) owns no_stamp7 records7 report7 in
          (((going old has, h5), h6), h7)
