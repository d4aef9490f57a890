-- The order in which the files of a day get their names: what a kill leaves.
use Rattle.std.proofs.Common.{◌≡◌, Bool, true, false, List, [], ◌∷◌, ℕ, refl, sym, subst, ◌∙◌, Option, Some, None, IfSome, IsSomeAnd}
use Rattle.msr_tree.specs.Steps.{Failed, FolderStored, Removed, Renamed, Step, Throughout, folder_above, seen, touches}
use Rattle.msr_tree.proofs.Changes.{ready_renamed}
use Rattle.msr_naming.specs.declared.files.DayFiles.{DayFiles}
use Rattle.msr_naming.specs.declared.files.Name.TheVariants.{Records, RecordsPart, Report, ReportPart, Stamp}
use Rattle.msr_naming.specs.Naming.{AreDayNames}
use Rattle.msr_naming.specs.Promise.{AreReady, HasReport, SeesNone}
use Rattle.msr_naming.proofs.Names.{not_renamed, ready_gone, ready_still, removed_unseen, seen_ready, seen_still}

module _ (is_own : (records report : List ℕ) → Bool) (files : DayFiles) where
  abbrev K : List Step → Type 0
  K = HasReport is_own files

  abbrev Beside : Option (List ℕ) → Option (List ℕ) → Type 0
  Beside records report = IfSome records (λ r. IsSomeAnd report (λ p. is_own r p ≡ true))

  pub none : (past : List Step) → seen past files.records.path ≡ None → K past
  none past is = record { report = subst (λ x. Beside x (seen past files.report.path)) (sym is) tt }

  pub both : (past : List Step) (r p : List ℕ) → is_own r p ≡ true → seen past files.records.path ≡ Some r → seen past files.report.path ≡ Some p → K past
  both past r p owns rs ps =
      let all : Beside (Some r) (Some p) = owns in
      record { report = subst (λ x. Beside x (seen past files.report.path)) (sym rs) (subst (λ x. Beside (Some r) x) (sym ps) all) }

  pub alone : (step : Step) (past : List Step) → touches step files.records.path ≡ false → touches step files.report.path ≡ false → K past → K (step ∷ past)
  alone step past r p has =
      record {
        report = subst (λ x. Beside x (seen (step ∷ past) files.report.path)) (sym (seen_still step past files.records.path r))
            (subst (λ x. Beside (seen past files.records.path) x) (sym (seen_still step past files.report.path p)) has.report);
      }

  pub fails : (past : List Step) → K past → K (Failed ∷ past)
  fails past has = alone Failed past refl refl has

  module _ (are : AreDayNames files) where
    pub unseen : (past : List Step) → seen (Removed files.records.path ∷ past) files.records.path ≡ None
    unseen past = removed_unseen files.records.path past

    pub gone : (old : List Step) → K old → Throughout K old (FolderStored (folder_above files.records.path) ∷ Removed files.records.path ∷ FolderStored (folder_above files.report.path) ∷ Removed files.stamp.path ∷ [])
    gone old has =
        let l1 = Removed files.stamp.path ∷ old in
        let l2 = FolderStored (folder_above files.report.path) ∷ l1 in
        let l3 = Removed files.records.path ∷ l2 in
        let h1 = alone (Removed files.stamp.path) old (are.apart Records Stamp refl) (are.apart Report Stamp refl) has in
        let h2 = alone (FolderStored (folder_above files.report.path)) l1 refl refl h1 in
        let h3 = none l3 (unseen l2) in
        let h4 = alone (FolderStored (folder_above files.records.path)) l3 refl refl h3 in
        ((((has, h1), h2), h3), h4)

    pub clearing : (old : List Step) → K old → Throughout K old (FolderStored (folder_above files.report.path) ∷ Removed files.report.path
        ∷ FolderStored (folder_above files.records.path) ∷ Removed files.records.path ∷ FolderStored (folder_above files.report.path) ∷ Removed files.stamp.path ∷ [])
    clearing old has =
        let l2 = FolderStored (folder_above files.report.path) ∷ Removed files.stamp.path ∷ old in
        let l4 = FolderStored (folder_above files.records.path) ∷ Removed files.records.path ∷ l2 in
        let l5 = Removed files.report.path ∷ l4 in
        let unseen5 : seen l5 files.records.path ≡ None = seen_still (Removed files.report.path) l4 files.records.path (are.apart Records Report refl) ∙ unseen l2 in
        let h5 = none l5 unseen5 in
        let h6 = alone (FolderStored (folder_above files.report.path)) l5 refl refl h5 in
        ((gone old has, h5), h6)

    module _ (r p : List ℕ) (owns : is_own r p ≡ true) where
      -- report and records get their names where no records are seen, with a step between that leaves names alone
      pub named : (old : List Step) → seen old files.records.path ≡ None → AreReady files r p old → K old
          → Throughout K old (Renamed files.records.part files.records.path ∷ Renamed files.report.part files.report.path ∷ [])
      named old unseen0 ready has =
          let one = Renamed files.report.part files.report.path in
          let two = Renamed files.records.part files.records.path in
          let l1 = one ∷ old in
          let unseen1 : seen l1 files.records.path ≡ None = seen_still one old files.records.path (not_renamed files.report.part files.report.path files.records.path (are.apart Records Report refl) (are.apart Records ReportPart refl)) ∙ unseen0 in
          let report1 = ready_renamed files.report.part files.report.path p old ready.report_is in
          let part1 = ready_still one old files.records.part r (not_renamed files.report.part files.report.path files.records.part (are.apart RecordsPart Report refl) (are.apart RecordsPart ReportPart refl)) ready.records_are in
          let report2 = ready_still two l1 files.report.path p (not_renamed files.records.part files.records.path files.report.path (are.apart Report Records refl) (are.apart Report RecordsPart refl)) report1 in
          let records2 = ready_renamed files.records.part files.records.path r l1 part1 in
          let h2 = both (two ∷ l1) r p owns (seen_ready (two ∷ l1) files.records.path r records2) (seen_ready (two ∷ l1) files.report.path p report2) in
          ((has, none l1 unseen1), h2)

      pub naming_new : (old : List Step) → SeesNone files old → AreReady files r p old → Throughout K old (Renamed files.records.part files.records.path ∷ Renamed files.report.part files.report.path ∷ [])
      naming_new old unseen_all ready = named old unseen_all.0 ready (none old unseen_all.0)

      pub naming_unstored : (old : List Step) → AreReady files r p old → K old
          → Throughout K old (Renamed files.records.part files.records.path ∷ Renamed files.report.part files.report.path ∷ Removed files.records.path ∷ Removed files.stamp.path ∷ [])
      naming_unstored old ready has =
          let l1 = Removed files.stamp.path ∷ old in
          let l2 = Removed files.records.path ∷ l1 in
          let ready2 : AreReady files r p l2 = record {
            records_are = ready_still (Removed files.records.path) l1 files.records.part r (are.apart RecordsPart Records refl) (ready_still (Removed files.stamp.path) old files.records.part r (are.apart RecordsPart Stamp refl) ready.records_are);
            report_is = ready_still (Removed files.records.path) l1 files.report.part p (are.apart ReportPart Records refl) (ready_still (Removed files.stamp.path) old files.report.part p (are.apart ReportPart Stamp refl) ready.report_is);
          } in
          let h1 = alone (Removed files.stamp.path) old (are.apart Records Stamp refl) (are.apart Report Stamp refl) has in
          let h2 = none l2 (unseen l1) in
          let rest = named l2 (unseen l1) ready2 h2 in
          ((((has, h1), h2), rest.0.1), rest.1)

      pub naming : (old : List Step) → AreReady files r p old → K old
          → Throughout K old (Renamed files.records.part files.records.path ∷ FolderStored (folder_above files.report.path) ∷ Renamed files.report.part files.report.path
          ∷ FolderStored (folder_above files.records.path) ∷ Removed files.records.path ∷ FolderStored (folder_above files.report.path) ∷ Removed files.stamp.path ∷ [])
      naming old ready has =
          let l4 = FolderStored (folder_above files.records.path) ∷ Removed files.records.path ∷ FolderStored (folder_above files.report.path) ∷ Removed files.stamp.path ∷ old in
          let one = Renamed files.report.part files.report.path in
          let store = FolderStored (folder_above files.report.path) in
          let two = Renamed files.records.part files.records.path in
          let l5 = one ∷ l4 in
          let l6 = store ∷ l5 in
          let ready4 = ready_gone files are r p old ready in
          let unseen5 : seen l5 files.records.path ≡ None = seen_still one l4 files.records.path (not_renamed files.report.part files.report.path files.records.path (are.apart Records Report refl) (are.apart Records ReportPart refl)) ∙ unseen (FolderStored (folder_above files.report.path) ∷ Removed files.stamp.path ∷ old) in
          let report6 = ready_still store l5 files.report.path p refl (ready_renamed files.report.part files.report.path p l4 ready4.report_is) in
          let part6 = ready_still store l5 files.records.part r refl (ready_still one l4 files.records.part r (not_renamed files.report.part files.report.path files.records.part (are.apart RecordsPart Report refl) (are.apart RecordsPart ReportPart refl)) ready4.records_are) in
          let report7 = ready_still two l6 files.report.path p (not_renamed files.records.part files.records.path files.report.path (are.apart Report Records refl) (are.apart Report RecordsPart refl)) report6 in
          let records7 = ready_renamed files.records.part files.records.path r l6 part6 in
          let h5 = none l5 unseen5 in
          let h6 = alone store l5 refl refl h5 in
          let h7 = both (two ∷ l6) r p owns (seen_ready (two ∷ l6) files.records.path r records7) (seen_ready (two ∷ l6) files.report.path p report7) in
          (((gone old has, h5), h6), h7)
