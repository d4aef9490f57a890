-- The entries of a walk: what was found of each, its line, and what they sum up to.
use Rattle.std.specs.Prelude.{◌≡◌, ℕ, ⊤, Bool, true, false, List, Result, Ok, Err}
use Rattle.std.specs.List.{count_by}
use Rattle.msr_folders.specs.Totals.{saturated}
use Rattle.msr_folders.specs.Days.{IsDay, IsNoDay}
use Rattle.msr_folders.specs.Belonging.{AreMisplaced, told_segments}
use Rattle.msr_options.specs.declared.names.DayName.{DayName}
use Rattle.msr_report.specs.declared.report.Report.{Report}
use Rattle.msr_report_reader.specs.Reading.{IsReadFrom}
use Rattle.msr_verify.specs.Day.{DayAnswers, IsShownLeast}
use Rattle.msr_verify.specs.declared.judging.Finding.{Finding}
use Rattle.msr_verify.specs.declared.judging.Finding.TheVariants as finding
use Rattle.msr_verify.specs.declared.judging.VerifyFault.{VerifyFault}
use Rattle.msr_verify.specs.declared.judgement.Judgement.{Judgement}
use Rattle.msr_verify.specs.declared.judgement.Judgement.TheVariants.{Verified, InPlace, Missing, NotShown, Differs, Misplaced, Refused, Skipped, Orphan, Known, KnownMissing}
use Rattle.msr_verify.specs.declared.judgement.Refusal.TheVariants.{FileUnopened, Listing, RecordsListing, Day}
use Rattle.msr_verify.specs.declared.tally.VerifyTally.{VerifyTally}

-- an entry: its path from the archive's folder, and what was found of it
pub record JudgedEntry : Type 0 where
  pub path : List ℕ
  pub judgement : Judgement

-- what is told of a day with this answer
abbrev pub judgement_of : Result Finding VerifyFault → Judgement
judgement_of (Ok finding.Verified) = Verified
judgement_of (Ok finding.NotShown) = NotShown
judgement_of (Ok finding.Differs) = Differs
judgement_of (Err fault) = Refused (Day fault)

-- what is told of a day without records with this answer
abbrev pub judgement_alone : Result Bool VerifyFault → Judgement
judgement_alone (Ok true) = InPlace
judgement_alone (Ok false) = Missing
judgement_alone (Err fault) = Refused (Day fault)

-- Some file is shown by some report to be records, and the fewest.
pub record IsShownAlone : Type 0 where
  pub file : List ℕ
  pub text : List ℕ
  pub shown : IsShownLeast file text

-- Some files, the day's own, its records and its report, have this answer. Nothing is known of the files of the
-- system but that they have some bytes.
pub record HasDayAnswer (answer : Result Finding VerifyFault) : Type 0 where
  pub file : List ℕ
  pub records : List ℕ
  pub text : List ℕ
  pub answers : DayAnswers file records text answer

-- Some report tells segments that do not belong to some day, by the one of this name.
pub record HasAstray (found : DayName) : Type 0 where
  pub name : DayName
  pub text : List ℕ
  pub report : Report
  pub read : IsReadFrom report text
  pub astray : AreMisplaced name (told_segments report.segments.items) found

-- what a judgement says of a day
abbrev pub IsJudgementOfDay : Judgement → Type 0
IsJudgementOfDay Verified = HasDayAnswer (Ok finding.Verified)
IsJudgementOfDay InPlace = IsShownAlone
IsJudgementOfDay NotShown = HasDayAnswer (Ok finding.NotShown)
IsJudgementOfDay Differs = HasDayAnswer (Ok finding.Differs)
IsJudgementOfDay (Misplaced found) = HasAstray found
IsJudgementOfDay (Refused (Day fault)) = HasDayAnswer (Err fault)
IsJudgementOfDay (Refused Listing) = ⊥
IsJudgementOfDay (Refused RecordsListing) = ⊥
IsJudgementOfDay (Skipped fault) = ⊥
IsJudgementOfDay _ = ⊤

-- The entry is a day, with this judgement.
pub record IsFoundOfDay (path : List ℕ) (judgement : Judgement) : Type 0 where
  pub day : IsDay path
  pub judgement_is : IsJudgementOfDay judgement

-- what a judgement says of an entry
abbrev pub IsJudgementOf : List ℕ → Judgement → Type 0
IsJudgementOf path (Refused FileUnopened) = ⊤
IsJudgementOf path (Refused Listing) = ⊤
IsJudgementOf path (Refused RecordsListing) = ⊤
IsJudgementOf path (Skipped fault) = IsNoDay path fault
IsJudgementOf path judgement = IsFoundOfDay path judgement

-- verified, or in place
abbrev pub is_verified : Judgement → Bool
is_verified Verified = true
is_verified InPlace = true
is_verified _ = false

abbrev pub is_missing : Judgement → Bool
is_missing Missing = true
is_missing _ = false

abbrev pub is_not_shown : Judgement → Bool
is_not_shown NotShown = true
is_not_shown _ = false

abbrev pub is_different : Judgement → Bool
is_different Differs = true
is_different _ = false

abbrev pub is_judged_refused : Judgement → Bool
is_judged_refused (Refused refusal) = true
is_judged_refused (Misplaced found) = true
is_judged_refused _ = false

abbrev pub is_judged_skipped : Judgement → Bool
is_judged_skipped (Skipped fault) = true
is_judged_skipped _ = false

abbrev pub is_orphan : Judgement → Bool
is_orphan Orphan = true
is_orphan _ = false

-- refused or missing, and a line that is known tells that
abbrev pub is_judged_known : Judgement → Bool
is_judged_known (Known refusal) = true
is_judged_known KnownMissing = true
is_judged_known _ = false

-- neither that nor verified, in place or skipped
abbrev pub is_unverified : Judgement → Bool
is_unverified Verified = false
is_unverified InPlace = false
is_unverified (Skipped fault) = false
is_unverified (Known refusal) = false
is_unverified KnownMissing = false
is_unverified _ = true

-- how many entries have such a judgement, or 2^64 - 1 if they are more
abbrev pub judged_count : (Judgement → Bool) → List JudgedEntry → ℕ
judged_count of entries = saturated (count_by (λ entry. of entry.judgement) entries)

-- the counts of the entries
abbrev pub verify_tally_of : List JudgedEntry → VerifyTally
verify_tally_of entries = record {
  verified = judged_count is_verified entries;
  skipped = judged_count is_judged_skipped entries;
  refused = judged_count is_judged_refused entries;
  known = judged_count is_judged_known entries;
  missing = judged_count is_missing entries;
  not_shown = judged_count is_not_shown entries;
  differ = judged_count is_different entries;
  orphans = judged_count is_orphan entries;
  unverified = judged_count is_unverified entries;
}

-- These are the counts of the entries.
pub record IsVerifyTally (entries : List JudgedEntry) (tally : VerifyTally) : Type 0 where
  pub verified : tally.verified ≡ judged_count is_verified entries
  pub skipped : tally.skipped ≡ judged_count is_judged_skipped entries
  pub refused : tally.refused ≡ judged_count is_judged_refused entries
  pub known : tally.known ≡ judged_count is_judged_known entries
  pub missing : tally.missing ≡ judged_count is_missing entries
  pub not_shown : tally.not_shown ≡ judged_count is_not_shown entries
  pub differ : tally.differ ≡ judged_count is_different entries
  pub orphans : tally.orphans ≡ judged_count is_orphan entries
  pub unverified : tally.unverified ≡ judged_count is_unverified entries
