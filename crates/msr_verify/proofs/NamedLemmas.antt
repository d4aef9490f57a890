-- Of a day of which it may be asked that its segments belong to it.
use Rattle.std.proofs.Common.{◌≡◌, ◌⊎◌, inl, inr, ℕ, true, false, List, None, Some, refl, sym, subst, Result, Ok, Err, IfOk}
use Rattle.msr_folders.specs.Belonging.{IsFoundAsAsked, told_segments}
use Rattle.msr_devices.specs.Device.{Device, HasLeft}
use Rattle.msr_devices.specs.declared.fault.DeviceFault.{DeviceFault}
use Rattle.msr_folders.proofs.WalkedLemmas.{goes_so, goes_then}
use Rattle.msr_options.specs.declared.names.DayName.{DayName}
use Rattle.msr_options.specs.declared.names.Names.{Names}
use Rattle.msr_options.specs.declared.names.Names.TheVariants.{Any, Of, Own}
use Rattle.msr_report.specs.declared.report.Report.{Report}
use Rattle.msr_report_reader.proofs.OneContent.{no_fault}
use Rattle.msr_report_reader.specs.Reading.{IsReadFrom, ReadsReport}
use Rattle.msr_report_reader.specs.declared.fault.ReportFault.{ReportFault}
use Rattle.msr_report_reader.specs.declared.fault.ReportFault.TheVariants as report_stop
use Rattle.msr_tree.proofs.Reading.{look_reads, looks_none, looks_then, reads_none}
use Rattle.msr_tree.specs.Calls.{Goes}
use Rattle.msr_tree.specs.Reads.{OnlyLooks}
use Rattle.msr_tree.specs.Steps.{Path, Step, seen}
use Rattle.msr_verify.proofs.OpeningLemmas.{left_is}
use Rattle.msr_verify.proofs.TellingThere.{again_there}
use Rattle.msr_verify.specs.Day.{verify_fault_of_report}
use Rattle.msr_verify.specs.Entries.{HasAstray}
use Rattle.msr_verify.specs.Files.{DayPlaces, IsJudgementThere, IsNamedThere, JudgesDay, JudgesNamed, TellsSegments, asks_again}
use Rattle.msr_verify.specs.Opening.{IsReportCut, IsToldAgain, JudgesSegments, OpensFile}
use Rattle.msr_verify.specs.declared.judging.VerifyFault.{VerifyFault}
use Rattle.msr_verify.specs.declared.judging.VerifyFault.TheVariants.{File, Records, ReportLine, ReportMemory, ReportRead}
use Rattle.msr_verify.specs.declared.judgement.Judgement.{Judgement}
use Rattle.msr_verify.specs.declared.judgement.Judgement.TheVariants.{Differs, InPlace, Known, KnownMissing, Misplaced, Missing, NotShown, Orphan, Refused, Skipped, Verified}
use Rattle.msr_verify.specs.declared.judgement.Refusal.TheVariants.{Day, ReportUnopened}

-- verified, or in place
abbrev IsGood : Judgement → Type 0
IsGood judgement = (judgement ≡ Verified) ⊎ (judgement ≡ InPlace)

good_of : (names : Names) (judgement : Judgement) → asks_again names judgement ≡ true → IsGood judgement
good_of (Of name) Verified asks = inl refl
good_of (Of name) InPlace asks = inr refl
good_of names judgement asks = absurd cc

-- what is found of the segments of a report
pub astray_told : (names : Names) (report : Report) (text : List ℕ) (found : DayName) → IsReadFrom report text
    → IsFoundAsAsked names (told_segments report.segments.items) (Some found) → HasAstray found
astray_told (Of name) report text found reads is = record { name = name; text = text; report = report; read = reads; astray = is }
astray_told names report text found reads is = absurd cc

-- A report is read again.
module _ (names : Names) (report : Path) (judgement : Judgement) where
  -- what a source has that was opened says what is told
  segments_by : {R : Type 0} (device : R → Device) (reader : R) (text : List ℕ) (told : Judgement) (before after : List Step → Type 0) → HasLeft (device reader) text
      → ((old new : List Step) → seen old report ≡ Some text → IsToldAgain names report judgement told old new)
      → Goes before after (OpensFile report ReportUnopened device (Ok reader)) → Goes before after (JudgesSegments names report judgement (Ok told))
  segments_by device reader text told before after left so goes = goes_so _ _ before after (λ old new went opens. record {
    looks = subst (λ l. OnlyLooks old l) (sym opens.0) (looks_none old);
    says = so old new (left_is old report (device reader) text opens.1 left);
  }) goes

  pub segments_misplaced : {R : Type 0} (device : R → Device) (reader : R) (text : List ℕ) (read : Report) (found : DayName) (before after : List Step → Type 0)
      → HasLeft (device reader) text → IsReadFrom read text → IsFoundAsAsked names (told_segments read.segments.items) (Some found)
      → Goes before after (OpensFile report ReportUnopened device (Ok reader)) → Goes before after (JudgesSegments names report judgement (Ok (Misplaced found)))
  segments_misplaced device reader text read found before after left reads is goes = segments_by device reader text (Misplaced found) before after left
      (λ old new has. record { text = text; report = read; has_report = has; read = reads; is = is }) goes

  -- of a judgement of which this is asked
  again_same : (judged : Judgement) (old new : List Step) → IsGood judged → TellsSegments names report None old → IsToldAgain names report judged judged old new
  again_same Verified old new good tells = (refl, tells)
  again_same InPlace old new good tells = (refl, tells)
  again_same Missing old new good tells = (refl, tells)
  again_same NotShown old new good tells = (refl, tells)
  again_same Differs old new good tells = (refl, tells)
  again_same (Skipped fault) old new good tells = (refl, tells)
  again_same Orphan old new good tells = (refl, tells)
  again_same (Known refusal) old new good tells = (refl, tells)
  again_same KnownMissing old new good tells = (refl, tells)
  again_same (Misplaced found) old new good tells = absurd (elim good [ inl e ↦ cc | inr e ↦ cc ])
  again_same (Refused why) old new good tells = absurd (elim good [ inl e ↦ cc | inr e ↦ cc ])

  pub segments_belong : {R : Type 0} (device : R → Device) (reader : R) (text : List ℕ) (read : Report) (before after : List Step → Type 0) → asks_again names judgement ≡ true
      → HasLeft (device reader) text → IsReadFrom read text → IsFoundAsAsked names (told_segments read.segments.items) None
      → Goes before after (OpensFile report ReportUnopened device (Ok reader)) → Goes before after (JudgesSegments names report judgement (Ok judgement))
  segments_belong device reader text read before after asks left reads is goes = segments_by device reader text judgement before after left
      (λ old new has. again_same judgement old new (good_of names judgement asks) (record { text = text; report = read; has_report = has; read = reads; is = is })) goes

  -- the report is at fault
  cut_by : (text : List ℕ) (why : ReportFault) (past : List Step) → ReadsReport text (Err why) → seen past report ≡ Some text → IsReportCut report (verify_fault_of_report why) past
  cut_by text (report_stop.Line line) past reads has = (text, has, reads)
  cut_by text report_stop.Read past reads has = tt
  cut_by text report_stop.Memory past reads has = tt

  pub segments_cut : {R : Type 0} (device : R → Device) (reader : R) (text : List ℕ) (why : ReportFault) (before after : List Step → Type 0)
      → HasLeft (device reader) text → ReadsReport text (Err why)
      → Goes before after (OpensFile report ReportUnopened device (Ok reader)) → Goes before after (JudgesSegments names report judgement (Ok (Refused (Day (verify_fault_of_report why)))))
  segments_cut device reader text why before after left reads goes = segments_by device reader text (Refused (Day (verify_fault_of_report why))) before after left
      (λ old new has. cut_by text why old reads has) goes

module _ (names : Names) (places : DayPlaces) where
  -- that is not asked
  named_as : (one : Names) (judgement : Judgement) (old new : List Step) → asks_again one judgement ≡ false → IsJudgementThere places judgement old new → IsNamedThere one places judgement old new
  named_as (Of name) Verified old new not is = absurd cc
  named_as (Of name) InPlace old new not is = absurd cc
  named_as Any Verified old new not is =
      (is, record { text = is.text; report = is.answers.shown.report; has_report = is.has_report; read = is.answers.shown.read; is = refl })
  named_as Own Verified old new not is =
      (is, record { text = is.text; report = is.answers.shown.report; has_report = is.has_report; read = is.answers.shown.read; is = refl })
  named_as Any InPlace old new not is =
      (is, record { text = is.1.text; report = is.1.shown.report; has_report = is.1.has_report; read = is.1.shown.read; is = refl })
  named_as Own InPlace old new not is =
      (is, record { text = is.1.text; report = is.1.shown.report; has_report = is.1.has_report; read = is.1.shown.read; is = refl })
  named_as one (Misplaced found) old new not is = absurd is
  named_as one judgement old new not is = is

  pub judged_unasked : (judgement : Judgement) (before after : List Step → Type 0) → asks_again names judgement ≡ false
      → Goes before after (JudgesDay places (Ok judgement)) → Goes before after (JudgesNamed names places (Ok judgement))
  judged_unasked judgement before after not goes =
      goes_so _ _ before after (λ old new went is. record { looks = is.looks; says = named_as names judgement old new not is.says }) goes

  pub judged_stopped : (fault : DeviceFault) (before after : List Step → Type 0)
      → Goes before after (JudgesDay places (Err fault)) → Goes before after (JudgesNamed names places (Err fault))
  judged_stopped fault before after goes = goes_so _ _ before after (λ old new went is. record { looks = is.looks; says = tt }) goes

  -- a report that is read again has no fault
  unread : (judgement : Judgement) (why : VerifyFault) (old new : List Step) → IsGood judgement
      → IsJudgementThere places judgement old new → IsReportCut places.report why old → IsJudgementThere places (Refused (Day why)) old new
  unread Verified (ReportLine line) old new good is cut = inl (record {
    file = is.file;
    records = is.records;
    text = cut.0;
    has_file = is.has_file;
    has_records = is.has_records;
    has_report = cut.1;
    answers = cut.2;
    apart = is.apart;
  })
  unread Verified ReportRead old new good is cut = inl (record {
    file = is.file;
    records = is.records;
    text = is.text;
    has_file = is.has_file;
    has_records = is.has_records;
    has_report = is.has_report;
    answers = tt;
    apart = is.apart;
  })
  unread Verified ReportMemory old new good is cut = inl (record {
    file = is.file;
    records = is.records;
    text = is.text;
    has_file = is.has_file;
    has_records = is.has_records;
    has_report = is.has_report;
    answers = tt;
    apart = is.apart;
  })
  unread InPlace (ReportLine line) old new good is cut =
      let same : is.1.text ≡ cut.0 = let one = is.1.has_report in let other = cut.1 in cc in
      absurd (no_fault is.1.shown.report cut.0 line (subst (λ (t : List ℕ). IsReadFrom is.1.shown.report t) same is.1.shown.read) cut.2)
  unread InPlace ReportRead old new good is cut = inr (record { no_records = is.0; cut = tt })
  unread InPlace ReportMemory old new good is cut = inr (record { no_records = is.0; cut = tt })
  unread judgement (File why) old new good is cut = absurd cut
  unread judgement (Records why) old new good is cut = absurd cut
  unread judgement why old new good is cut = absurd (elim good [ inl e ↦ cc | inr e ↦ cc ])

  -- the judgement is told again, or what is found of the segments
  told_again : (judgement told : Judgement) (old mid new : List Step) → IsGood judgement → IsJudgementThere places judgement old mid
      → IsToldAgain names places.report judgement told old new → IsNamedThere names places told old new
  told_again Verified (Misplaced found) old mid new good is said = (inl is, said)
  told_again InPlace (Misplaced found) old mid new good is said = (inr is, said)
  told_again Verified Verified old mid new good is said = (is, said.1)
  told_again InPlace InPlace old mid new good is said = (is, said.1)
  told_again judgement (Refused ReportUnopened) old mid new good is said = said
  told_again judgement (Refused (Day why)) old mid new good is said = unread judgement why old mid good is said
  told_again judgement (Misplaced found) old mid new good is said = absurd (elim good [ inl e ↦ cc | inr e ↦ cc ])
  told_again judgement told old mid new good is said =
      absurd (elim good [ inl e ↦ let same = said.0 in cc | inr e ↦ let same = said.0 in cc ])

  pub judged_again : (judgement : Judgement) (result : Result Judgement DeviceFault) (before mid after : List Step → Type 0) → asks_again names judgement ≡ true
      → Goes before mid (JudgesDay places (Ok judgement)) → Goes mid after (JudgesSegments names places.report judgement result) → Goes before after (JudgesNamed names places result)
  judged_again judgement result before mid after asks one two = goes_then _ _ _ before mid after (λ old middle new first second. record {
    looks = looks_then old middle new first.looks second.looks;
    says = by result old middle new first.looks first.says second.says;
  }) one two
    where
      by : (r : Result Judgement DeviceFault) (old middle new : List Step) → OnlyLooks old middle → IsJudgementThere places judgement old middle
          → IfOk r (λ told. IsToldAgain names places.report judgement told middle new) → IfOk r (λ told. IsNamedThere names places told old new)
      by (Ok told) old middle new looks is said =
          told_again judgement told old middle new (good_of names judgement asks) is
          (again_there old middle new new (look_reads old middle looks) (reads_none new) names places.report judgement told said)
      by (Err e) old middle new looks is said = tt
