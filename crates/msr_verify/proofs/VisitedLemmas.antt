-- What a visit tells, put together from what was done.
use Rattle.std.proofs.Common.{◌≡◌, ◌↔◌, inl, inr, ℕ, true, false, List, [], ◌∷◌, refl, Result, Ok, Err}
use Rattle.msr_devices.specs.Device.{Device}
use Rattle.msr_folders.proofs.VisitLemmas.{these_none}
use Rattle.msr_folders.proofs.ReadingLemmas.{visited_by, visited_still}
use Rattle.msr_folders.specs.Days.{IsDay, IsNoDay}
use Rattle.msr_folders.specs.Entries.{Entry, Left, Visit, WithoutList}
use Rattle.msr_folders.specs.Paths.{joined, told_folder}
use Rattle.msr_folders.specs.Walks.{TellsVisit}
use Rattle.msr_sds.specs.SdsPath.{HasDate, IsWaveform, ReadsAs, SdsPath}
use Rattle.msr_sds.specs.declared.SdsFault.{SdsFault}
use Rattle.msr_sds.specs.declared.SdsFault.TheVariants.{BadDay, NotSds, NotWaveform}
use Rattle.msr_tree.specs.Calls.{Goes}
use Rattle.msr_tree.specs.Reads.{OnlyReads}
use Rattle.msr_tree.specs.Steps.{Path, Step}
use Rattle.msr_tree.specs.declared.kind.FileKind.{FileKind}
use Rattle.msr_tree.specs.declared.kind.FileKind.TheVariants.{Folder, Gone, Other}
use Rattle.msr_folders.specs.Names.{day_name}
use Rattle.msr_options.specs.Days.{names_for}
use Rattle.msr_verify.specs.Entries.{IsJudgementOf, IsVerifyTally, JudgedEntry}
use Rattle.msr_verify.specs.Known.{IsJudgedEntry, judged_known_as}
use Rattle.msr_verify.specs.Files.{IsToldOfOut, IsToldOfRoot, JudgesNamed, day_places, names_asked, other_judgement}
use Rattle.msr_verify.specs.Opening.{MayHave}
use Rattle.msr_options.specs.declared.task.Verifying.{Verifying}
use Rattle.msr_verify.specs.Lines.{IsToldLine}
use Rattle.msr_verify.specs.Walk.{TellsEntries}
use Rattle.msr_verify.specs.declared.judgement.Judgement.{Judgement}
use Rattle.msr_verify.specs.declared.judgement.Judgement.TheVariants.{Orphan, Refused}
use Rattle.msr_verify.specs.declared.judgement.Refusal.TheVariants.{RecordsListing}
use Rattle.msr_verify.specs.declared.tally.VerifyTally.{VerifyTally}

pub none_told_yet : (asked : Verifying) (out : Device) (tally : VerifyTally) → TellsEntries asked [] out out tally tally
none_told_yet asked out tally = these_none (IsJudgedEntry asked) (IsToldLine asked) IsVerifyTally out tally

-- at the end of a folder nothing is told
pub left_quiet : (asked : Verifying) (Says : (old new : List Step) → Visit → List JudgedEntry → Type 0) (folder : Path) (before : List Step → Type 0) (out : Device) (tally : VerifyTally)
    → ((past : List Step) → Says past past (Left folder) []) → TellsVisit (TellsEntries asked) Says OnlyReads (Unit {0}) (Left folder) before before out out tally tally
left_quiet asked Says folder before out tally so = visited_still (TellsEntries asked) Says (Left folder) [] before out out tally tally so (none_told_yet asked out tally)

-- A path that is read as no day.
module _ (path : List ℕ) (result : Result SdsPath SdsFault)
    (not_sds : (result ≡ Err NotSds) ↔ ((name : SdsPath) → ¬ (ReadsAs path name)))
    (not_waveform : (result ≡ Err NotWaveform) ↔ ((name : SdsPath) × ReadsAs path name × ¬ (IsWaveform name)))
    (bad_day : (result ≡ Err BadDay) ↔ ((name : SdsPath) × ReadsAs path name × IsWaveform name × ¬ (HasDate name))) where
  pub no_day : (fault : SdsFault) → result ≡ Err fault → IsNoDay path fault
  no_day NotSds is = not_sds.0 is
  no_day NotWaveform is = not_waveform.0 is
  no_day BadDay is = bad_day.0 is

pub other_is : (path : List ℕ) (kind : FileKind) (fault : SdsFault) → IsNoDay path fault → IsJudgementOf path (other_judgement kind fault)
other_is path Gone fault none = tt
other_is path Folder fault none = none
other_is path Other fault none = none

-- a day of the archive
pub visited_day : (asked : Verifying) (root out_root reports path : Path) (kind : FileKind) (judgement : Judgement) (before after : List Step → Type 0) (out0 out : Device) (tally0 tally : VerifyTally)
    → (day : IsDay path) → Goes before after (JudgesNamed (names_for (day_name day.0) (names_asked asked.names)) (day_places root out_root reports path) (Ok judgement))
    → TellsEntries asked (record { path = path; judgement = judged_known_as asked.known path judgement } ∷ []) out0 out tally0 tally
    → TellsVisit (TellsEntries asked) (IsToldOfRoot asked.known (names_asked asked.names) root out_root reports) OnlyReads (Unit {0}) (Entry path kind) before after out0 out tally0 tally
visited_day asked root out_root reports path kind judgement before after out0 out tally0 tally day goes told =
    visited_by (TellsEntries asked) (IsToldOfRoot asked.known (names_asked asked.names) root out_root reports) (Entry path kind) (record { path = path; judgement = judged_known_as asked.known path judgement } ∷ [])
    (JudgesNamed (names_for (day_name day.0) (names_asked asked.names)) (day_places root out_root reports path) (Ok judgement)) before after out0 out tally0 tally
    (λ old new is. (is.looks, (judgement, refl, record { day = λ one. (day.0, day.1, is.says); other = λ none. absurd (none day) }))) goes told

-- what is no day
pub visited_other : (asked : Verifying) (root out_root reports path : Path) (kind : FileKind) (fault : SdsFault) (before : List Step → Type 0) (out0 out : Device) (tally0 tally : VerifyTally)
    → ¬ (IsDay path) → IsNoDay path fault
    → TellsEntries asked (record { path = path; judgement = judged_known_as asked.known path (other_judgement kind fault) } ∷ []) out0 out tally0 tally
    → TellsVisit (TellsEntries asked) (IsToldOfRoot asked.known (names_asked asked.names) root out_root reports) OnlyReads (Unit {0}) (Entry path kind) before before out0 out tally0 tally
visited_other asked root out_root reports path kind fault before out0 out tally0 tally none is told =
    visited_still (TellsEntries asked) (IsToldOfRoot asked.known (names_asked asked.names) root out_root reports) (Entry path kind) (record { path = path; judgement = judged_known_as asked.known path (other_judgement kind fault) } ∷ [])
    before out0 out tally0 tally
    (λ past. (other_judgement kind fault, refl, record { day = λ day. absurd (none day); other = λ no_day. (fault, is, refl) })) told

-- what is no day among the records
pub passed_other : (asked : Verifying) (root out_root path : Path) (kind : FileKind) (before : List Step → Type 0) (out : Device) (tally : VerifyTally) → ¬ (IsDay path)
    → TellsVisit (TellsEntries asked) (IsToldOfOut asked.known root out_root) OnlyReads (Unit {0}) (Entry path kind) before before out out tally tally
passed_other asked root out_root path kind before out tally none =
    visited_still (TellsEntries asked) (IsToldOfOut asked.known root out_root) (Entry path kind) [] before out out tally tally
    (λ past. record { orphan = λ day. absurd (none day); other = λ no_day. refl }) (none_told_yet asked out tally)

-- a day of the records that the archive may have
pub passed_day : (asked : Verifying) (root out_root path : Path) (kind : FileKind) (before after : List Step → Type 0) (out : Device) (tally : VerifyTally) → IsDay path
    → Goes before after (MayHave (joined root path) (Ok true))
    → TellsVisit (TellsEntries asked) (IsToldOfOut asked.known root out_root) OnlyReads (Unit {0}) (Entry path kind) before after out out tally tally
passed_day asked root out_root path kind before after out tally day goes =
    visited_by (TellsEntries asked) (IsToldOfOut asked.known root out_root) (Entry path kind) [] (MayHave (joined root path) (Ok true)) before after out out tally tally
    (λ old new is. (is.looks, record { orphan = λ one. inr (refl, is.yes refl); other = λ none. absurd (none day) })) goes (none_told_yet asked out tally)

-- one that it does not have
pub visited_orphan : (asked : Verifying) (root out_root path : Path) (kind : FileKind) (before after : List Step → Type 0) (out0 out : Device) (tally0 tally : VerifyTally) → IsDay path
    → Goes before after (MayHave (joined root path) (Ok false))
    → TellsEntries asked (record { path = path; judgement = Orphan } ∷ []) out0 out tally0 tally
    → TellsVisit (TellsEntries asked) (IsToldOfOut asked.known root out_root) OnlyReads (Unit {0}) (Entry path kind) before after out0 out tally0 tally
visited_orphan asked root out_root path kind before after out0 out tally0 tally day goes told =
    visited_by (TellsEntries asked) (IsToldOfOut asked.known root out_root) (Entry path kind) (record { path = path; judgement = Orphan } ∷ []) (MayHave (joined root path) (Ok false))
    before after out0 out tally0 tally
    (λ old new is. (is.looks, record { orphan = λ one. inl (refl, is.no refl); other = λ none. absurd (none day) })) goes told

-- a folder of the records that is not there
pub passed_folder : (asked : Verifying) (root out_root folder : Path) (before after : List Step → Type 0) (out : Device) (tally : VerifyTally)
    → Goes before after (MayHave (joined out_root folder) (Ok false))
    → TellsVisit (TellsEntries asked) (IsToldOfOut asked.known root out_root) OnlyReads (Unit {0}) (WithoutList folder) before after out out tally tally
passed_folder asked root out_root folder before after out tally goes =
    visited_by (TellsEntries asked) (IsToldOfOut asked.known root out_root) (WithoutList folder) [] (MayHave (joined out_root folder) (Ok false)) before after out out tally tally
    (λ old new is. (is.looks, inr (refl, is.no refl))) goes (none_told_yet asked out tally)

-- one that may be there
pub visited_records : (asked : Verifying) (root out_root folder : Path) (before after : List Step → Type 0) (out0 out : Device) (tally0 tally : VerifyTally)
    → Goes before after (MayHave (joined out_root folder) (Ok true))
    → TellsEntries asked (record { path = told_folder folder; judgement = judged_known_as asked.known (told_folder folder) (Refused RecordsListing) } ∷ []) out0 out tally0 tally
    → TellsVisit (TellsEntries asked) (IsToldOfOut asked.known root out_root) OnlyReads (Unit {0}) (WithoutList folder) before after out0 out tally0 tally
visited_records asked root out_root folder before after out0 out tally0 tally goes told =
    visited_by (TellsEntries asked) (IsToldOfOut asked.known root out_root) (WithoutList folder) (record { path = told_folder folder; judgement = judged_known_as asked.known (told_folder folder) (Refused RecordsListing) } ∷ [])
    (MayHave (joined out_root folder) (Ok true)) before after out0 out tally0 tally
    (λ old new is. (is.looks, inl refl)) goes told
