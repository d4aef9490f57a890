-- What a visit of a dry run tells, put together from what was done.
use Rattle.std.proofs.Common.{◌≡◌, ◌≢◌, ◌↔◌, ℕ, List, [], ◌∷◌, refl, ap, Result, Ok, Err}
use Rattle.msr_devices.proofs.Chaining.{calm_same}
use Rattle.msr_devices.specs.Device.{Device}
use Rattle.msr_devices.specs.declared.fault.DeviceFault.TheVariants.{Memory}
use Rattle.msr_folders.proofs.VisitLemmas.{part_none, these_none}
use Rattle.msr_folders.proofs.ReadingLemmas.{visit_by, visited_by, visited_still}
use Rattle.msr_folders.specs.Days.{IsDay, IsNoDay}
use Rattle.msr_folders.specs.Entries.{Entry as Found, Left, Visit, WithoutList}
use Rattle.msr_folders.specs.Paths.{joined, told_folder}
use Rattle.msr_folders.specs.Walks.{TellsVisit, VisitDoes}
use Rattle.msr_making.specs.declared.answer.DayFault.TheVariants.{Gone as WasGone, Listing}
use Rattle.msr_options.specs.declared.days.DayOptions.{DayOptions}
use Rattle.msr_outcomes.specs.Entries.{Entry, IsTally}
use Rattle.msr_outcomes.specs.declared.outcome.Outcome.{Outcome}
use Rattle.msr_outcomes.specs.declared.outcome.Outcome.TheVariants.{Refused, Skipped}
use Rattle.msr_outcomes.specs.declared.tally.Tally.{Tally}
use Rattle.msr_sds.specs.SdsPath.{HasDate, IsWaveform, ReadsAs, SdsPath}
use Rattle.msr_sds.specs.declared.SdsFault.{SdsFault}
use Rattle.msr_sds.specs.declared.SdsFault.TheVariants.{BadDay, NotSds, NotWaveform}
use Rattle.msr_tree.specs.Calls.{Goes}
use Rattle.msr_tree.specs.Reads.{OnlyReads}
use Rattle.msr_tree.specs.Steps.{Path, Step}
use Rattle.msr_tree.specs.declared.kind.FileKind.{FileKind}
use Rattle.msr_tree.specs.declared.kind.FileKind.TheVariants.{Gone}
use Rattle.std.specs.declared.alloc.AllocError.{AllocError}
use Rattle.msr_trial.specs.Days.{TriesDay}
use Rattle.msr_trial.specs.Entries.{IsTrialOfVisit, IsTrialEntry}
use Rattle.msr_trial.specs.Lines.{IsTrialLine}
use Rattle.msr_trial.specs.Walk.{StopsTrial, TellsTrial}

-- nothing was printed
pub none_told : (days : DayOptions) (out : Device) → StopsTrial days out out Memory
none_told days out = (part_none (IsTrialEntry days) (IsTrialLine days) out, (calm_same out).steady)

pub none_told_yet : (days : DayOptions) (out : Device) (tally : Tally) → TellsTrial days [] out out tally tally
none_told_yet days out tally = these_none (IsTrialEntry days) (IsTrialLine days) IsTally out tally

-- a day was tried
pub tries_looks : (days : DayOptions) (path : Path) (result : Result Outcome AllocError) (before after : List Step → Type 0)
    → Goes before after (TriesDay days path result) → Goes before after (VisitDoes OnlyReads (Unit {0}))
tries_looks days path result before after goes = visit_by (TriesDay days path result) before after (λ old new is. is.looks) goes

abbrev unlisted_entry : Path → Entry
unlisted_entry path = record { path = path; channel = []; outcome = Refused Listing }

module _ (days : DayOptions) (root : Path) where
  abbrev pub TellsOf : Visit → (before after : List Step → Type 0) (out0 out : Device) (tally0 tally : Tally) → Type 0
  TellsOf = TellsVisit (TellsTrial days) (IsTrialOfVisit root days) OnlyReads (Unit {0})

  -- a day
  pub visited_day : (path channel : Path) (outcome : Outcome) (kind : FileKind) (before after : List Step → Type 0) (out0 out : Device) (tally0 tally : Tally)
      → kind ≢ Gone → IsDay path → Goes before after (TriesDay days (joined root path) (Ok outcome))
      → TellsTrial days (record { path = path; channel = channel; outcome = outcome } ∷ []) out0 out tally0 tally
      → TellsOf (Found path kind) before after out0 out tally0 tally
  visited_day path channel outcome kind before after out0 out tally0 tally there day goes told =
      visited_by (TellsTrial days) (IsTrialOfVisit root days) (Found path kind) (record { path = path; channel = channel; outcome = outcome } ∷ [])
      (TriesDay days (joined root path) (Ok outcome)) before after out0 out tally0 tally
      (λ old new is. (
        is.looks,
        (
          channel,
          outcome,
          refl,
          record {
            gone = λ gone. absurd (there gone);
            day = λ some one_day. is.says;
            other = λ some none. absurd (none day);
          },
        ),
      )) goes told

  -- where nothing is done
  told_still : (visit : Visit) (entry : Entry) (before : List Step → Type 0) (out0 out : Device) (tally0 tally : Tally)
      → ((past : List Step) → IsTrialOfVisit root days past past visit (entry ∷ []))
      → TellsTrial days (entry ∷ []) out0 out tally0 tally → TellsOf visit before before out0 out tally0 tally
  told_still visit entry before out0 out tally0 tally so told =
      visited_still (TellsTrial days) (IsTrialOfVisit root days) visit (entry ∷ []) before out0 out tally0 tally so told

  -- what is no day
  pub visited_other : (path : Path) (kind : FileKind) (fault : SdsFault) (before : List Step → Type 0) (out0 out : Device) (tally0 tally : Tally)
      → kind ≢ Gone → ¬ (IsDay path) → IsNoDay path fault
      → TellsTrial days (record { path = path; channel = []; outcome = Skipped fault } ∷ []) out0 out tally0 tally
      → TellsOf (Found path kind) before before out0 out tally0 tally
  visited_other path kind fault before out0 out tally0 tally there none is told =
      told_still (Found path kind) (record { path = path; channel = []; outcome = Skipped fault }) before out0 out tally0 tally
      (λ past. ([], Skipped fault, refl, record { gone = λ gone. absurd (there gone); day = λ some day. absurd (none day); other = λ some no_day. (fault, is, refl) })) told

  -- what is gone
  pub visited_gone : (path : Path) (kind : FileKind) (before : List Step → Type 0) (out0 out : Device) (tally0 tally : Tally) → kind ≡ Gone
      → TellsTrial days (record { path = path; channel = []; outcome = Refused WasGone } ∷ []) out0 out tally0 tally
      → TellsOf (Found path kind) before before out0 out tally0 tally
  visited_gone path kind before out0 out tally0 tally is told =
      told_still (Found path kind) (record { path = path; channel = []; outcome = Refused WasGone }) before out0 out tally0 tally
      (λ past. ([], Refused WasGone, refl, record { gone = λ gone. refl; day = λ some day. absurd (some is); other = λ some no_day. absurd (some is) })) told

  -- a folder whose days were tried
  pub visited_left : (folder : Path) (before : List Step → Type 0) (out : Device) (tally : Tally) → TellsOf (Left folder) before before out out tally tally
  visited_left folder before out tally =
      visited_still (TellsTrial days) (IsTrialOfVisit root days) (Left folder) [] before out out tally tally (λ past. refl) (none_told_yet days out tally)

  -- a folder that has no list
  pub visited_unlisted : (folder path : Path) (before : List Step → Type 0) (out0 out : Device) (tally0 tally : Tally) → path ≡ told_folder folder
      → TellsTrial days (record { path = path; channel = []; outcome = Refused Listing } ∷ []) out0 out tally0 tally
      → TellsOf (WithoutList folder) before before out0 out tally0 tally
  visited_unlisted folder path before out0 out tally0 tally is told =
      told_still (WithoutList folder) (record { path = path; channel = []; outcome = Refused Listing }) before out0 out tally0 tally
      (λ past. ap (λ p. unlisted_entry p ∷ []) is) told

-- A path that is read as no day.
module _ (path : List ℕ) (result : Result SdsPath SdsFault)
    (not_sds : (result ≡ Err NotSds) ↔ ((name : SdsPath) → ¬ (ReadsAs path name)))
    (not_waveform : (result ≡ Err NotWaveform) ↔ ((name : SdsPath) × ReadsAs path name × ¬ (IsWaveform name)))
    (bad_day : (result ≡ Err BadDay) ↔ ((name : SdsPath) × ReadsAs path name × IsWaveform name × ¬ (HasDate name))) where
  pub no_day : (fault : SdsFault) → result ≡ Err fault → IsNoDay path fault
  no_day NotSds is = not_sds.0 is
  no_day NotWaveform is = not_waveform.0 is
  no_day BadDay is = bad_day.0 is
