-- What a visit tells, put together from what was done.
use Rattle.std.proofs.Common.{◌≡◌, ◌≢◌, ◌↔◌, ap, true, ℕ, List, [], ◌∷◌, refl, Result, Ok, Err}
use Rattle.msr_devices.specs.Device.{Device}
use Rattle.msr_folders.proofs.WalkedLemmas.{goes_none, goes_so, goes_then}
use Rattle.msr_folders.specs.Days.{IsDay, IsNoDay}
use Rattle.msr_folders.specs.Entries.{Entry as Found, Left, Visit, WithoutList}
use Rattle.msr_folders.specs.Walks.{TellsVisit}
use Rattle.msr_making.specs.declared.answer.DayFault.TheVariants.{Gone as WasGone, Listing}
use Rattle.msr_options.specs.declared.known.Known.{Known}
use Rattle.msr_options.specs.declared.task.Archiving.{Archiving}
use Rattle.msr_sds.specs.SdsPath.{HasDate, IsWaveform, ReadsAs, SdsPath}
use Rattle.msr_sds.specs.declared.SdsFault.{SdsFault}
use Rattle.msr_sds.specs.declared.SdsFault.TheVariants.{BadDay, NotSds, NotWaveform}
use Rattle.msr_options.specs.Tasks.{StandApart}
use Rattle.msr_tree.specs.Calls.{Goes}
use Rattle.msr_tree.specs.Steps.{Path, Step}
use Rattle.msr_tree.specs.declared.kind.FileKind.{FileKind}
use Rattle.msr_tree.specs.declared.kind.FileKind.TheVariants.{Gone}
use Rattle.msr_folders.specs.Names.{day_name}
use Rattle.msr_options.specs.Days.{with_name}
use Rattle.msr_walk.proofs.Days.{SaysOfDay, left_then, told_until}
use Rattle.msr_walk.proofs.Working.{settled_leaves, settled_works, works_none, works_then}
use Rattle.msr_outcomes.specs.Entries.{Entry}
use Rattle.msr_outcomes.specs.Known.{known_as}
use Rattle.msr_walk.specs.Files.{LeavesMade}
use Rattle.msr_walk.specs.Kills.{day_names_in}
use Rattle.msr_walk.specs.Losses.{ChangesDays}
use Rattle.msr_folders.specs.Paths.{told_folder}
use Rattle.msr_walk.specs.Told.{IsToldOfVisit, SettlesNames, SettlesWaiting, TellsOutcomesOf}
use Rattle.msr_outcomes.specs.declared.outcome.Outcome.{Outcome}
use Rattle.msr_outcomes.specs.declared.outcome.Outcome.TheVariants.{Refused, Skipped}
use Rattle.msr_outcomes.specs.declared.tally.Tally.{Tally}

abbrev unlisted_entry : Known → Path → Entry
unlisted_entry known path = record { path = path; channel = []; outcome = known_as known path (Refused Listing) }

module _ {P : Type 0} (tally : P → Tally) (asked : Archiving) where
  abbrev root : Path
  root = asked.folders.root.now

  abbrev outf : Path
  outf = asked.folders.out.now

  abbrev reports : Path
  reports = asked.folders.reports.now

  abbrev pub TellsOf : Visit → (before after : List Step → Type 0) (out0 out : Device) (of0 of : P) → Type 0
  TellsOf = TellsVisit (TellsOutcomesOf tally asked) (IsToldOfVisit root outf reports asked) (ChangesDays true asked) (Unit {0})

  -- a day
  pub visited_day : {H E : Type 0} (outcome : H → Outcome) (handled : H) (path channel : Path) (kind : FileKind) (before mid after : List Step → Type 0) (out0 out : Device) (of0 of : P)
      → StandApart asked.folders → kind ≢ Gone → (day : IsDay path)
      → Goes before mid (SaysOfDay {E = E} outcome asked (with_name (day_name day.0) asked.days) path (Ok handled))
      → Goes mid after (SettlesWaiting asked)
      → TellsOutcomesOf tally asked (record { path = path; channel = channel; outcome = known_as asked.known path (outcome handled) } ∷ []) out0 out of0 of
      → TellsOf (Found path kind) before after out0 out of0 of
  visited_day outcome handled path channel kind before mid after out0 out of0 of apart there day one two told = record {
    lines = record { path = path; channel = channel; outcome = known_as asked.known path (outcome handled) } ∷ [];
    told = told;
    goes = goes_then _ _ _ before mid after (λ old middle new first second. record {
      done = works_then asked apart true old middle new first.works (settled_works asked true middle new second);
      says = (
        channel,
        outcome handled,
        refl,
        record {
          gone = λ is. absurd (there is);
          day = λ some one_day. (
            day.0,
            day.1,
            record {
              asked = first.says.asked;
              for_day = first.says.for_day;
              of = first.says.of;
              same = first.says.same;
              there = λ are. told_until first.says.asked (day_names_in asked path) outf reports first.says.of old middle new (first.says.there are) second.does.within (second.does.safe are path day).stays;
            },
          );
          other = λ some none. absurd (none day);
        },
        left_then root outf reports (λ other. other ≡ path) old middle new first.leaves (settled_leaves asked (λ other. other ≡ path) middle new second),
      );
    }) one two;
  }

  leaves_all : (But : Path → Type 0) (past : List Step) → LeavesMade root outf reports But past past
  leaves_all But past = record { each = λ have path day unlike. record { records = refl; report = refl } }

  -- where nothing is done
  told_still : (visit : Visit) (entry : Entry) (before : List Step → Type 0) (out0 out : Device) (of0 of : P)
      → ((past : List Step) → IsToldOfVisit root outf reports asked past past visit (entry ∷ []))
      → TellsOutcomesOf tally asked (entry ∷ []) out0 out of0 of → TellsOf visit before before out0 out of0 of
  told_still visit entry before out0 out of0 of so told = record {
    lines = entry ∷ [];
    told = told;
    goes = goes_none _ before (λ past. record { done = works_none asked true past; says = so past });
  }

  -- what is no day
  pub visited_other : (path : Path) (kind : FileKind) (fault : SdsFault) (before : List Step → Type 0) (out0 out : Device) (of0 of : P)
      → kind ≢ Gone → ¬ (IsDay path) → IsNoDay path fault
      → TellsOutcomesOf tally asked (record { path = path; channel = []; outcome = known_as asked.known path (Skipped fault) } ∷ []) out0 out of0 of
      → TellsOf (Found path kind) before before out0 out of0 of
  visited_other path kind fault before out0 out of0 of there none is told =
      told_still (Found path kind) (record { path = path; channel = []; outcome = known_as asked.known path (Skipped fault) }) before out0 out of0 of
      (λ past. ([], Skipped fault, refl, record { gone = λ gone. absurd (there gone); day = λ some day. absurd (none day); other = λ some no_day. (fault, is, refl, refl) }, leaves_all (λ other. other ≡ path) past)) told

  -- what is gone
  pub visited_gone : (path : Path) (kind : FileKind) (before : List Step → Type 0) (out0 out : Device) (of0 of : P) → kind ≡ Gone
      → TellsOutcomesOf tally asked (record { path = path; channel = []; outcome = known_as asked.known path (Refused WasGone) } ∷ []) out0 out of0 of
      → TellsOf (Found path kind) before before out0 out of0 of
  visited_gone path kind before out0 out of0 of is told =
      told_still (Found path kind) (record { path = path; channel = []; outcome = known_as asked.known path (Refused WasGone) }) before out0 out of0 of
      (λ past. ([], Refused WasGone, refl, record { gone = λ gone. (refl, refl); day = λ some day. absurd (some is); other = λ some no_day. absurd (some is) }, leaves_all (λ other. other ≡ path) past)) told

  -- a folder that has no list
  pub visited_unlisted : (folder path : Path) (before : List Step → Type 0) (out0 out : Device) (of0 of : P) → path ≡ told_folder folder
      → TellsOutcomesOf tally asked (record { path = path; channel = []; outcome = known_as asked.known path (Refused Listing) } ∷ []) out0 out of0 of
      → TellsOf (WithoutList folder) before before out0 out of0 of
  visited_unlisted folder path before out0 out of0 of is told =
      told_still (WithoutList folder) (unlisted_entry asked.known path) before out0 out of0 of
      (λ past. (ap (λ p. unlisted_entry asked.known p ∷ []) is, refl)) told

  -- a folder whose days were visited
  pub visited_left : (folder : Path) (before after : List Step → Type 0) (out : Device) (of0 of : P) → (names : List Path) → Goes before after (SettlesNames asked names)
      → TellsOutcomesOf tally asked [] out out of0 of → TellsOf (Left folder) before after out out of0 of
  visited_left folder before after out of0 of names goes told = record {
    lines = [];
    told = told;
    goes = goes_so _ _ before after (λ old new went is. record { done = settled_works asked true old new is.works; says = (refl, settled_leaves asked (λ other. ⊥) old new is.works) }) goes;
  }

-- A path that is read as no day.
module _ (path : List ℕ) (result : Result SdsPath SdsFault)
    (not_sds : (result ≡ Err NotSds) ↔ ((name : SdsPath) → ¬ (ReadsAs path name)))
    (not_waveform : (result ≡ Err NotWaveform) ↔ ((name : SdsPath) × ReadsAs path name × ¬ (IsWaveform name)))
    (bad_day : (result ≡ Err BadDay) ↔ ((name : SdsPath) × ReadsAs path name × IsWaveform name × ¬ (HasDate name))) where
  pub no_day : (fault : SdsFault) → result ≡ Err fault → IsNoDay path fault
  no_day NotSds is = not_sds.0 is
  no_day NotWaveform is = not_waveform.0 is
  no_day BadDay is = bad_day.0 is
