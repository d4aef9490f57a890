-- What is told of an archive that nobody changes.
use Rattle.std.proofs.Common.{◌≡◌, ◌<◌, inl, inr, ⊎_elim, ℕ, false, List, ◌++◌, refl, sym, ◌∙◌, ap, subst, append_assoc, arith, option_map, Option, None, Some, Result}
use Rattle.msr_devices.specs.Device.{Device, Takes}
use Rattle.msr_devices.proofs.Chaining.{takes_append}
use Rattle.msr_folders.proofs.EntryLemmas.{folders_same, for_each_as}
use Rattle.msr_folders.proofs.ReadingLemmas.{reads_same}
use Rattle.msr_folders.proofs.VisitLemmas.{these_more}
use Rattle.msr_folders.proofs.WalkedLemmas.{IsSaidBetween, goes_then, said_each}
use Rattle.msr_folders.specs.Entries.{AreEntriesOf, Entry, Left, Passed, Visit, WithoutList, unlisted_in}
use Rattle.msr_folders.specs.Paths.{joined}
use Rattle.msr_folders.specs.Visits.{IsWalk}
use Rattle.msr_folders.specs.Walks.{IsWalked, TellsWalk}
use Rattle.msr_folders.specs.declared.found.WalkFound.{WalkFound}
use Rattle.msr_folders.specs.Names.{day_name}
use Rattle.msr_options.specs.Days.{names_for}
use Rattle.msr_options.specs.declared.names.DayName.{DayName}
use Rattle.msr_options.specs.declared.names.Names.{Names}
use Rattle.msr_options.specs.declared.known.Known.{Known as Asked}
use Rattle.msr_options.specs.declared.task.Verifying.{Verifying}
use Rattle.msr_tree.proofs.Reading.{failures_read, now_read, reads_then, there_read}
use Rattle.msr_tree.specs.Listing.{is_there, unlisted_after}
use Rattle.msr_tree.specs.Reads.{OnlyReads}
use Rattle.msr_tree.specs.Steps.{Path, Step, failures, seen}
use Rattle.msr_verify.specs.Entries.{IsVerifyTally, JudgedEntry}
use Rattle.msr_verify.specs.Known.{IsJudgedEntry}
use Rattle.msr_verify.specs.Files.{AnswerThere, DayPlaces, IsArchiveVerified, IsShownInPlace, IsJudgementThere, IsNamedThere, IsToldOfOut, IsToldOfRoot, TellsSegments, day_places, names_asked}
use Rattle.msr_verify.specs.Lines.{IsToldLine}
use Rattle.msr_verify.specs.Opening.{IsToldAgain}
use Rattle.msr_verify.specs.Walk.{TellsArchive, TellsEntries, TellsVerified, VerifiesTree, judged_summary}
use Rattle.msr_verify.specs.declared.judging.Finding.{Finding}
use Rattle.msr_verify.specs.declared.judging.VerifyFault.{VerifyFault}
use Rattle.msr_verify.specs.declared.judging.VerifyFault.TheVariants.{ReportLine}
use Rattle.msr_verify.specs.declared.judgement.Judgement.{Judgement}
use Rattle.msr_verify.specs.declared.judgement.Judgement.TheVariants.{Verified, InPlace, Missing, NotShown, Differs, Misplaced, Refused, Skipped, Orphan, Known, KnownMissing}
use Rattle.msr_verify.specs.declared.judgement.Refusal.TheVariants.{FileUnopened, RecordsUnopened, ReportUnopened, SameFile, Listing, RecordsListing, Day}
use Rattle.msr_verify.specs.declared.tally.VerifyTally.{VerifyTally}

-- What was said between two moments, seen from an earlier one to a later one.
module _ (old from to new : List Step) (before : OnlyReads old from) (after : OnlyReads to new) where
  seen_there : (name : Path) → seen from name ≡ seen old name
  seen_there name = ap (λ found. option_map (λ file. file.bytes) found) (now_read old from before name)

  answer_there : (places : DayPlaces) (answer : Result Finding VerifyFault) → AnswerThere places from answer → AnswerThere places old answer
  answer_there places answer there = record {
    file = there.file;
    records = there.records;
    text = there.text;
    has_file = sym (seen_there places.file) ∙ there.has_file;
    has_records = sym (seen_there places.records) ∙ there.has_records;
    has_report = sym (seen_there places.report) ∙ there.has_report;
    answers = there.answers;
    apart = λ one. there.apart (one.0, now_read old from before places.file ∙ one.1, now_read old from before places.records ∙ one.2);
  }

  no_longer : (path : Path) → is_there from path ≡ false → is_there old path ≡ false
  no_longer path none = sym (there_read old from before path) ∙ none

  in_place_there : (places : DayPlaces) → IsShownInPlace places from → IsShownInPlace places old
  in_place_there places is = record {
    file = is.file;
    text = is.text;
    has_file = sym (seen_there places.file) ∙ is.has_file;
    has_report = sym (seen_there places.report) ∙ is.has_report;
    shown = is.shown;
  }

  in_place_later : (places : DayPlaces) → IsShownInPlace places old → IsShownInPlace places from
  in_place_later places is = record {
    file = is.file;
    text = is.text;
    has_file = seen_there places.file ∙ is.has_file;
    has_report = seen_there places.report ∙ is.has_report;
    shown = is.shown;
  }

  failed_there : failures from < failures to → failures old < failures new
  failed_there more =
      let sooner = failures_read old from before in
      let later = failures_read to new after in
      omega arith

  pub judged_there : (places : DayPlaces) (judgement : Judgement) → IsJudgementThere places judgement from to → IsJudgementThere places judgement old new
  judged_there places Verified is = answer_there places _ is
  judged_there places NotShown is = answer_there places _ is
  judged_there places Differs is = answer_there places _ is
  judged_there places (Refused (Day fault)) is = ⊎_elim
      (λ has. inl (answer_there places _ has))
      (λ cut. inr (record { no_records = no_longer places.records cut.no_records; cut = cut.cut }))
      is
  judged_there places InPlace is = (no_longer places.records is.0, in_place_there places is.1)
  judged_there places Missing is = ⊎_elim
      (λ none. inl (no_longer places.report none))
      (λ other. inr (record {
        no_records = no_longer places.records other.no_records;
        unshown = ⊎_elim (λ not. inl (λ place. not (in_place_later places place))) (λ failed. inr (failed_there failed)) other.unshown;
      }))
      is
  judged_there places (Refused SameFile) is = ⊎_elim
      (λ one. inl (one.0, sym (now_read old from before places.file) ∙ one.1, sym (now_read old from before places.records) ∙ one.2))
      (λ failed. inr (failed_there failed))
      is
  judged_there places (Refused FileUnopened) is = failed_there is
  judged_there places (Refused RecordsUnopened) is = failed_there is
  judged_there places (Refused ReportUnopened) is = failed_there is
  judged_there places (Refused Listing) is = absurd is
  judged_there places (Refused RecordsListing) is = absurd is
  judged_there places (Skipped fault) is = absurd is
  judged_there places (Misplaced found) is = absurd is
  judged_there places Orphan is = absurd is
  judged_there places (Known refusal) is = absurd is
  judged_there places KnownMissing is = absurd is

  segments_there : (names : Names) (place : Path) (found : Option DayName) → TellsSegments names place found from → TellsSegments names place found old
  segments_there names place found is = record { text = is.text; report = is.report; has_report = sym (seen_there place) ∙ is.has_report; read = is.read; is = is.is }

  pub named_there : (names : Names) (places : DayPlaces) (judgement : Judgement) → IsNamedThere names places judgement from to → IsNamedThere names places judgement old new
  named_there names places Verified is = (judged_there places Verified is.0, segments_there names places.report None is.1)
  named_there names places InPlace is = (judged_there places InPlace is.0, segments_there names places.report None is.1)
  named_there names places (Misplaced found) is =
      (⊎_elim (λ one. inl (judged_there places Verified one)) (λ one. inr (judged_there places InPlace one)) is.0, segments_there names places.report (Some found) is.1)
  named_there names places Missing is = judged_there places Missing is
  named_there names places NotShown is = judged_there places NotShown is
  named_there names places Differs is = judged_there places Differs is
  named_there names places (Refused why) is = judged_there places (Refused why) is
  named_there names places (Skipped fault) is = judged_there places (Skipped fault) is
  named_there names places Orphan is = judged_there places Orphan is
  named_there names places (Known refusal) is = judged_there places (Known refusal) is
  named_there names places KnownMissing is = judged_there places KnownMissing is

  pub again_there : (names : Names) (report : Path) (judgement told : Judgement) → IsToldAgain names report judgement told from to → IsToldAgain names report judgement told old new
  again_there names report judgement (Misplaced found) is = segments_there names report (Some found) is
  again_there names report judgement (Refused ReportUnopened) is = failed_there is
  again_there names report judgement (Refused (Day (ReportLine line))) is = (is.0, sym (seen_there report) ∙ is.1, is.2)
  again_there names report judgement (Refused (Day why)) is = is
  again_there names report judgement told is = (is.0, segments_there names report None is.1)

  root_there : (asked : Asked) (names : Names) (root out reports : Path) (visit : Visit) (entries : List JudgedEntry) → IsToldOfRoot asked names root out reports from to visit entries → IsToldOfRoot asked names root out reports old new visit entries
  root_there asked names root out reports (Entry path kind) entries told = (
    told.0,
    told.1,
    record {
      day = λ is. let so = told.2.day is in (so.0, so.1, named_there (names_for (day_name so.0) names) (day_places root out reports path) told.0 so.2);
      other = told.2.other;
    },
  )
  root_there asked names root out reports (WithoutList folder) entries told = told
  root_there asked names root out reports (Passed folder) entries told = told
  root_there asked names root out reports (Left folder) entries told = told

  out_there : (asked : Asked) (root out : Path) (visit : Visit) (entries : List JudgedEntry) → IsToldOfOut asked root out from to visit entries → IsToldOfOut asked root out old new visit entries
  out_there asked root out (Entry path kind) entries told = record {
    orphan = λ is. ⊎_elim
        (λ one. inl (one.0, sym (there_read old from before (joined root path)) ∙ one.1))
        (λ none. inr (none.0, ⊎_elim (λ there. inl (sym (there_read old from before (joined root path)) ∙ there)) (λ failed. inr (failed_there failed)) none.1))
        (told.orphan is);
    other = told.other;
  }
  out_there asked root out (WithoutList folder) entries told = ⊎_elim
      (λ one. inl one)
      (λ none. inr (none.0, sym (there_read old from before (joined out folder)) ∙ none.1))
      told
  out_there asked root out (Passed folder) entries told = told
  out_there asked root out (Left folder) entries told = told

-- both walks
both_told : (archive : Verifying) (visits records : List Visit) (entries orphans : List JudgedEntry) (old mid new : List Step)
    → IsWalked (IsToldOfRoot archive.known (names_asked archive.names) archive.folders.root.now archive.folders.out.now archive.folders.reports.now) OnlyReads OnlyReads (Unit {0}) archive.folders.root.now
    (λ past new. AreEntriesOf past archive.folders.root.now archive.below.items) visits entries old mid
    → IsWalked (IsToldOfOut archive.known archive.folders.root.now archive.folders.out.now) OnlyReads OnlyReads (Unit {0}) archive.folders.out.now
    (λ past new. AreEntriesOf past archive.folders.out.now archive.below.items) records orphans mid new
    → IsArchiveVerified archive.known (names_asked archive.names) archive.folders.root.now archive.folders.out.now archive.folders.reports.now archive.below.items entries orphans old new
both_told archive visits records entries orphans old mid new one two =
    let root = archive.folders.root.now in
    let out = archive.folders.out.now in
    let reports = archive.folders.reports.now in
    record {
      visits = visits;
      are = one.are;
      told = for_each_as (IsSaidBetween (IsToldOfRoot archive.known (names_asked archive.names) root out reports) OnlyReads old mid) (IsToldOfRoot archive.known (names_asked archive.names) root out reports old new) visits entries
          (λ visit part said. root_there old said.from said.to new said.before (reads_then said.to mid new said.after two.does) archive.known (names_asked archive.names) root out reports visit part said.says)
          (said_each (IsToldOfRoot archive.known (names_asked archive.names) root out reports) OnlyReads OnlyReads reads_then (λ from to reads. reads) old mid visits entries one.says);
      records = records;
      are_records = folders_same out old mid (reads_same out old mid one.does) archive.below.items records two.are;
      told_records = for_each_as (IsSaidBetween (IsToldOfOut archive.known root out) OnlyReads mid new) (IsToldOfOut archive.known root out old new) records orphans
          (λ visit part said. out_there old said.from said.to new (reads_then old mid said.from one.does said.before) said.after archive.known root out visit part said.says)
          (said_each (IsToldOfOut archive.known root out) OnlyReads OnlyReads reads_then (λ from to reads. reads) mid new records orphans two.says);
      unlisted = two.unlisted tt ∙ (ap (λ l. l ++ unlisted_in out records) (one.unlisted tt) ∙ append_assoc (unlisted_after old) (unlisted_in root visits) (unlisted_in out records));
      reads = reads_then old mid new one.does two.does;
    }

pub archive_told : (archive : Verifying) (before mid after : List Step → Type 0) (out0 out1 out : Device) (tally0 tally1 tally : VerifyTally)
    → TellsWalk (TellsEntries archive) (IsToldOfRoot archive.known (names_asked archive.names) archive.folders.root.now archive.folders.out.now archive.folders.reports.now) OnlyReads OnlyReads (Unit {0}) archive.folders.root.now
    (λ past new. AreEntriesOf past archive.folders.root.now archive.below.items) before mid out0 out1 tally0 tally1
    → TellsWalk (TellsEntries archive) (IsToldOfOut archive.known archive.folders.root.now archive.folders.out.now) OnlyReads OnlyReads (Unit {0}) archive.folders.out.now
    (λ past new. AreEntriesOf past archive.folders.out.now archive.below.items) mid after out1 out tally1 tally
    → TellsArchive archive before after out0 out tally0 tally
archive_told archive before mid after out0 out1 out tally0 tally1 tally one two = record {
  entries = one.lines;
  orphans = two.lines;
  these = these_more (IsJudgedEntry archive) (IsToldLine archive) IsVerifyTally one.lines two.lines out0 out1 out tally0 tally1 tally one.told two.told;
  goes = goes_then _ _ _ before mid after (λ old middle new first second. both_told archive one.visits two.visits one.lines two.lines old middle new first second) one.goes two.goes;
}

-- and what a walk to its end printed
pub tree_ends : (archive : Verifying) (before after : List Step → Type 0) (out0 out1 out : Device) (tally0 tally : VerifyTally) (found : WalkFound)
    → (told : TellsArchive archive before after out0 out1 tally0 tally) → Takes out1 out (judged_summary archive told.these.told.entries)
    → TellsVerified told.these.told.entries found → VerifiesTree archive before after out0 out found
tree_ends archive before after out0 out1 out tally0 tally found told prints end =
    let these = told.these.told in
    let printed : List ℕ = these.lines ++ judged_summary archive these.entries in
    record {
      entries = told.entries;
      orphans = told.orphans;
      printed = printed;
      prints = takes_append out0 out1 out these.lines (judged_summary archive these.entries) these.prints prints;
      text = subst (λ entries. IsWalk (IsJudgedEntry archive) (IsToldLine archive) (judged_summary archive) printed entries) told.these.are
          (record { lines = these.lines; are_entries = these.are_entries; are_lines = these.are_lines; whole = refl });
      tells = subst (λ entries. TellsVerified entries found) told.these.are end;
      goes = told.goes;
    }
