-- What a walk to its end told of an archive.
use Rattle.std.proofs.Common.{◌≡◌, ℕ, Bool, true, List, ◌++◌, refl, subst}
use Rattle.msr_devices.specs.Device.{Device, Takes}
use Rattle.msr_devices.proofs.Chaining.{takes_append}
use Rattle.std.specs.Borrow.{Bor}
use Rattle.msr_folders.proofs.EntryLemmas.{for_each_as}
use Rattle.msr_folders.proofs.WalkedLemmas.{goes_so, goes_then, said_as, tells_now, walk_left}
use Rattle.msr_folders.proofs.WithinLemmas.{root_same}
use Rattle.msr_folders.specs.Entries.{AreEntriesBetween, AreEntriesOf, Visit}
use Rattle.msr_folders.specs.Visits.{IsWalk}
use Rattle.msr_folders.specs.Walks.{TellsWalk as TellsVisits}
use Rattle.msr_options.specs.Tasks.{StandApart}
use Rattle.msr_options.specs.declared.task.Archiving.{Archiving}
use Rattle.msr_folders.specs.Within.{ChangesWithin}
use Rattle.msr_tree.specs.Calls.{Goes}
use Rattle.msr_tree.specs.Steps.{Path, Step}
use Rattle.msr_walk.proofs.Aside.{separate}
use Rattle.msr_walk.proofs.EntriesTold.{none_among}
use Rattle.msr_outcomes.specs.Entries.{Entry, IsTally}
use Rattle.msr_outcomes.specs.Known.{IsEntry}
use Rattle.msr_outcomes.specs.Lines.{IsEntryLine}
use Rattle.msr_walk.specs.Laws.{days_laws}
use Rattle.msr_walk.specs.Losses.{ChangesDays, RestsDays}
use Rattle.msr_walk.proofs.Working.{changes_settled, goes_rested}
use Rattle.msr_walk.specs.Told.{IsToldOfVisit, RestsWithin, SettlesNames, TellsOutcomesOf, WalksTree}
use Rattle.msr_walk.specs.Walk.{StopsTellingOutcomes, TellsWalked}
use Rattle.msr_outcomes.specs.Summary.{summary}
use Rattle.msr_walk.specs.declared.folders.Walked.{Walked}
use Rattle.msr_outcomes.specs.declared.tally.Tally.{Tally}

-- the visits of an archive were told
abbrev pub TellsArchive : {P : Type 0} → (P → Tally) → Archiving → (before after : List Step → Type 0) (out0 out : Device) (of0 of : P) → Type 0
TellsArchive tally archive =
    TellsVisits (TellsOutcomesOf tally archive) (IsToldOfVisit archive.folders.root.now archive.folders.out.now archive.folders.reports.now archive)
    (ChangesWithin archive.folders.out.now archive.folders.reports.now)
    (RestsWithin archive.folders.root.now archive.folders.out.now archive.folders.reports.now) (Unit {0}) archive.folders.root.now
    (λ past new. AreEntriesOf past archive.folders.root.now archive.below.items)

pub tree_ends : {P : Type 0} (tally : P → Tally) (archive : Archiving) (before after : List Step → Type 0) (out0 out1 out : Device) (of0 of : P) (walked : Walked)
    → (told : TellsArchive tally archive before after out0 out1 of0 of) → Takes out1 out (summary archive told.told.told.entries)
    → TellsWalked told.told.told.entries walked → WalksTree archive before after out0 out walked
tree_ends tally archive before after out0 out1 out of0 of walked told prints end =
    let these = told.told.told in
    let printed : List ℕ = these.lines ++ summary archive these.entries in
    record {
      visits = told.visits;
      entries = told.lines;
      printed = printed;
      prints = takes_append out0 out1 out these.lines (summary archive these.entries) these.prints prints;
      text = subst (λ entries. IsWalk (IsEntry archive) (IsEntryLine archive) (summary archive) printed entries) told.told.are
          (record { lines = these.lines; are_entries = these.are_entries; are_lines = these.are_lines; whole = refl });
      tells = subst (λ entries. TellsWalked entries walked) told.told.are end;
      goes = told.goes;
    }

-- what is said of visits in other words
walk_as : {L T : Type 0} (Tells : List L → (out0 out : Device) → (tally0 tally : T) → Type 0) (Says : (old new : List Step) → Visit → List L → Type 0)
    (One Two Rests Leaves : (old new : List Step) → Type 0) (Listless : Type 0) (root : Path) (Are : (old new : List Step) → List Visit → Type 0) (before after : List Step → Type 0) (out0 out : Device) (tally0 tally : T)
    → ((old new : List Step) → One old new → Two old new) → ((old new : List Step) → Rests old new → Leaves old new)
    → TellsVisits Tells Says One Rests Listless root Are before after out0 out tally0 tally
    → TellsVisits Tells Says Two Leaves Listless root Are before after out0 out tally0 tally
walk_as Tells Says One Two Rests Leaves Listless root Are before after out0 out tally0 tally so rests walk = record {
  visits = walk.visits;
  lines = walk.lines;
  told = walk.told;
  goes = goes_so _ _ before after (λ old new went is. record {
    are = is.are;
    says = said_as Says One Two Rests Leaves so rests old new walk.visits walk.lines is.says;
    does = so old new is.does;
    unlisted = is.unlisted;
  }) walk.goes;
}

-- the visits were told, and then what waited was settled
pub told_and_left : {P : Type 0} (tally : P → Tally) (archive : Archiving) → StandApart archive.folders
    → (below : List (Bor Path)) (before mid after : List Step → Type 0) (out0 out : Device) (of0 of1 of : P) → below ≡ archive.below.items → tally of ≡ tally of1
    → TellsVisits (TellsOutcomesOf tally archive) (IsToldOfVisit archive.folders.root.now archive.folders.out.now archive.folders.reports.now archive)
    (ChangesDays true archive) (RestsDays archive) (Unit {0}) archive.folders.root.now
    (λ past new. AreEntriesBetween (ChangesDays true archive) past new archive.folders.root.now below) before mid out0 out of0 of1
    → (names : List Path) → Goes mid after (SettlesNames archive names) → TellsArchive tally archive before after out0 out of0 of
told_and_left tally archive apart below before mid after out0 out of0 of1 of is same told names goes =
    let root : Path = archive.folders.root.now in
    let outf : Path = archive.folders.out.now in
    let reports : Path = archive.folders.reports.now in
    let says : (old new : List Step) → Visit → List Entry → Type 0 = IsToldOfVisit root outf reports archive in
    subst (λ b. TellsVisits (TellsOutcomesOf tally archive) says (ChangesWithin outf reports) (RestsWithin root outf reports) (Unit {0}) root (λ past new. AreEntriesOf past root b) before after out0 out of0 of) is
    (walk_as (TellsOutcomesOf tally archive) says (ChangesDays true archive) (ChangesWithin outf reports) (RestsDays archive) (RestsWithin root outf reports) (Unit {0}) root (λ past new. AreEntriesOf past root below) before after out0 out of0 of
    (λ old new changes. changes.within) (λ old new rests. record { within = rests.does.within; leaves = rests.leaves })
    (walk_left {V = Unit {0}} (λ v. TellsOutcomesOf tally archive) (λ v. StopsTellingOutcomes archive) (λ v. says) (λ v goes_on. ChangesDays goes_on archive) (λ v. RestsDays archive) (λ v. Unit {0})
    (days_laws {V = Unit {0}} (λ v. IsEntry archive) (λ v. IsEntryLine archive) (λ entries counted. IsTally entries (tally counted)) (λ v. archive) (λ v. separate archive.folders apart))
    tt root (λ past new. AreEntriesOf past root below) before mid after out0 out of0 of1 of (λ old middle new visits are. are)
    (tells_now (TellsOutcomesOf tally archive) says (ChangesDays true archive) (RestsDays archive) (Unit {0}) root below before mid out0 out of0 of1
    (λ old new changes. root_same outf reports root (separate archive.folders apart) old new changes.within) told)
    (λ at. none_among tally archive at of1 of same) (goes_rested archive names mid after goes)))

pub changes_and_left : (archive : Archiving) → StandApart archive.folders → (goes_on : Bool) (names : List Path) (before mid after : List Step → Type 0)
    → Goes before mid (ChangesDays goes_on archive) → Goes mid after (SettlesNames archive names) → Goes before after (ChangesDays goes_on archive)
changes_and_left archive apart goes_on names before mid after one two = goes_then _ _ _ before mid after
    (λ old middle new first second. changes_settled archive apart goes_on old middle new first second.works) one two
