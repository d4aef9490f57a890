-- What was told of days stays so to the end of the walk.
use Rattle.std.proofs.Common.{◌≡◌, ◌≢◌, List, [], ◌∷◌, ◌++◌, refl, sym, ◌∙◌, ap, subst, append_assoc}
use Rattle.msr_folders.proofs.WalkedLemmas.{said_does}
use Rattle.msr_folders.proofs.WithinLemmas.{within_then}
use Rattle.msr_folders.specs.Days.{IsDay}
use Rattle.msr_folders.specs.Entries.{Entry as Found, Left, Passed, Visit, WithoutList}
use Rattle.msr_folders.specs.Walks.{AreSaid}
use Rattle.msr_folders.specs.Within.{ChangesWithin}
use Rattle.msr_options.specs.declared.days.DayOptions.{DayOptions}
use Rattle.msr_options.specs.declared.task.Archiving.{Archiving}
use Rattle.msr_outcomes.specs.Entries.{Entry}
use Rattle.msr_outcomes.specs.Known.{known_as}
use Rattle.msr_outcomes.specs.declared.outcome.Outcome.{Outcome}
use Rattle.msr_tree.specs.Steps.{Path, Step}
use Rattle.msr_tree.specs.declared.kind.FileKind.{FileKind}
use Rattle.msr_tree.specs.declared.kind.FileKind.TheVariants.{Gone}
use Rattle.msr_walk.proofs.Days.{told_until}
use Rattle.msr_walk.proofs.Spared.{made_then}
use Rattle.msr_walk.specs.Files.{DayNames, HaveNames, StaysMade}
use Rattle.msr_walk.specs.Kills.{day_names_in}
use Rattle.msr_walk.specs.Staying.{AreOfOthers, StaysTold, ToldDayStays, UnvisitedDayStays}
use Rattle.msr_walk.specs.Told.{IsDayTold, IsToldOfVisit, RestsWithin}

others_first : (path : Path) (visit : Visit) (visits : List Visit) → AreOfOthers path (visit ∷ visits) → AreOfOthers path (visit ∷ [])
others_first path (Found other kind) visits others = (others.0, tt)
others_first path (WithoutList folder) visits others = tt
others_first path (Passed folder) visits others = tt
others_first path (Left folder) visits others = tt

others_rest : (path : Path) (visit : Visit) (visits : List Visit) → AreOfOthers path (visit ∷ visits) → AreOfOthers path visits
others_rest path (Found other kind) visits others = others.1
others_rest path (WithoutList folder) visits others = others
others_rest path (Passed folder) visits others = others
others_rest path (Left folder) visits others = others

-- until a later moment
told_on : (days : DayOptions) (names : DayNames) (out reports : Path) (outcome : Outcome) (from to new : List Step)
    → IsDayTold days names out reports outcome from to → ChangesWithin out reports to new → StaysMade names to new → IsDayTold days names out reports outcome from new
told_on days names out reports outcome from to new told within stays = record {
  asked = told.asked;
  for_day = told.for_day;
  of = told.of;
  same = told.same;
  there = λ are. told_until told.asked names out reports told.of from to new (told.there are) within stays;
}

module _ (archive : Archiving) (path : Path) (have : HaveNames archive.folders.out.now archive.folders.reports.now) (day : IsDay path) where
  abbrev root : Path
  root = archive.folders.root.now

  abbrev out : Path
  out = archive.folders.out.now

  abbrev reports : Path
  reports = archive.folders.reports.now

  abbrev names : DayNames
  names = day_names_in archive path

  abbrev Says : (old new : List Step) → Visit → List Entry → Type 0
  Says = IsToldOfVisit root out reports archive

  abbrev Said : (old new : List Step) → List Visit → List Entry → Type 0
  Said old new visits entries = AreSaid Says (ChangesWithin out reports) (RestsWithin root out reports) old new visits entries

  visit_stays : (visit : Visit) (entries : List Entry) (old new : List Step) → AreOfOthers path (visit ∷ []) → Says old new visit entries → StaysMade names old new
  visit_stays (Found other kind) entries old new others says = says.4.each have path day (λ same. others.0 same)
  visit_stays (WithoutList folder) entries old new others says = subst (λ l. StaysMade names old l) (sym says.1) (record { records = refl; report = refl })
  visit_stays (Passed folder) entries old new others says = absurd says
  visit_stays (Left folder) entries old new others says = says.1.each have path day (λ none. none)

  stays_said : (visits : List Visit) (entries : List Entry) (old new : List Step) → AreOfOthers path visits → Said old new visits entries → StaysMade names old new
  stays_said [] entries old new others said = said.1.leaves.each have path day (λ none. none)
  stays_said (visit ∷ visits) entries old new others said =
      let first = said.3 in
      made_then names old first.from new (first.before.leaves.each have path day (λ none. none))
      (made_then names first.from said.0 new (visit_stays visit said.1 first.from said.0 (others_first path visit visits others) first.says)
      (stays_said visits said.2 said.0 new (others_rest path visit visits others) said.4))

  day_stays : (before after : List Visit) (kind : FileKind) (entries : List Entry) (old new : List Step) → kind ≢ Gone → AreOfOthers path after
      → Said old new (before ++ Found path kind ∷ after) entries → StaysTold archive path entries old new
  day_stays [] after kind entries old new there others said =
      let first = said.3 in
      let says = first.says in
      let of = says.3.day there day in
      let rest = said_does Says (ChangesWithin out reports) (RestsWithin root out reports) (within_then out reports) (λ from to rests. rests.within) said.0 new after said.2 said.4 in
      record {
        before = [];
        entry = record { path = path; channel = says.0; outcome = known_as archive.known path says.1 };
        after = said.2;
        among = said.5 ∙ ap (λ l. l ++ said.2) says.2;
        of = refl;
        outcome = says.1;
        is = refl;
        name = of.0;
        reads = of.1;
        from = first.from;
        since = first.before.within;
        until = within_then out reports first.from said.0 new first.does rest;
        told = told_on _ names out reports says.1 first.from said.0 new of.2 rest (stays_said after said.2 said.0 new others said.4);
      }
  day_stays (visit ∷ before) after kind entries old new there others said =
      let first = said.3 in
      let later = day_stays before after kind said.2 said.0 new there others said.4 in
      record {
        before = said.1 ++ later.before;
        entry = later.entry;
        after = later.after;
        among = said.5 ∙ (ap (λ l. said.1 ++ l) later.among ∙ sym (append_assoc said.1 later.before (later.entry ∷ later.after)));
        of = later.of;
        outcome = later.outcome;
        is = later.is;
        name = later.name;
        reads = later.reads;
        from = later.from;
        since = within_then out reports old said.0 later.from (within_then out reports old first.from said.0 first.before.within first.does) later.since;
        until = later.until;
        told = later.told;
      }

pub told_stays : ToldDayStays
told_stays archive before after path kind entries old new walk have there day others =
    day_stays archive path have day before after kind entries old new there others walk.says

pub unvisited_stays : UnvisitedDayStays
unvisited_stays archive visits path entries old new walk have day others = stays_said archive path have day visits entries old new others walk.says
