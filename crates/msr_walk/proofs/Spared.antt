-- What stays of a day while names of others change.
use Rattle.std.proofs.Common.{◌≡◌, ℕ, Bool, List, [], ◌∷◌, ◌++◌, sym, ◌∙◌, ap, subst, Option, None}
use Rattle.msr_making.specs.Making.{WaitsForStamp}
use Rattle.msr_naming.proofs.Order.{alone}
use Rattle.msr_naming.specs.Promise.{HasOwn, ShowsDay}
use Rattle.msr_naming.specs.declared.files.DayFiles.{DayFiles}
use Rattle.msr_options.specs.Choice.{Choice}
use Rattle.msr_tree.proofs.Changes.{same_now}
use Rattle.msr_tree.proofs.Crash.{stays, still}
use Rattle.msr_tree.specs.Steps.{AtEachMoment, IsReady, IsStored, Leaves, Path, Spares, Step, Throughout, now, seen}
use Rattle.msr_walk.specs.Files.{DayNames, StaysMade, files_of}
use Rattle.msr_walk.specs.Laws.{found_as, seen_as}

-- The names that a day's files get are left alone.
pub record SparesNames (files : DayFiles) (made : List Step) : Type 0 where
  pub records : Spares files.records.path made
  pub report : Spares files.report.path made
  pub stamp : Spares files.stamp.path made

pub seen_spared : (name : Path) (old made : List Step) → Spares name made → seen (made ++ old) name ≡ seen old name
seen_spared name old made spares = seen_as name old (made ++ old) (same_now name old made spares)

-- what was made of a day is as it was
pub made_spared : (names : DayNames) (old new made : List Step) → new ≡ made ++ old → Spares names.records made → Spares names.report made → StaysMade names old new
made_spared names old new made since records report = record {
  records = ap (λ l. now l names.records) since ∙ same_now names.records old made records;
  report = ap (λ l. now l names.report) since ∙ same_now names.report old made report;
}

pub made_then : (names : DayNames) (old mid new : List Step) → StaysMade names old mid → StaysMade names mid new → StaysMade names old new
made_then names old mid new one two = record { records = two.records ∙ one.records; report = two.report ∙ one.report }

leaves_spared : (name : Path) (what : Option (List ℕ)) (old made : List Step) → Spares name made → Leaves old name what → Leaves (made ++ old) name what
leaves_spared name what old [] spares leaves = leaves
leaves_spared name what old (step ∷ made) spares leaves = still step (made ++ old) name what spares.1 (leaves_spared name what old made spares.0 leaves)

stored_spared : (file : _) (old made : List Step) → IsStored old file → IsStored (made ++ old) file
stored_spared file old [] stored = stored
stored_spared file old (step ∷ made) stored = stays step (made ++ old) file (stored_spared file old made stored)

ready_after : (name : Path) (bytes : List ℕ) (old new made : List Step) → new ≡ made ++ old → Spares name made → IsReady name bytes old → IsReady name bytes new
ready_after name bytes old new made since spares ready = subst (λ (l : List Step). IsReady name bytes l) (sym since) (record {
  file = ready.file;
  leads = same_now name old made spares ∙ ready.leads;
  has = ready.has;
  stored = stored_spared ready.file old made ready.stored;
})

module _ (files : DayFiles) where
  own_made : (is_own : (records report : List ℕ) → Bool) (is_of : (stamp records report : List ℕ) → Bool) (old made : List Step)
      → Spares files.records.path made → Spares files.report.path made → Spares files.stamp.path made → HasOwn is_own is_of files old
      → Throughout (HasOwn is_own is_of files) old made × HasOwn is_own is_of files (made ++ old)
  own_made is_own is_of old [] records report stamp has = (has, has)
  own_made is_own is_of old (step ∷ made) records report stamp has =
      let before = own_made is_own is_of old made records.0 report.0 stamp.0 has in
      let after = alone is_own is_of files step (made ++ old) stamp.1 records.1 report.1 before.1 in
      ((before.0, after), after)

  pub own_spared : (is_own : (records report : List ℕ) → Bool) (is_of : (stamp records report : List ℕ) → Bool) (old new made : List Step) → new ≡ made ++ old
      → SparesNames files made → HasOwn is_own is_of files old → AtEachMoment (HasOwn is_own is_of files) old new
  own_spared is_own is_of old new made since spares has =
      record { made = made; since = since; holds = (own_made is_own is_of old made spares.records spares.report spares.stamp has).0 }

  shows_made : (old made : List Step) → SparesNames files made → ShowsDay files old → ShowsDay files (made ++ old)
  shows_made old made spares shows = record {
    free = λ none.
        let free = shows.free (
          sym (seen_spared files.records.path old made spares.records) ∙ none.0,
          sym (seen_spared files.report.path old made spares.report) ∙ none.1,
          sym (seen_spared files.stamp.path old made spares.stamp) ∙ none.2,
        ) in
        record {
          records = leaves_spared files.records.path None old made spares.records free.records;
          report = leaves_spared files.report.path None old made spares.report free.report;
          stamp = leaves_spared files.stamp.path None old made spares.stamp free.stamp;
        };
    unstamped = λ none. leaves_spared files.stamp.path None old made spares.stamp (shows.unstamped (sym (seen_spared files.stamp.path old made spares.stamp) ∙ none));
  }

  pub shows_spared : (old new made : List Step) → new ≡ made ++ old → SparesNames files made → ShowsDay files old → ShowsDay files new
  shows_spared old new made since spares shows = subst (λ (l : List Step). ShowsDay files l) (sym since) (shows_made old made spares shows)

  -- its input is there still, and what waits
  pub waits_spared : (input : Path) (choice : Choice) (old new made : List Step) → new ≡ made ++ old → now new input ≡ now old input
      → SparesNames files made → Spares files.stamp.part made → WaitsForStamp input files choice old old → WaitsForStamp input files choice new new
  waits_spared input choice old new made since same spares part waits = record {
    facts = waits.facts;
    looked = found_as input new old waits.facts (sym same) waits.looked;
    bytes = waits.bytes;
    records = waits.records;
    text = waits.text;
    report = waits.report;
    has_input = seen_as input old new same ∙ waits.has_input;
    reported = waits.reported;
    named = record {
      records_are = ready_after files.records.path _ old new made since spares.records waits.named.records_are;
      report_is = ready_after files.report.path _ old new made since spares.report waits.named.report_is;
      unseen = subst (λ (l : List Step). seen l files.stamp.path ≡ None) (sym since) (seen_spared files.stamp.path old made spares.stamp ∙ waits.named.unseen);
    };
    stamp_is = ready_after files.stamp.part _ old new made since part waits.stamp_is;
  }

-- whatever number its claim has
pub shows_as : (names : DayNames) (number given : ℕ) (past : List Step) → ShowsDay (files_of names number) past → ShowsDay (files_of names given) past
shows_as names number given past shows = record {
  free = λ none. let free = shows.free none in record { records = free.records; report = free.report; stamp = free.stamp };
  unstamped = shows.unstamped;
}

pub own_as : (is_own : (records report : List ℕ) → Bool) (is_of : (stamp records report : List ℕ) → Bool) (names : DayNames) (number given : ℕ) (past : List Step)
    → HasOwn is_own is_of (files_of names number) past → HasOwn is_own is_of (files_of names given) past
own_as is_own is_of names number given past has = record { report = has.report; stamp = has.stamp }
