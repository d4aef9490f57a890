-- The same walk, told of the files that lent their names, or after what printed nothing.
use Rattle.std.specs.Prelude.{Option, None, Some, String, string_bytes}
use Rattle.std.proofs.Common.{◌≡◌, ◌∙◌, ◌+◌, ◌++◌, ◌∷◌, ℕ, List, [], Result, Ok, Err, true, false, arith, inl, inr, refl, subst, sym}
use Rattle.msr_devices.specs.Device.{Device, Takes}
use Rattle.msr_folders.specs.Stopping.{entries_of}
use Rattle.msr_folders.specs.Totals.{saturated}
use Rattle.msr_folders.specs.declared.found.WalkFound.{WalkFound}
use Rattle.msr_folders.specs.declared.found.WalkFound.TheVariants.{Well, Unwell, NoDay}
use Rattle.msr_options.specs.declared.task.Archiving.{Archiving}
use Rattle.msr_options.specs.declared.task.Replacing.{Replacing}
use Rattle.msr_options.specs.declared.task.Trying.{Trying}
use Rattle.msr_options.specs.declared.task.Verifying.{Verifying}
use Rattle.msr_tree.specs.Calls.{Goes}
use Rattle.msr_tree.specs.Reads.{OnlyReads}
use Rattle.msr_tree.specs.Steps.{Path, Step}
use Rattle.msr_tree.proofs.Reading.{reads_none}
use Rattle.msr_walk.specs.Kills.{KeepsReports}
use Rattle.msr_walk.specs.Laws.{days_none}
use Rattle.msr_walk.specs.Losses.{KeepsDays}
use Rattle.msr_walk.specs.Told.{StaysWithin, WalksTree}
use Rattle.msr_walk.specs.declared.folders.Walked.{Walked}
use Rattle.msr_trial.specs.Walk.{TriesTree}
use Rattle.msr_trial.specs.declared.walk.Tried.{Tried}
use Rattle.msr_verify.specs.Walk.{VerifiesTree}
use Rattle.msr_replace.proofs.Counted.{count_more}
use Rattle.msr_replace.specs.Entries.{ExchangeEntry, IsStoppedAt, exchange_count, has_failed}
use Rattle.msr_replace.specs.Lines.{exchange_word}
use Rattle.msr_replace.specs.Tree.{ChangesAsked, ReplacesTree}
use Rattle.msr_replace.specs.Walk.{TellsFound}
use Rattle.msr_replace.specs.Words.{is_unwell}
use Rattle.msr_command.specs.declared.done.Done.{Done}
use Rattle.msr_command.specs.declared.task_fault.TaskFault.{TaskFault}
use Rattle.msr_command.specs.declared.task_fault.TaskFault.TheVariants.{CannotOpen, Closed, Failed, Input, Overlap, SameFile, SameOutput, Tool}
use Rattle.msr_command.specs.Ends.{FailsReplacing, HasReplaced, KeepsArchive, MayChange, ReplacesArchive, TriesArchive, VerifiesArchive, VerifiesKnown, WalksArchive, WalksKnown}
use Rattle.msr_command.proofs.Inputs.{goes_on, goes_so}

-- nothing was done

stays_same : (root : Path) (past : List Step) → StaysWithin root past past
stays_same root past = record { each = record { made = []; since = refl; holds = λ name within. refl } }

pub still_keeps : {before after : List Step → Type 0} (asked : Archiving) → Goes before after (λ old new. new ≡ old) → KeepsArchive before after asked
still_keeps asked still = record {
  root = goes_so (λ old new same. subst (λ it. StaysWithin asked.folders.root.now old it) (sym same) (stays_same asked.folders.root.now old)) still;
  killed = goes_so (λ old new same. subst (λ it. KeepsReports asked old it) (sym same) (days_none asked false old).reports) still;
  safe = goes_so (λ old new same. subst (λ it. KeepsDays false asked old it) (sym same) (days_none asked false old).safe) still;
}

pub still_reads : {before after : List Step → Type 0} → Goes before after (λ old new. new ≡ old) → Goes before after OnlyReads
still_reads still = goes_so (λ old new same. subst (λ it. OnlyReads old it) (sym same) (reads_none old)) still

pub still_changes : {before after : List Step → Type 0} (asked : Replacing) → Goes before after (λ old new. new ≡ old)
    → Goes before after (MayChange asked)
still_changes asked still = goes_so (λ old new same. inl same) still

pub changed_asked : {before after : List Step → Type 0} (asked : Replacing) → Goes before after (ChangesAsked asked)
    → Goes before after (MayChange asked)
changed_asked asked changes = goes_so (λ old new does. inr does) changes

-- what was done by names that were lent was done with the files
pub lent : (before taken left after : List Step → Type 0) (R : (old new : List Step) → Type 0) → Goes before taken (λ old new. new ≡ old)
    → Goes left after (λ old new. new ≡ old) → Goes taken left R → Goes before after R
lent before taken left after R lends keeps does = goes_on (λ old between new done same. subst (λ it. R old it) (sym same) done)
    (goes_on (λ old between new same done. subst (λ it. R it new) same done) lends does) keeps

-- and stayed so until nothing was on the screen
pub cleared : {left kept after : List Step → Type 0} → Goes left kept (λ old new. new ≡ old) → Goes kept after (λ old new. new ≡ old)
    → Goes left after (λ old new. new ≡ old)
cleared keeps clears = goes_on (λ old between new same again. again ∙ same) keeps clears

module _ (before1 after1 before after : List Step → Type 0) (out0 out1 out : Device)
    (takes_as : (printed : List ℕ) → Takes out1 out printed → Takes out0 out printed)
    (goes_as : (R : (old new : List Step) → Type 0) → Goes before1 after1 R → Goes before after R) where
  walked_as : (read : Archiving) (walked : Walked) → WalksTree read before1 after1 out1 out walked → WalksTree read before after out0 out walked
  walked_as read walked tree = record {
    visits = tree.visits;
    entries = tree.entries;
    printed = tree.printed;
    prints = takes_as tree.printed tree.prints;
    text = tree.text;
    tells = tree.tells;
    goes = goes_as _ tree.goes;
  }

  keeps_as : (asked : Archiving) → KeepsArchive before1 after1 asked → KeepsArchive before after asked
  keeps_as asked keeps = record { root = goes_as _ keeps.root; killed = goes_as _ keeps.killed; safe = goes_as _ keeps.safe }

  pub archive_as : (asked : Archiving) (result : Result Done TaskFault) → WalksArchive before1 after1 asked out1 out result
      → WalksArchive before after asked out0 out result
  archive_as asked (Ok done) does = record {
    printed = does.printed;
    prints = takes_as does.printed does.prints;
    ends = record {
      found = does.ends.found;
      walk = record {
        read = does.ends.walk.read;
        is = does.ends.walk.is;
        walk = walked_as does.ends.walk.read does.ends.found does.ends.walk.walk;
      };
      is = does.ends.is;
    };
    keeps = keeps_as asked does.keeps;
  }
  archive_as asked (Err stop) does = record {
    printed = does.printed;
    prints = takes_as does.printed does.prints;
    ends = does.ends;
    keeps = keeps_as asked does.keeps;
  }

  pub known_as : (asked : Archiving) (result : Result Walked TaskFault) → WalksKnown before1 after1 asked out1 out result
      → WalksKnown before after asked out0 out result
  known_as asked (Ok walked) does = archive_as asked _ does
  known_as asked (Err stop) does = archive_as asked (Err stop) does

  tried_as : (asked : Trying) (tried : Tried) → TriesTree asked before1 after1 out1 out tried → TriesTree asked before after out0 out tried
  tried_as asked tried tree = record {
    visits = tree.visits;
    entries = tree.entries;
    printed = tree.printed;
    prints = takes_as tree.printed tree.prints;
    text = tree.text;
    tells = tree.tells;
    goes = goes_as _ tree.goes;
  }

  pub trial_as : (asked : Trying) (result : Result Done TaskFault) → TriesArchive before1 after1 asked out1 out result
      → TriesArchive before after asked out0 out result
  trial_as asked (Ok done) does = record {
    printed = does.printed;
    prints = takes_as does.printed does.prints;
    ends = record { found = does.ends.found; walk = tried_as asked does.ends.found does.ends.walk; is = does.ends.is };
    reads = goes_as _ does.reads;
  }
  trial_as asked (Err stop) does = record {
    printed = does.printed;
    prints = takes_as does.printed does.prints;
    ends = does.ends;
    reads = goes_as _ does.reads;
  }

  verified_as : (read : Verifying) (found : WalkFound) → VerifiesTree read before1 after1 out1 out found
      → VerifiesTree read before after out0 out found
  verified_as read found tree = record {
    entries = tree.entries;
    orphans = tree.orphans;
    printed = tree.printed;
    prints = takes_as tree.printed tree.prints;
    text = tree.text;
    tells = tree.tells;
    goes = goes_as _ tree.goes;
  }

  pub verify_as : (asked : Verifying) (result : Result Done TaskFault) → VerifiesArchive before1 after1 asked out1 out result
      → VerifiesArchive before after asked out0 out result
  verify_as asked (Ok done) does = record {
    printed = does.printed;
    prints = takes_as does.printed does.prints;
    ends = record {
      found = does.ends.found;
      walk = record {
        read = does.ends.walk.read;
        is = does.ends.walk.is;
        walk = verified_as does.ends.walk.read does.ends.found does.ends.walk.walk;
      };
      is = does.ends.is;
    };
    reads = goes_as _ does.reads;
  }
  verify_as asked (Err stop) does = record {
    printed = does.printed;
    prints = takes_as does.printed does.prints;
    ends = does.ends;
    reads = goes_as _ does.reads;
  }

  pub verify_known_as : (asked : Verifying) (result : Result WalkFound TaskFault) → VerifiesKnown before1 after1 asked out1 out result
      → VerifiesKnown before after asked out0 out result
  verify_known_as asked (Ok found) does = verify_as asked _ does
  verify_known_as asked (Err stop) does = verify_as asked (Err stop) does

  replaced_as : {Z : Type 0} (asked : Replacing) (failed : Option (String Z)) (found : WalkFound)
      → ReplacesTree asked before1 after1 out1 out failed found → ReplacesTree asked before after out0 out failed found
  replaced_as asked failed found tree = record {
    work = tree.work;
    is_work = tree.is_work;
    said = tree.said;
    first = tree.first;
    all = tree.all;
    stopped = tree.stopped;
    printed = tree.printed;
    prints = takes_as tree.printed tree.prints;
    text = tree.text;
    tells = tree.tells;
    goes = goes_as _ tree.goes;
  }

  fails_as : (asked : Replacing) (stop : TaskFault) → FailsReplacing before1 after1 asked out1 out (Err stop)
      → FailsReplacing before after asked out0 out (Err stop)
  fails_as asked (Failed path why) fails = replaced_as asked _ _ fails
  fails_as asked (CannotOpen name why) fails = absurd fails
  fails_as asked (Input name why) fails = absurd fails
  fails_as asked SameFile fails = absurd fails
  fails_as asked SameOutput fails = absurd fails
  fails_as asked Overlap fails = absurd fails
  fails_as asked Closed fails = absurd fails
  fails_as asked (Tool why) fails = absurd fails

  pub replace_as : (asked : Replacing) (result : Result Done TaskFault) → ReplacesArchive before1 after1 asked out1 out result
      → ReplacesArchive before after asked out0 out result
  replace_as asked (Ok done) does = record {
    printed = does.printed;
    prints = takes_as does.printed does.prints;
    ends = elim does.ends [
      | inl fails ↦ absurd fails
      | inr ends ↦ inr (record { found = ends.found; walk = replaced_as asked None ends.found ends.walk; is = ends.is })
    ];
    changes = goes_as _ does.changes;
  }
  replace_as asked (Err stop) does = record {
    printed = does.printed;
    prints = takes_as does.printed does.prints;
    ends = elim does.ends [
      | inl fails ↦ inl (fails_as asked stop fails)
      | inr ends ↦ inr ends
    ];
    changes = goes_as _ does.changes;
  }

-- a walk in which a call failed is one of which something is to be looked at

failed_is_unwell : (entry : ExchangeEntry) → has_failed entry.outcome ≡ true → is_unwell (exchange_word entry.outcome) ≡ true
failed_is_unwell entry is = grind (arith, is)

counted_one : (n : ℕ) → saturated (n + 1) ≡ 0 → ⊥
counted_one n none = omega (arith, none)

has_unwell : {Z : Type 0} (entries : List ExchangeEntry) (path : String Z) → IsStoppedAt entries (Some path)
    → exchange_count is_unwell entries ≡ 0 → ⊥
has_unwell entries path (before, last, whole, all, failed, at) none =
    let more = count_more is_unwell before last (exchange_count is_unwell before) refl in
    let counted : saturated (exchange_count is_unwell before + 1) ≡ exchange_count is_unwell (before ++ last ∷ []) =
    rw (failed_is_unwell last failed) at more in
    counted_one (exchange_count is_unwell before) (counted ∙ subst (λ it. exchange_count is_unwell it ≡ 0) whole none)

failed_unwell : {Z : Type 0} (entries : List ExchangeEntry) (path : String Z) (found : WalkFound) → IsStoppedAt entries (Some path)
    → TellsFound entries found → found ≡ Unwell
failed_unwell entries path Unwell stopped tells = refl
failed_unwell entries path Well stopped tells = absurd (has_unwell entries path stopped tells.0)
failed_unwell entries path NoDay stopped tells = absurd (has_unwell entries path stopped tells.0)

-- of that path, by whatever memory its text has
pub failed_at : {Z Y : Type 0} (asked : Replacing) (before after : List Step → Type 0) (out0 out : Device) (at : String Z) (path : String Y)
    (found : WalkFound) → string_bytes at ≡ string_bytes path → ReplacesTree asked before after out0 out (Some at) found
    → ReplacesTree asked before after out0 out (Some path) Unwell
failed_at asked before after out0 out at path found is tree =
    let unwell = failed_unwell (entries_of tree.said) at found tree.stopped tree.tells in
    let s = tree.stopped in
    record {
      work = tree.work;
      is_work = tree.is_work;
      said = tree.said;
      first = tree.first;
      all = λ none. absurd cc;
      stopped = (s.0, s.1, s.2, s.3, s.4, s.5 ∙ is);
      printed = tree.printed;
      prints = tree.prints;
      text = tree.text;
      tells = subst (λ it. TellsFound (entries_of tree.said) it) unwell tree.tells;
      goes = tree.goes;
    }

-- or none failed
pub none_failed : {Z : Type 0} (asked : Replacing) (before after : List Step → Type 0) (out0 out : Device) (found : WalkFound)
    → ReplacesTree {Z = Z} asked before after out0 out None found → HasReplaced asked before after out0 out found
none_failed asked before after out0 out found tree = record {
  work = tree.work;
  is_work = tree.is_work;
  said = tree.said;
  first = tree.first;
  all = tree.all;
  stopped = tree.stopped;
  printed = tree.printed;
  prints = tree.prints;
  text = tree.text;
  tells = tree.tells;
  goes = tree.goes;
}
