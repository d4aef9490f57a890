-- How tasks end: done, stopped, or before they begin.
use Rattle.std.specs.Prelude.{◌↔◌, ⊤, IfOk, IsTrue, Option, None, Some, String, vec_len}
use Rattle.std.proofs.Common.{◌≡◌, ◌++◌, ℕ, Bool, List, [], refl, subst, sym, inl, inr, append-nil, Result, Ok, Err, ◌≢◌, false}
use Rattle.msr_devices.specs.Device.{Device, HasLeft, Takes}
use Rattle.msr_devices.proofs.Chaining.{left_of, takes_append, takes_none}
use Rattle.msr_report.specs.declared.report.Report.{Report}
use Rattle.msr_devices.specs.declared.fault.DeviceFault.{DeviceFault}
use Rattle.msr_devices.specs.declared.fault.DeviceFault.TheVariants as device_fault
use Rattle.msr_options.specs.Choice.{Choice}
use Rattle.msr_tool.specs.Tasks.{Reports}
use Rattle.msr_tool.specs.declared.fault.ToolFault.{ToolFault}
use Rattle.msr_tool.specs.declared.fault.ToolFault.TheVariants as fault
use Rattle.msr_options.specs.declared.known.Known.{Known}
use Rattle.msr_options.specs.declared.known.Known.TheVariants.{Nothing, File, Lines}
use Rattle.msr_options.specs.declared.task.Archiving.{Archiving}
use Rattle.msr_options.specs.declared.task.Replacing.{Replacing}
use Rattle.msr_options.specs.declared.task.Trying.{Trying}
use Rattle.msr_options.specs.declared.task.Verifying.{Verifying}
use Rattle.msr_folders.specs.declared.found.WalkFound.{WalkFound}
use Rattle.msr_folders.specs.Stopping.{entries_of}
use Rattle.msr_folders.specs.Visits.{IsWalk}
use Rattle.msr_outcomes.specs.Known.{IsEntry}
use Rattle.msr_outcomes.specs.Lines.{IsEntryLine}
use Rattle.msr_outcomes.specs.Summary.{summary, summary_by}
use Rattle.msr_walk.specs.Files.{HaveNames, day_names}
use Rattle.msr_walk.specs.Kills.{KeepsReport, KeepsReports, day_names_in}
use Rattle.msr_walk.specs.Losses.{KeepsDay, KeepsDays}
use Rattle.msr_walk.specs.Told.{StaysWithin, WalksTree}
use Rattle.msr_walk.specs.Walk.{Walks}
use Rattle.msr_walk.specs.declared.folders.Walked.{Walked}
use Rattle.msr_trial.specs.Entries.{IsTrialEntry}
use Rattle.msr_trial.specs.Lines.{IsTrialLine}
use Rattle.msr_trial.specs.Walk.{Tries, TriesTree}
use Rattle.msr_trial.specs.declared.walk.Tried.{Tried}
use Rattle.msr_verify.specs.Known.{IsJudgedEntry}
use Rattle.msr_verify.specs.Lines.{IsToldLine}
use Rattle.msr_verify.specs.Walk.{Verifies, VerifiesTree, judged_summary}
use Rattle.msr_replace.specs.Entries.{IsExchangeEntry, IsExchangeEntryLine}
use Rattle.msr_replace.specs.Sums.{exchange_summary}
use Rattle.msr_replace.specs.Tree.{ChangesAsked, ReplacesTree}
use Rattle.msr_replace.specs.Walk.{ReplacesDays}
use Rattle.msr_command.specs.declared.done.Done.{Done}
use Rattle.msr_command.specs.declared.done.Done.TheVariants.{Written, Repacked}
use Rattle.msr_command.specs.declared.task_fault.TaskFault.{TaskFault}
use Rattle.msr_command.specs.declared.task_fault.TaskFault.TheVariants.{CannotOpen, Closed, Failed, Input, Overlap, SameFile, SameOutput, Tool}
use Rattle.msr_options.specs.declared.task.ListForm.{ListForm}
use Rattle.msr_options.specs.declared.task.Task.{Task}
use Rattle.msr_options.specs.declared.task.Task.TheVariants.{Repack, List as Listing, Check, Compare, Archive, Trial, Verify, Replace, Feed}
use Rattle.msr_command.specs.Turns.{AreTurns}
use Rattle.msr_tree.specs.Calls.{Goes}
use Rattle.msr_tree.specs.Reads.{OnlyReads}
use Rattle.msr_tree.specs.Steps.{Path, Step}
use Rattle.msr_options.specs.declared.task.Checking.{Checking}
use Rattle.msr_command.proofs.Comparisons.{compare_unsettled, two_after, two_none}
use Rattle.msr_options.specs.declared.task.Feeding.{Feeding}
use Rattle.msr_options.specs.declared.task.Repacking.{Repacking}
use Rattle.msr_command.specs.Named.{GetsNoReport, GetsOutput, GetsReport}
use Rattle.msr_command.proofs.Inputs.{goes_so, goes_still, unread_unopened}
use Rattle.msr_command.proofs.Walks.{archive_as, changed_asked, failed_at, none_failed, replace_as, still_changes, still_keeps, still_reads, trial_as, verify_as}
use Rattle.msr_command.specs.Ends.{Checks, ComesNamed, Does, EndsClosed, EndsReplacing, Feeds, FeedEnds, FeedsTo, HasOpened, IfTool, IsUncreated, IsUnbegun, IsUnread, ListEnds, ListsNamed, IsOverlapOrMemory, KeepsArchive, Over, RepackEnds, Repacks, RepacksNamed, ReplacesArchive, Settles, StopsRecords, VerifiesArchive, WalksArchive, WritesRecords, done_of_archive, done_of_verifying, is_whole, TriesArchive, IsArchivingRead, IsUnwalked, IsVerifyingRead, done_of_trial, IsKnownRead, IsUnknown}
use denote.Ref.{Bor}

-- nothing was printed
over_none : (opened : Type 0) (comes : List ℕ → Type 0) (says : (input printed : List ℕ) → Type 0) (out0 out : Device)
    (input : List ℕ) → (opened → comes input) → Takes out0 out [] → says input [] → Over opened comes says out0 out
over_none opened comes says out0 out input come none ends =
    record { input = input; printed = []; come = come; prints = none; ends = ends }

-- what was tried before prints nothing
over_after : (opened : Type 0) (comes : List ℕ → Type 0) (says : (input printed : List ℕ) → Type 0)
    (out0 out1 out : Device) → Takes out0 out1 [] → Over opened comes says out1 out → Over opened comes says out0 out
over_after opened comes says out0 out1 out none does = record {
  input = does.input;
  printed = does.printed;
  come = does.come;
  prints = takes_append out0 out1 out [] does.printed none does.prints;
  ends = does.ends;
}

-- what was done over an input that comes from a name
pub over_named : {opened named : Type 0} {comes others : List ℕ → Type 0} {says : (input printed : List ℕ) → Type 0}
    {out0 out : Device} (does : Over opened comes says out0 out) → (named → others does.input)
    → Over named others says out0 out
over_named does come =
    record { input = does.input; printed = does.printed; come = come; prints = does.prints; ends = does.ends }

-- the same is said otherwise
over_said : (opened : Type 0) (comes : List ℕ → Type 0) (says others : (input printed : List ℕ) → Type 0)
    (out0 out : Device) → ((input printed : List ℕ) → says input printed → others input printed)
    → Over opened comes says out0 out → Over opened comes others out0 out
over_said opened comes says others out0 out then does = record {
  input = does.input;
  printed = does.printed;
  come = does.come;
  prints = does.prints;
  ends = then does.input does.printed does.ends;
}

-- a file cannot be opened or made, or is another one

pub repack_uncreated : (choice : Choice) (holds : List ℕ → Type 0) (source out : Device) (stop : TaskFault) → IsUncreated stop →
    Repacks choice holds source out out (Err stop)
repack_uncreated choice holds source out stop is =
    let left = left_of source in
    over_none ⊤ (HasLeft source) (RepackEnds choice holds (Err stop)) out out left.0 (λ opened. left.1) (takes_none out)
    (inr (inl is, refl))

pub repack_unread : (before after : List Step → Type 0) (asked : Repacking) (standard out : Device) (stop : TaskFault) →
    IsUnread stop → RepacksNamed before after asked standard out out (Err stop)
repack_unread before after asked standard out stop is =
    over_none (HasOpened (Err stop)) (ComesNamed before asked.input.now standard)
    (RepackEnds asked.options (GetsOutput before after asked.output) (Err stop)) out out []
    (λ opened. absurd (unread_unopened stop is opened)) (takes_none out) (inr (inl (inl is), refl))

pub feed_uncreated : (before after : List Step → Type 0) (asked : Feeding) (source out : Device) (stop : TaskFault) →
    IsUncreated stop → Feeds before after asked source out out (Err stop)
feed_uncreated before after asked source out stop is =
    let left = left_of source in
    over_none ⊤ (HasLeft source) _ out out left.0 (λ opened. left.1) (takes_none out) (inr (inl is, refl))

pub list_unread : (form : ListForm) (choice : Choice) (went : List Step → Type 0) (name : Path) (standard out : Device)
    (stop : TaskFault) → IsUnread stop → ListsNamed form choice went name standard out out (Err stop)
list_unread form choice went name standard out stop is =
    over_none (HasOpened (Err stop)) (ComesNamed went name standard) (ListEnds form choice (Err stop)) out out []
    (λ opened. absurd (unread_unopened stop is opened)) (takes_none out) (inr (inl is, refl))

-- nothing can be printed

-- nor is any file made, if nothing is fed
pub closed_still : (went : List Step → Type 0) (task : Task) → ((asked : Feeding) → task ≢ Feed asked) → EndsClosed went went task Closed
closed_still went (Repack asked) other = (refl, goes_still)
closed_still went (Listing asked) other = (refl, goes_still)
closed_still went (Check asked) other = (refl, goes_still)
closed_still went (Compare asked) other = (refl, goes_still)
closed_still went (Archive asked) other = (refl, goes_still)
closed_still went (Trial asked) other = (refl, goes_still)
closed_still went (Verify asked) other = (refl, goes_still)
closed_still went (Replace asked) other = (refl, goes_still)
closed_still went (Feed asked) other = absurd (other asked refl)

pub task_closed : (before after : List Step → Type 0) (task : Task) (standard out0 out : Device) (stop : TaskFault) →
    Takes out0 out [] → EndsClosed before after task stop → Does before after task standard out0 out (Err stop)
task_closed before after (Repack asked) standard out0 out stop none ends =
    rw ends.0 (over_none _ _ _ out0 out [] (λ opened. absurd opened) none (inr (inr refl, refl)))
task_closed before after (Listing asked) standard out0 out stop none ends =
    rw ends.0 (over_none _ _ _ out0 out [] (λ opened. absurd opened) none (inr (inr refl, refl)))
task_closed before after (Check asked) standard out0 out stop none ends = rw ends.0 (record {
  input = [];
  text = [];
  printed = [];
  packed = λ opened. absurd opened;
  report = λ opened. absurd opened;
  prints = none;
  ends = inr (inr refl, refl);
})
task_closed before after (Compare asked) standard out0 out stop none ends =
    rw ends.0 (two_none _ _ _ _ out0 out (λ opened. opened) none (inr (inr refl, refl)))
task_closed before after (Archive asked) standard out0 out stop none ends = rw ends.0 (record {
  printed = [];
  prints = none;
  ends = inr (inr refl, refl);
  keeps = still_keeps asked ends.1;
})
task_closed before after (Trial asked) standard out0 out stop none ends =
    rw ends.0 (record { printed = []; prints = none; ends = inr (inr refl, refl); reads = still_reads ends.1 })
task_closed before after (Verify asked) standard out0 out stop none ends =
    rw ends.0 (record { printed = []; prints = none; ends = inr (inr refl, refl); reads = still_reads ends.1 })
task_closed before after (Replace asked) standard out0 out stop none ends =
    rw ends.0 (record { printed = []; prints = none; ends = inr (inr (inr refl, refl)); changes = still_changes asked ends.1 })
task_closed before after (Feed asked) standard out0 out stop none ends =
    let left = left_of standard in
    over_none ⊤ (HasLeft standard) _ out0 out left.0 (λ opened. left.1) none (inr (ends, refl))

pub then_does : (before after : List Step → Type 0) (task : Task) (standard out0 out1 out : Device) (result : Result Done TaskFault) →
    Takes out0 out1 [] → Does before after task standard out1 out result → Does before after task standard out0 out result
then_does before after (Repack asked) standard out0 out1 out result none does = over_after _ _ _ out0 out1 out none does
then_does before after (Listing asked) standard out0 out1 out result none does = over_after _ _ _ out0 out1 out none does
then_does before after (Check asked) standard out0 out1 out result none does = record {
  input = does.input;
  text = does.text;
  printed = does.printed;
  packed = does.packed;
  report = does.report;
  ends = does.ends;
  prints = takes_append out0 out1 out [] does.printed none does.prints;
}
then_does before after (Compare asked) standard out0 out1 out result none does = two_after _ _ _ _ out0 out1 out none does
then_does before after (Archive asked) standard out0 out1 out result none does =
    archive_as before after before after out0 out1 out (λ printed takes. takes_append out0 out1 out [] printed none takes) (λ R goes. goes) asked result does
then_does before after (Trial asked) standard out0 out1 out result none does =
    trial_as before after before after out0 out1 out (λ printed takes. takes_append out0 out1 out [] printed none takes) (λ R goes. goes) asked result does
then_does before after (Verify asked) standard out0 out1 out result none does =
    verify_as before after before after out0 out1 out (λ printed takes. takes_append out0 out1 out [] printed none takes) (λ R goes. goes) asked result does
then_does before after (Replace asked) standard out0 out1 out result none does =
    replace_as before after before after out0 out1 out (λ printed takes. takes_append out0 out1 out [] printed none takes) (λ R goes. goes) asked result does
then_does before after (Feed asked) standard out0 out1 out result none does = over_after _ _ _ out0 out1 out none does

-- the engine succeeds, or stops

pub repack_done : (choice : Choice) (source records0 records out0 out : Device) (report : Report) (in_turns : Bool) →
    Reports choice source records0 records out0 out (Ok report) → (IsTrue in_turns ↔ AreTurns report) →
    Repacks choice (Takes records0 records) source out0 out (Ok (Repacked in_turns))
repack_done choice source records0 records out0 out report in_turns does turns = record {
  input = does.input;
  printed = does.told;
  come = λ opened. does.left;
  prints = does.told_all;
  ends = (
    in_turns,
    refl,
    record {
      written = does.written;
      output = does.wrote;
      report = report;
      reported = does.answers;
      turns = turns;
    },
  );
}

pub repack_stops : (choice : Choice) (source records0 records out0 out : Device) (why : ToolFault) →
    Reports choice source records0 records out0 out (Err why) → Repacks choice (Takes records0 records) source out0 out (Err (Tool why))
repack_stops choice source records0 records out0 out why does = record {
  input = does.input;
  printed = does.told;
  come = λ opened. does.left;
  prints = does.told_all;
  ends = inl (record { written = does.written; output = does.wrote; answers = does.answers });
}

-- what was fed is a repack whose records are printed, and whose text goes to a file

pub feed_done : (choice : Choice) (source out0 out text0 text : Device) (report : Report) →
    Reports choice source out0 out text0 text (Ok report) → FeedsTo choice (Takes text0 text) source out0 out (Ok tt)
feed_done choice source out0 out text0 text report does = record {
  input = does.input;
  printed = does.written;
  come = λ opened. does.left;
  prints = does.wrote;
  ends = record { told = does.told; output = does.told_all; report = report; reported = does.answers };
}

pub feed_stops : (choice : Choice) (source out0 out text0 text : Device) (why : ToolFault) →
    Reports choice source out0 out text0 text (Err why) → FeedsTo choice (Takes text0 text) source out0 out (Err why)
feed_stops choice source out0 out text0 text why does = record {
  input = does.input;
  printed = does.written;
  come = λ opened. does.left;
  prints = does.wrote;
  ends = record { told = does.told; output = does.told_all; answers = does.answers };
}

pub fed : (before after : List Step → Type 0) (asked : Feeding) (holds : List ℕ → Type 0) (source out0 out : Device) →
    ((told : List ℕ) → holds told → GetsReport before after asked.report.now told) →
    FeedsTo asked.options holds source out0 out (Ok tt) → Feeds before after asked source out0 out (Ok Written)
fed before after asked holds source out0 out so does = over_said ⊤ (HasLeft source) _ _ out0 out
    (λ input printed ends. (
      refl,
      record {
        told = ends.told;
        output = so ends.told ends.output;
        report = ends.report;
        reported = ends.reported;
      },
    )) does

pub unfed : (before after : List Step → Type 0) (asked : Feeding) (holds : List ℕ → Type 0) (source out0 out : Device)
    (why : ToolFault) → ((told : List ℕ) → holds told → GetsNoReport before after asked.report.now told) →
    FeedsTo asked.options holds source out0 out (Err why) → Feeds before after asked source out0 out (Err (Tool why))
unfed before after asked holds source out0 out why so does = over_said ⊤ (HasLeft source) _ _ out0 out
    (λ input printed ends. inl (record { told = ends.told; output = so ends.told ends.output; answers = ends.answers })) does

pub check_unread : (went : List Step → Type 0) (asked : Checking) (out : Device) (stop : TaskFault) → IsUnread stop →
    Checks went asked out out (Err stop)
check_unread went asked out stop is = record {
  input = [];
  text = [];
  printed = [];
  packed = λ opened. absurd (unread_unopened stop is opened);
  report = λ opened. absurd (unread_unopened stop is opened);
  prints = takes_none out;
  ends = inr (inl is, refl);
}

-- the archive of a walk is the one that is asked for
module _ (asked read : Archiving) (is : IsArchivingRead asked read) where
  reports_read : (old new : List Step) → KeepsReports read old new → KeepsReports asked old new
  reports_read old new keeps = record {
    each = λ have path day.
        let of_folders = subst (λ folders. KeepsReport read.days (day_names folders.root.now folders.out.now folders.reports.now path) old new) is.folders
        (keeps.each (subst (λ folders. HaveNames folders.out.now folders.reports.now) (sym is.folders) have) path day) in
        subst (λ days. KeepsReport days (day_names_in asked path) old new) is.days of_folders;
  }

  days_read : (old new : List Step) → KeepsDays false read old new → KeepsDays false asked old new
  days_read old new keeps = record {
    each = λ none have path day.
        let of_folders = subst (λ folders. KeepsDay false read.days (day_names folders.root.now folders.out.now folders.reports.now path) old new) is.folders
        (keeps.each none (subst (λ folders. HaveNames folders.out.now folders.reports.now) (sym is.folders) have) path day) in
        subst (λ days. KeepsDay false days (day_names_in asked path) old new) is.days of_folders;
  }

  keeps_read : (before after : List Step → Type 0) → KeepsArchive before after read → KeepsArchive before after asked
  keeps_read before after keeps = record {
    root = subst (λ folders. Goes before after (StaysWithin folders.root.now)) is.folders keeps.root;
    killed = goes_so reports_read keeps.killed;
    safe = goes_so days_read keeps.safe;
  }

pub archive_done : (before after : List Step → Type 0) (asked read : Archiving) (out0 out : Device) (walked : Walked) → IsArchivingRead asked read
    → WalksTree read before after out0 out walked → KeepsArchive before after read
    → WalksArchive before after asked out0 out (Ok (done_of_archive (is_whole (vec_len asked.below)) walked))
archive_done before after asked read out0 out walked is tree keeps = record {
  printed = tree.printed;
  prints = tree.prints;
  ends = record { found = walked; walk = record { read = read; is = is; walk = tree }; is = refl };
  keeps = keeps_read asked read is before after keeps;
}

pub archive_stops : (before after : List Step → Type 0) (asked read : Archiving) (out0 out : Device) (why : ToolFault) → IsArchivingRead asked read
    → Walks read out0 out (Err why) → KeepsArchive before after read
    → WalksArchive before after asked out0 out (Err (Tool why))
archive_stops before after asked read out0 out why is does keeps = record {
  printed = does.printed;
  prints = does.prints;
  ends = inl (record { read = read; is = is; walk = does.ends });
  keeps = keeps_read asked read is before after keeps;
}

pub archive_unbegun : (went : List Step → Type 0) (asked : Archiving) (out : Device) (stop : TaskFault) → IsUnwalked asked.known stop
    → WalksArchive went went asked out out (Err stop)
archive_unbegun went asked out stop is = record {
  printed = [];
  prints = takes_none out;
  ends = inr (inl is, refl);
  keeps = still_keeps asked goes_still;
}

pub trial_done : (before after : List Step → Type 0) (asked : Trying) (out0 out : Device) (tried : Tried)
    → TriesTree asked before after out0 out tried → Goes before after OnlyReads
    → TriesArchive before after asked out0 out (Ok (done_of_trial (is_whole (vec_len asked.below)) tried))
trial_done before after asked out0 out tried tree reads = record {
  printed = tree.printed;
  prints = tree.prints;
  ends = record { found = tried; walk = tree; is = refl };
  reads = reads;
}

pub trial_stops : (before after : List Step → Type 0) (asked : Trying) (out0 out : Device) (why : ToolFault) → Tries asked.days out0 out (Err why)
    → Goes before after OnlyReads → TriesArchive before after asked out0 out (Err (Tool why))
trial_stops before after asked out0 out why does reads =
    record { printed = does.printed; prints = does.prints; ends = inl does.ends; reads = reads }

-- if no file is to be read, what is asked for is known
pub known_same : (known : Known) → ((name : Bor (List ℕ)) → known ≢ File name) → IsKnownRead known known
known_same Nothing other = refl
known_same (File name) other = absurd (other name refl)
known_same (Lines lines) other = refl

-- which could not be read
pub unread : (asked : Known) (name : Bor (List ℕ)) (stop : TaskFault) → asked ≡ File name → IsUnknown stop → IsUnwalked asked stop
unread asked name stop is unknown = rw is (inr unknown)

-- before any file is read
pub unwalked : (known : Known) (stop : TaskFault) → IsOverlapOrMemory stop → IsUnwalked known stop
unwalked (File name) stop is = inl is
unwalked Nothing stop is = is
unwalked (Lines lines) stop is = is

pub verify_done : (before after : List Step → Type 0) (asked read : Verifying) (out0 out : Device) (found : WalkFound) → IsVerifyingRead asked read
    → VerifiesTree read before after out0 out found → Goes before after OnlyReads
    → VerifiesArchive before after asked out0 out (Ok (done_of_verifying (is_whole (vec_len asked.below)) found))
verify_done before after asked read out0 out found is tree reads = record {
  printed = tree.printed;
  prints = tree.prints;
  ends = record { found = found; walk = record { read = read; is = is; walk = tree }; is = refl };
  reads = reads;
}

pub verify_stops : (before after : List Step → Type 0) (asked read : Verifying) (out0 out : Device) (why : ToolFault) → IsVerifyingRead asked read
    → Verifies read out0 out (Err why) → Goes before after OnlyReads → VerifiesArchive before after asked out0 out (Err (Tool why))
verify_stops before after asked read out0 out why is does reads = record {
  printed = does.printed;
  prints = does.prints;
  ends = inl (record { read = read; is = is; walk = does.ends });
  reads = reads;
}

pub verify_unbegun : (went : List Step → Type 0) (asked : Verifying) (out : Device) (stop : TaskFault) → IsUnwalked asked.known stop
    → VerifiesArchive went went asked out out (Err stop)
verify_unbegun went asked out stop is =
    record { printed = []; prints = takes_none out; ends = inr (inl is, refl); reads = still_reads goes_still }

-- the days of an archive were not replaced, nor was anything printed

pub replace_unbegun : (went : List Step → Type 0) (asked : Replacing) (out : Device) (stop : TaskFault) → IsUnbegun stop
    → ReplacesArchive went went asked out out (Err stop)
replace_unbegun went asked out stop is = record {
  printed = [];
  prints = takes_none out;
  ends = inr (inr (inl is, refl));
  changes = still_changes asked goes_still;
}

-- they were, or the walk was stopped

pub replace_ended : {Z : Type 0} (before after : List Step → Type 0) (asked : Replacing) (out0 out : Device) (failed : Option (String Z))
    (found : Result WalkFound DeviceFault) (result : Result Done TaskFault) → ReplacesDays asked.undo out0 out failed found
    → IfOk found (ReplacesTree asked before after out0 out failed) → Goes before after (ChangesAsked asked)
    → EndsReplacing asked failed found result → ReplacesArchive before after asked out0 out result
replace_ended before after asked out0 out None (Ok found) (Ok done) does tree changes ends = record {
  printed = does.printed;
  prints = does.prints;
  ends = inr (record { found = found; walk = none_failed asked before after out0 out found tree; is = ends });
  changes = changed_asked asked changes;
}
replace_ended before after asked out0 out (Some at) (Ok found) (Err (Failed path why)) does tree changes ends = record {
  printed = does.printed;
  prints = does.prints;
  ends = inl (failed_at asked before after out0 out at path found ends tree);
  changes = changed_asked asked changes;
}
replace_ended before after asked out0 out failed (Err fault) (Err (Tool why)) does tree changes ends = record {
  printed = does.printed;
  prints = does.prints;
  ends = inr (inl (record { fault = fault; is = ends; walk = does.ends }));
  changes = changed_asked asked changes;
}
replace_ended before after asked out0 out failed found _ does tree changes ends = absurd ends

-- what was printed is not stored

repack_unstored : (choice : Choice) (holds : List ℕ → Type 0) (done : Done) (input printed : List ℕ) →
    RepackEnds choice holds (Ok done) input printed → RepackEnds choice holds (Err (Tool fault.Write)) input printed
repack_unstored choice holds done input printed ends = inl (record {
  written = ends.2.written;
  output = ends.2.output;
  answers = inr (record { report = ends.2.report; rest = []; reported = rw append-nil ends.2.reported });
})

repack_unsettled : (choice : Choice) (holds : List ℕ → Type 0) (source out0 out : Device) (done : Done) →
    Repacks choice holds source out0 out (Ok done) → Repacks choice holds source out0 out (Err (Tool fault.Write))
repack_unsettled choice holds source out0 out done does =
    over_said ⊤ (HasLeft source) _ _ out0 out (repack_unstored choice holds done) does

pub repack_settled : (choice : Choice) (holds : List ℕ → Type 0) (source out0 out : Device) (done result : Result Done TaskFault) →
    Settles done result → Repacks choice holds source out0 out done → Repacks choice holds source out0 out result
repack_settled choice holds source out0 out (Ok done) result (inl same) does = rw same does
repack_settled choice holds source out0 out (Ok done) result (inr failed) does =
    rw failed (repack_unsettled choice holds source out0 out done does)
repack_settled choice holds source out0 out (Err stop) result same does = rw same does

-- what one place holds another does

if_tool : {P Q : ToolFault → Type 0} (stop : TaskFault) → ((why : ToolFault) → P why → Q why) → IfTool P stop → IfTool Q stop
if_tool (Tool why) so is = so why is
if_tool (CannotOpen name why) so is = is
if_tool (Input name why) so is = is
if_tool (Failed path why) so is = is
if_tool SameFile so is = is
if_tool SameOutput so is = is
if_tool Overlap so is = is
if_tool Closed so is = is

repack_elsewhere : (choice : Choice) {holds others : List ℕ → Type 0} (result : Result Done TaskFault) (input printed : List ℕ) →
    ((written : List ℕ) → holds written → others written) → RepackEnds choice holds result input printed →
    RepackEnds choice others result input printed
repack_elsewhere choice (Ok done) input printed so ends = (
  ends.0,
  ends.1,
  record {
    written = ends.2.written;
    output = so ends.2.written ends.2.output;
    report = ends.2.report;
    reported = ends.2.reported;
    turns = ends.2.turns;
  },
)
repack_elsewhere choice (Err stop) input printed so (inl stops) = inl (if_tool stop
    (λ why it. record { written = it.written; output = so it.written it.output; answers = it.answers }) stops)
repack_elsewhere choice (Err stop) input printed so (inr unread) = inr unread

pub repack_held : (choice : Choice) {holds others : List ℕ → Type 0} (source out0 out : Device) (result : Result Done TaskFault) →
    ((written : List ℕ) → holds written → others written) → Repacks choice holds source out0 out result →
    Repacks choice others source out0 out result
repack_held choice {holds} {others} source out0 out result so does =
    over_said ⊤ (HasLeft source) _ _ out0 out (λ input printed ends. repack_elsewhere choice result input printed so ends) does

feed_unstored : (choice : Choice) (holds left : List ℕ → Type 0) (input printed : List ℕ) →
    ((told : List ℕ) → holds told → left told) → WritesRecords choice holds input printed →
    StopsRecords choice left input printed fault.Write
feed_unstored choice holds left input printed so ends = record {
  told = ends.told;
  output = so ends.told ends.output;
  answers = inr (record { report = ends.report; rest = []; reported = rw append-nil ends.reported });
}

pub feed_unsettled : (choice : Choice) (holds : List ℕ → Type 0) (source out0 out : Device) →
    FeedsTo choice holds source out0 out (Ok tt) → FeedsTo choice holds source out0 out (Err fault.Write)
feed_unsettled choice holds source out0 out does = over_said ⊤ (HasLeft source) _ _ out0 out
    (λ input printed ends. feed_unstored choice holds holds input printed (λ told held. held) ends) does

-- a report that has its text is one that could not be emptied
fed_unstored : (before after : List Step → Type 0) (asked : Feeding) (done : Done) (input printed : List ℕ) →
    FeedEnds asked.options (GetsReport before after asked.report.now) (GetsNoReport before after asked.report.now) (Ok done)
    input printed → FeedEnds asked.options (GetsReport before after asked.report.now)
    (GetsNoReport before after asked.report.now) (Err (Tool fault.Write)) input printed
fed_unstored before after asked done input printed ends = inl (feed_unstored asked.options _ _ input printed
    (λ told has. goes_so (λ old new only. inr only) has) ends.1)

list_unstored : (form : ListForm) (choice : Choice) (done : Done) (input printed : List ℕ) →
    ListEnds form choice (Ok done) input printed → ListEnds form choice (Err (Tool fault.Write)) input printed
list_unstored form choice done input printed ends = inl (inr
    (record { counts = ends.1.counts; tail = []; listed = rw append-nil ends.1.listed }))

check_unsettled : (went : List Step → Type 0) (asked : Checking) (out0 out : Device) (done : Done) →
    Checks went asked out0 out (Ok done) → Checks went asked out0 out (Err (Tool fault.Write))
check_unsettled went asked out0 out done does = record {
  input = does.input;
  text = does.text;
  printed = does.printed;
  packed = does.packed;
  report = does.report;
  prints = does.prints;
  ends = inl (record {
    verdict = does.ends.0;
    rest = [];
    checked = does.ends.2.0;
    line = rw append-nil (sym does.ends.2.1);
  });
}

archive_unstored : (before after : List Step → Type 0) (asked : Archiving) (out0 out : Device) (done : Done)
    → WalksArchive before after asked out0 out (Ok done) → WalksArchive before after asked out0 out (Err (Tool fault.Write))
archive_unstored before after asked out0 out done does =
    let read = does.ends.walk.read in
    let tree = does.ends.walk.walk in
    let P : List ℕ → Type 0 = λ text. IsWalk (IsEntry read) (IsEntryLine read) (summary read) text tree.entries in
    record {
      printed = tree.printed;
      prints = tree.prints;
      ends = inl (record {
        read = read;
        is = does.ends.walk.is;
        walk = record { entries = tree.entries; rest = []; walk = subst P (sym (append-nil tree.printed)) tree.text };
      });
      keeps = does.keeps;
    }

trial_unstored : (before after : List Step → Type 0) (asked : Trying) (out0 out : Device) (done : Done)
    → TriesArchive before after asked out0 out (Ok done) → TriesArchive before after asked out0 out (Err (Tool fault.Write))
trial_unstored before after asked out0 out done does =
    let tree = does.ends.walk in
    let P : List ℕ → Type 0 = λ text.
    IsWalk (IsTrialEntry asked.days) (IsTrialLine asked.days) (summary_by asked.days false) text tree.entries in
    record {
      printed = tree.printed;
      prints = tree.prints;
      ends = inl (record { entries = tree.entries; rest = []; walk = subst P (sym (append-nil tree.printed)) tree.text });
      reads = does.reads;
    }

verify_unstored : (before after : List Step → Type 0) (asked : Verifying) (out0 out : Device) (done : Done)
    → VerifiesArchive before after asked out0 out (Ok done) → VerifiesArchive before after asked out0 out (Err (Tool fault.Write))
verify_unstored before after asked out0 out done does =
    let read = does.ends.walk.read in
    let tree = does.ends.walk.walk in
    let P : List ℕ → Type 0 = λ text.
    IsWalk (IsJudgedEntry read) (IsToldLine read) (judged_summary read) text (tree.entries ++ tree.orphans) in
    record {
      printed = tree.printed;
      prints = tree.prints;
      ends = inl (record {
        read = read;
        is = does.ends.walk.is;
        walk = record {
          entries = tree.entries ++ tree.orphans;
          rest = [];
          walk = subst P (sym (append-nil tree.printed)) tree.text;
        };
      });
      reads = does.reads;
    }

replace_unstored : (before after : List Step → Type 0) (asked : Replacing) (out0 out : Device) (done : Done)
    → ReplacesArchive before after asked out0 out (Ok done) → ReplacesArchive before after asked out0 out (Err (Tool fault.Write))
replace_unstored before after asked out0 out done does = elim does.ends [
  | inl fails ↦ absurd fails
  | inr ends ↦
      let tree = ends.walk in
      let P : List ℕ → Type 0 = λ text.
      IsWalk IsExchangeEntry IsExchangeEntryLine (exchange_summary asked.undo) text (entries_of tree.said) in
      record {
        printed = tree.printed;
        prints = tree.prints;
        ends = inr (inl (record {
          fault = device_fault.Failed;
          is = refl;
          walk = record { entries = entries_of tree.said; rest = []; walk = subst P (sym (append-nil tree.printed)) tree.text };
        }));
        changes = does.changes;
      }
]

pub task_unsettled : (before after : List Step → Type 0) (task : Task) (standard out0 out : Device) (done : Done) →
    Does before after task standard out0 out (Ok done) → Does before after task standard out0 out (Err (Tool fault.Write))
task_unsettled before after (Repack asked) standard out0 out done does =
    over_said ⊤ _ _ _ out0 out (repack_unstored asked.options (GetsOutput before after asked.output) done) does
task_unsettled before after (Listing asked) standard out0 out done does =
    over_said ⊤ _ _ _ out0 out (list_unstored asked.form asked.options done) does
task_unsettled before after (Check asked) standard out0 out done does = check_unsettled before asked out0 out done does
task_unsettled before after (Compare asked) standard out0 out done does =
    compare_unsettled before asked.options asked standard out0 out done does
task_unsettled before after (Archive asked) standard out0 out done does = archive_unstored before after asked out0 out done does
task_unsettled before after (Trial asked) standard out0 out done does = trial_unstored before after asked out0 out done does
task_unsettled before after (Verify asked) standard out0 out done does = verify_unstored before after asked out0 out done does
task_unsettled before after (Replace asked) standard out0 out done does = replace_unstored before after asked out0 out done does
task_unsettled before after (Feed asked) standard out0 out done does =
    over_said ⊤ _ _ _ out0 out (fed_unstored before after asked done) does
