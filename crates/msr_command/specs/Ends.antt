-- How a task ends: what was read and printed, for what the files of the system hold.
use Rattle.std.specs.Prelude.{if◌then◌else◌, ◌≡◌, ◌≢◌, ◌⊎◌, ◌↔◌, ◌<◌, ◌≤◌, ◌&&◌, not, ℕ, ⊤, Bool, false, true, IsTrue, List, [], ◌==◌, codes, length, map, slice_get, string_bytes, vec_len, IsSomeAnd, Option, None, Result, Ok, Err, Some, String}
use Rattle.std.specs.Borrow.{Bor}
use Rattle.std.specs.declared.io.Error.{Error}
use Rattle.msr_devices.specs.Device.{Device, CountsError, HasFailed, HasLeft, Takes}
use Rattle.msr_base.specs.declared.counts.Counts.{Counts}
use Rattle.msr_report.specs.declared.report.Report.{Report}
use Rattle.msr_options.specs.Choice.{Choice}
use Rattle.msr_options.specs.Known.{knows_any}
use Rattle.msr_options.specs.declared.known.Known.{Known}
use Rattle.msr_options.specs.declared.known.Known.TheVariants.{File}
use Rattle.msr_options.specs.declared.task.Archiving.{Archiving}
use Rattle.msr_options.specs.declared.task.Replacing.{Replacing}
use Rattle.msr_options.specs.declared.task.Trying.{Trying}
use Rattle.msr_options.specs.declared.task.Verifying.{Verifying}
use Rattle.msr_tool.specs.Settings.{settings_of}
use Rattle.msr_tool.specs.Fault.{fault_of_writing}
use Rattle.msr_tool.specs.Listing.{IsListed, ListAnswers}
use Rattle.msr_tool.specs.Tasks.{IsReported, ReportAnswers, VerdictAnswers}
use Rattle.msr_verdict.specs.declared.verdict.Verdict.TheVariants.{NotShown}
use Rattle.msr_tool.specs.declared.fault.ToolFault.{ToolFault}
use Rattle.msr_folders.specs.declared.found.WalkFound.{WalkFound}
use Rattle.msr_folders.specs.declared.found.WalkFound.TheVariants.{Well, Unwell, NoDay}
use Rattle.msr_walk.specs.Kills.{KeepsReports}
use Rattle.msr_walk.specs.Losses.{KeepsDays}
use Rattle.msr_walk.specs.Told.{StaysWithin, WalksTree}
use Rattle.msr_walk.specs.Walk.{WalkEnds}
use Rattle.msr_walk.specs.declared.folders.Walked.{Walked as ArchiveWalked}
use Rattle.msr_trial.specs.Walk.{TrialEnds, TriesTree}
use Rattle.msr_trial.specs.declared.walk.Tried.{Tried}
use Rattle.msr_verify.specs.Walk.{VerifiesTree, VerifyingEnds}
use Rattle.msr_replace.specs.Tree.{ChangesAsked, ReplacesTree}
use Rattle.msr_replace.specs.Walk.{ReplacingEnds}
use Rattle.msr_devices.specs.declared.fault.DeviceFault.{DeviceFault}
use Rattle.msr_tool.specs.declared.fault.ToolFault.TheVariants as engine
use Rattle.msr_compare.specs.declared.comparison.Comparison.TheVariants.{Differ}
use Rattle.msr_command.specs.declared.done.Done.{Done}
use Rattle.msr_command.specs.declared.done.Done.TheVariants.{Written, Repacked, Checked, Compared, Walked}
use Rattle.msr_command.specs.declared.task_fault.TaskFault.{TaskFault}
use Rattle.msr_command.specs.declared.task_fault.TaskFault.TheVariants.{CannotOpen, Failed, Input, SameFile, SameOutput, Overlap, Closed, Tool}
use Rattle.msr_options.specs.declared.task.Comparing.{Comparing}
use Rattle.msr_tree.specs.Calls.{Goes}
use Rattle.msr_tree.specs.Reads.{OnlyReads}
use Rattle.msr_tree.specs.Steps.{Path, Step}
use Rattle.msr_options.specs.declared.task.Checking.{Checking}
use Rattle.msr_options.specs.declared.task.Feeding.{Feeding}
use Rattle.msr_options.specs.declared.task.Repacking.{Repacking}
use Rattle.msr_command.specs.Named.{Comes, GetsNoReport, GetsOutput, GetsReport, LeadsTo}
use Rattle.msr_command.specs.Comparing.{IsAnswered, IsAtFault, StopsComparison}
use Rattle.msr_command.specs.Turns.{AreTurns}
use Rattle.msr_options.specs.declared.hint.Unopened.{Unopened}
use Rattle.msr_options.specs.declared.task.ListForm.{ListForm}
use Rattle.msr_options.specs.declared.task.NoTask.{NoTask}
use Rattle.msr_options.specs.declared.task.NoTask.TheVariants.{Ending, NotALength, Memory}
use Rattle.msr_options.specs.declared.task.Task.{Task}
use Rattle.msr_options.specs.declared.task.Task.TheVariants.{Repack, List as Listing, Check, Compare, Archive, Trial, Verify, Replace, Feed}
use Rattle.msr_options.specs.Asked.{HasStatus}
use Rattle.msr_options.specs.Tasks.{IsDefault, verb_of, word_of}

-- 0 for what was written, is least or is the same, 3 for what is not shown or differs, 1 for a walk on which an entry was
-- refused, or not verified, or which had none to verify
abbrev pub status_of_done : Done → ℕ
status_of_done (Checked NotShown) = 3
status_of_done (Compared (Differ difference)) = 3
status_of_done (Walked refused no_day unopened) = if refused then 1 else 0
status_of_done _ = 0

-- 2 if the output is the input, two outputs are one file, or folders overlap, which is a wrong command line, and else 1
abbrev pub status_of_task_fault : TaskFault → ℕ
status_of_task_fault SameFile = 2
status_of_task_fault SameOutput = 2
status_of_task_fault Overlap = 2
status_of_task_fault _ = 1

abbrev pub status_of : Result Done TaskFault → ℕ
status_of (Ok done) = status_of_done done
status_of (Err stop) = status_of_task_fault stop

-- an input could not be opened, or is the output
abbrev pub IsUnread : TaskFault → Type 0
IsUnread (CannotOpen name why) = ⊤
IsUnread SameFile = ⊤
IsUnread _ = ⊥

-- a file could not be made, or is the input or another output
abbrev pub IsUncreated : TaskFault → Type 0
IsUncreated stop = IsUnread stop ⊎ (stop ≡ SameOutput)

-- folders overlap, or memory was refused
abbrev pub IsOverlapOrMemory : TaskFault → Type 0
IsOverlapOrMemory stop = (stop ≡ Overlap) ⊎ (stop ≡ Tool engine.Memory)

-- the file with the lines that are known was not read: it could not be opened, or standard output goes to it, or a read failed
abbrev pub IsUnknown : TaskFault → Type 0
IsUnknown (Input name engine.Read) = ⊤
IsUnknown stop = IsUnread stop

-- folders overlap, memory was refused before the walk began, or lines that are to be known were not read
abbrev pub IsUnwalked : Known → TaskFault → Type 0
IsUnwalked (File name) stop = IsOverlapOrMemory stop ⊎ IsUnknown stop
IsUnwalked known stop = IsOverlapOrMemory stop

-- what a walk knows of what is asked for: of a file the lines that were read
abbrev pub IsKnownRead : (asked read : Known) → Type 0
IsKnownRead (File name) read = knows_any read ≡ true
IsKnownRead asked read = read ≡ asked

-- a task was done with something of which this is said: a repack, a verdict or an answer
abbrev pub IsDoneBy : {A : Type 0} → (A → Done) → (A → Type 0) → Done → Type 0
IsDoneBy of says done = (it : _) × (done ≡ of it) × says it

-- what it says that the engine stopped a task
abbrev pub IfTool : (ToolFault → Type 0) → TaskFault → Type 0
IfTool says (Tool fault) = says fault
IfTool says _ = ⊥

-- How a task ends: it is done, or the engine stops, with what that says; or nothing is printed, since a file stops it
-- that may do so, or standard output is closed.
abbrev pub Ends : (done : Done → Type 0) → (file : TaskFault → Type 0) → (stopped : ToolFault → Type 0) →
    (printed : List ℕ) → Result Done TaskFault → Type 0
Ends done file stopped printed (Ok what) = done what
Ends done file stopped printed (Err stop) =
    IfTool stopped stop ⊎ ((file stop ⊎ (stop ≡ Closed)) × (printed ≡ []))

-- no file stopped a task, and no closed standard output, before anything was read
abbrev pub HasOpened : Result Done TaskFault → Type 0
HasOpened (Err (CannotOpen name why)) = ⊥
HasOpened (Err SameFile) = ⊥
HasOpened (Err SameOutput) = ⊥
HasOpened (Err Closed) = ⊥
HasOpened _ = ⊤

-- What a task over one input read and printed, and what these say. Where the input comes from is known if it was opened.
pub record Over (opened : Type 0) (comes : List ℕ → Type 0) (says : (input printed : List ℕ) → Type 0) (out0 out : Device) :
    Type 0 where
  pub input : List ℕ
  pub printed : List ℕ
  pub come : opened → comes input
  pub prints : Takes out0 out printed
  pub ends : says input printed

-- The input was repacked into these records, which some place holds, and what was printed is the text of its report. It is
-- told whether channels seem to alternate.
pub record WritesReport (choice : Choice) (holds : List ℕ → Type 0) (input printed : List ℕ) (in_turns : Bool) : Type 0 where
  pub written : List ℕ
  pub output : holds written
  pub report : Report
  pub reported : IsReported choice input written printed report
  pub turns : IsTrue in_turns ↔ AreTurns report

-- The engine stopped at this fault, after these records.
pub record StopsReport (choice : Choice) (holds : List ℕ → Type 0) (input printed : List ℕ) (fault : ToolFault) : Type 0 where
  pub written : List ℕ
  pub output : holds written
  pub answers : ReportAnswers choice input written printed (Err fault)

abbrev pub RepackEnds : Choice → (holds : List ℕ → Type 0) → Result Done TaskFault → (input printed : List ℕ) → Type 0
RepackEnds choice holds result input printed =
    Ends (IsDoneBy Repacked (WritesReport choice holds input printed)) IsUncreated (StopsReport choice holds input printed)
    printed result

-- Repacking a source.
abbrev pub Repacks : Choice → (holds : List ℕ → Type 0) → (source out0 out : Device) → Result Done TaskFault → Type 0
Repacks choice holds source out0 out result = Over ⊤ (HasLeft source) (RepackEnds choice holds result) out0 out

-- what was written is stored if a task was done, and else it failed
abbrev pub Settles : (done result : Result Done TaskFault) → Type 0
Settles (Ok done) result = (result ≡ Ok done) ⊎ (result ≡ Err (Tool engine.Write))
Settles (Err stop) result = result ≡ Err stop

-- the input with a name, which is standard input for `-`
abbrev pub ComesNamed : (went : List Step → Type 0) → (name : Path) → (standard : Device) → (input : List ℕ) → Type 0
ComesNamed went name standard input = Comes (name ≡ codes "-") went name standard input

-- Repacking the file of a name, which is standard input for `-`, to that of another, or to nowhere.
abbrev pub RepacksNamed : (before after : List Step → Type 0) → Repacking → (standard out0 out : Device)
    → Result Done TaskFault → Type 0
RepacksNamed before after asked standard out0 out result =
    Over (HasOpened result) (ComesNamed before asked.input.now standard)
    (RepackEnds asked.options (GetsOutput before after asked.output) result) out0 out

-- The input was listed with these counts.
pub record WritesList (form : ListForm) (choice : Choice) (input printed : List ℕ) : Type 0 where
  pub counts : Counts
  pub listed : IsListed form (settings_of choice) input printed counts

abbrev pub ListEnds : ListForm → Choice → Result Done TaskFault → (input printed : List ℕ) → Type 0
ListEnds form choice result input printed =
    Ends (λ done. (done ≡ Written) × WritesList form choice input printed) IsUnread
    (λ fault. ListAnswers form (settings_of choice) input printed (Err fault)) printed result

-- Listing a source.
abbrev pub Lists : ListForm → Choice → (source out0 out : Device) → Result Done TaskFault → Type 0
Lists form choice source out0 out result = Over ⊤ (HasLeft source) (ListEnds form choice result) out0 out

-- Listing the file of a name.
abbrev pub ListsNamed : ListForm → Choice → (went : List Step → Type 0) → (name : Path) → (standard out0 out : Device)
    → Result Done TaskFault → Type 0
ListsNamed form choice went name standard out0 out result =
    Over (HasOpened result) (ComesNamed went name standard) (ListEnds form choice result) out0 out

-- The input was repacked into what was printed, and this is the text of its report.
pub record WritesRecords (choice : Choice) (holds : List ℕ → Type 0) (input printed : List ℕ) : Type 0 where
  pub told : List ℕ
  pub output : holds told
  pub report : Report
  pub reported : IsReported choice input printed told report

-- The engine stopped at this fault, or what it wrote was not stored, after this part of the report.
pub record StopsRecords (choice : Choice) (holds : List ℕ → Type 0) (input printed : List ℕ) (fault : ToolFault) : Type 0 where
  pub told : List ℕ
  pub output : holds told
  pub answers : ReportAnswers choice input printed told (Err fault)

abbrev pub FeedAnswers : Choice → (holds left : List ℕ → Type 0) → Result (Unit {0}) ToolFault → (input printed : List ℕ)
    → Type 0
FeedAnswers choice holds left (Ok fed) input printed = WritesRecords choice holds input printed
FeedAnswers choice holds left (Err fault) input printed = StopsRecords choice left input printed fault

-- Repacking a source to standard output, and its report to some place.
abbrev pub FeedsTo : Choice → (holds : List ℕ → Type 0) → (source out0 out : Device) → Result (Unit {0}) ToolFault → Type 0
FeedsTo choice holds source out0 out result =
    Over ⊤ (HasLeft source) (FeedAnswers choice holds holds result) out0 out

-- The report is held, or else something of it is left.
abbrev pub FeedEnds : Choice → (holds left : List ℕ → Type 0) → Result Done TaskFault → (input printed : List ℕ) → Type 0
FeedEnds choice holds left result input printed =
    Ends (λ done. (done ≡ Written) × WritesRecords choice holds input printed) IsUncreated
    (StopsRecords choice left input printed) printed result

-- Repacking standard input to standard output, and its report to the file of a name.
abbrev pub Feeds : (before after : List Step → Type 0) → Feeding → (standard out0 out : Device) → Result Done TaskFault
    → Type 0
Feeds before after asked standard out0 out result =
    Over ⊤ (HasLeft standard) (FeedEnds asked.options (GetsReport before after asked.report.now)
    (GetsNoReport before after asked.report.now) result) out0 out

abbrev pub CheckEnds : (input text printed : List ℕ) → Result Done TaskFault → Type 0
CheckEnds input text printed result =
    Ends (IsDoneBy Checked (λ verdict. VerdictAnswers input text printed (Ok verdict))) IsUnread
    (λ fault. VerdictAnswers input text printed (Err fault)) printed result

-- Checking the records that one name leads to with the report that the other does, and what was printed.
pub record Checks (went : List Step → Type 0) (asked : Checking) (out0 out : Device) (result : Result Done TaskFault) : Type 0
  where
    pub input : List ℕ
    pub text : List ℕ
    pub printed : List ℕ
    pub packed : HasOpened result → LeadsTo went asked.packed.now input
    pub report : HasOpened result → LeadsTo went asked.report.now text
    pub prints : Takes out0 out printed
    pub ends : CheckEnds input text printed result

-- What a task over two inputs read and printed, and what these say. Where each comes from is known if both were opened.
pub record OverTwo (opened : Type 0) (comes_one comes_other : List ℕ → Type 0)
    (says : (first second printed : List ℕ) → Type 0) (out0 out : Device) : Type 0 where
  pub first : List ℕ
  pub second : List ℕ
  pub printed : List ℕ
  pub come_one : opened → comes_one first
  pub come_other : opened → comes_other second
  pub prints : Takes out0 out printed
  pub ends : says first second printed

abbrev pub CompareEnds : Choice → Comparing → Result Done TaskFault → (first second printed : List ℕ) → Type 0
CompareEnds choice asked result first second printed =
    Ends (IsDoneBy Compared (IsAnswered choice first second printed))
    (λ stop. IsUnread stop ⊎ IsAtFault choice asked first second stop) (StopsComparison choice first second printed)
    printed result

-- Comparing two sources.
abbrev pub Compares : Choice → Comparing → (one other out0 out : Device) → Result Done TaskFault → Type 0
Compares choice asked one other out0 out result =
    OverTwo ⊤ (HasLeft one) (HasLeft other) (CompareEnds choice asked result) out0 out

-- the first name is that of standard input
abbrev pub IsOneStandard : Comparing → Type 0
IsOneStandard asked = asked.one.now ≡ codes "-"

-- the other one is; a command line has not both
abbrev pub IsOtherStandard : Comparing → Type 0
IsOtherStandard asked = ¬ (IsOneStandard asked) × (asked.other.now ≡ codes "-")

-- Comparing a source with the file of the other name, which may be standard input.
abbrev pub ComparesWith : (went : List Step → Type 0) → Choice → Comparing → (one standard out0 out : Device)
    → Result Done TaskFault → Type 0
ComparesWith went choice asked one standard out0 out result =
    OverTwo (HasOpened result) (HasLeft one) (ComesNamed went asked.other.now standard) (CompareEnds choice asked result)
    out0 out

-- Comparing the files of two names, of which one may be standard input.
abbrev pub ComparesNamed : (went : List Step → Type 0) → Choice → Comparing → (standard out0 out : Device)
    → Result Done TaskFault → Type 0
ComparesNamed went choice asked standard out0 out result =
    OverTwo (HasOpened result) (Comes (IsOneStandard asked) went asked.one.now standard)
    (Comes (IsOtherStandard asked) went asked.other.now standard) (CompareEnds choice asked result) out0 out

-- what a walk through an archive ends with, or through a part of it, and whether the whole has to have a day
abbrev pub done_of_walk : Option Unopened → (is_whole wants_day : Bool) → WalkFound → Done
done_of_walk unopened is_whole wants_day Well = Walked false false unopened
done_of_walk unopened is_whole wants_day Unwell = Walked true false unopened
done_of_walk unopened is_whole wants_day NoDay = Walked (wants_day && is_whole) is_whole unopened

-- what repacking an archive ends with, a dry run of that, and verifying it
abbrev pub done_of_archive : (is_whole : Bool) → ArchiveWalked → Done
done_of_archive is_whole walked = done_of_walk walked.unopened is_whole false walked.found

abbrev pub done_of_trial : (is_whole : Bool) → Tried → Done
done_of_trial is_whole tried = done_of_walk tried.unopened is_whole false tried.found

abbrev pub done_of_verifying : (is_whole : Bool) → WalkFound → Done
done_of_verifying is_whole found = done_of_walk None is_whole true found

-- A walk ended so.
pub record IsEndOf {W : Type 0} (done_of : W → Done) (ends : W → Type 0) (done : Done) : Type 0 where
  pub found : W
  pub walk : ends found
  pub is : done ≡ done_of found

-- the whole archive is walked if no folder of it is asked for
abbrev pub is_whole : (folders : ℕ) → Bool
is_whole folders = folders == 0

-- A walk with what is known: what is asked for, or the lines of the file that was read.
pub record IsArchivingRead (asked read : Archiving) : Type 0 where
  pub folders : read.folders ≡ asked.folders
  pub below : read.below.items ≡ asked.below.items
  pub days : read.days ≡ asked.days
  pub known : IsKnownRead asked.known read.known

-- What is said of that walk.
pub record OfArchiving (asked : Archiving) (says : Archiving → Type 0) : Type 0 where
  pub read : Archiving
  pub is : IsArchivingRead asked read
  pub walk : says read

-- a walk to its end printed its whole text, and what it tells is so of what the names led to
abbrev pub ArchiveEnds : (before after : List Step → Type 0) → Archiving → (out0 out : Device) → (printed : List ℕ)
    → Result Done TaskFault → Type 0
ArchiveEnds before after asked out0 out printed result =
    Ends (IsEndOf (done_of_archive (is_whole (vec_len asked.below))) (λ walked. OfArchiving asked (λ read. WalksTree read before after out0 out walked)))
    (IsUnwalked asked.known) (λ fault. OfArchiving asked (λ read. WalkEnds read printed (Err fault))) printed result

-- At each moment an archive is as it was, and its days have their own, also after a kill, or if no call failed a loss of power.
pub record KeepsArchive (before after : List Step → Type 0) (asked : Archiving) : Type 0 where
  pub root : Goes before after (StaysWithin asked.folders.root.now)
  pub killed : Goes before after (KeepsReports asked)
  pub safe : Goes before after (KeepsDays false asked)

-- Walking an archive, and what was printed.
pub record WalksArchive (before after : List Step → Type 0) (asked : Archiving) (out0 out : Device) (result : Result Done TaskFault) : Type 0
  where
    pub printed : List ℕ
    pub prints : Takes out0 out printed
    pub ends : ArchiveEnds before after asked out0 out printed result
    pub keeps : KeepsArchive before after asked

abbrev pub TryingEnds : (before after : List Step → Type 0) → Trying → (out0 out : Device) → (printed : List ℕ)
    → Result Done TaskFault → Type 0
TryingEnds before after asked out0 out printed result =
    Ends (IsEndOf (done_of_trial (is_whole (vec_len asked.below))) (λ tried. TriesTree asked before after out0 out tried))
    (λ stop. ⊥) (λ fault. TrialEnds asked.days printed (Err fault)) printed result

-- A dry run of walking an archive, which changes nothing, and what was printed.
pub record TriesArchive (before after : List Step → Type 0) (asked : Trying) (out0 out : Device) (result : Result Done TaskFault) : Type 0
  where
    pub printed : List ℕ
    pub prints : Takes out0 out printed
    pub ends : TryingEnds before after asked out0 out printed result
    pub reads : Goes before after OnlyReads

-- the same with the answer of the walk
abbrev pub WalksKnown : (before after : List Step → Type 0) → Archiving → (out0 out : Device) → Result ArchiveWalked TaskFault → Type 0
WalksKnown before after asked out0 out (Ok walked) =
    WalksArchive before after asked out0 out (Ok (done_of_archive (is_whole (vec_len asked.below)) walked))
WalksKnown before after asked out0 out (Err stop) = WalksArchive before after asked out0 out (Err stop)

pub record IsVerifyingRead (asked read : Verifying) : Type 0 where
  pub folders : read.folders ≡ asked.folders
  pub below : read.below.items ≡ asked.below.items
  pub names : read.names ≡ asked.names
  pub telling : read.telling ≡ asked.telling
  pub known : IsKnownRead asked.known read.known

pub record OfVerifying (asked : Verifying) (says : Verifying → Type 0) : Type 0 where
  pub read : Verifying
  pub is : IsVerifyingRead asked read
  pub walk : says read

abbrev pub VerifyEnds : (before after : List Step → Type 0) → Verifying → (out0 out : Device) → (printed : List ℕ)
    → Result Done TaskFault → Type 0
VerifyEnds before after asked out0 out printed result =
    Ends (IsEndOf (done_of_verifying (is_whole (vec_len asked.below))) (λ found. OfVerifying asked (λ read. VerifiesTree read before after out0 out found)))
    (IsUnwalked asked.known) (λ fault. OfVerifying asked (λ read. VerifyingEnds read printed (Err fault))) printed result

-- Verifying the repack of an archive, which changes nothing, and what was printed.
pub record VerifiesArchive (before after : List Step → Type 0) (asked : Verifying) (out0 out : Device) (result : Result Done TaskFault) : Type 0
  where
    pub printed : List ℕ
    pub prints : Takes out0 out printed
    pub ends : VerifyEnds before after asked out0 out printed result
    pub reads : Goes before after OnlyReads

abbrev pub VerifiesKnown : (before after : List Step → Type 0) → Verifying → (out0 out : Device) → Result WalkFound TaskFault → Type 0
VerifiesKnown before after asked out0 out (Ok found) =
    VerifiesArchive before after asked out0 out (Ok (done_of_verifying (is_whole (vec_len asked.below)) found))
VerifiesKnown before after asked out0 out (Err stop) = VerifiesArchive before after asked out0 out (Err stop)

-- the whole archive has to have a day, unless its originals are put back
abbrev pub wants_replaced : Replacing → Bool
wants_replaced asked = is_whole (vec_len asked.below) && not asked.undo

-- what replacing the days of an archive ends with
abbrev pub done_of_replaced : Replacing → WalkFound → Done
done_of_replaced asked found = done_of_walk None (wants_replaced asked) true found

-- a walk that found this, or was stopped so, ends the task, with the path at which a call of the file system failed, if one did
abbrev pub EndsReplacing : {Z : Type 0} → Replacing → (failed : Option (String Z)) → Result WalkFound DeviceFault → Result Done TaskFault → Type 0
EndsReplacing asked None (Ok found) (Ok done) = done ≡ done_of_replaced asked found
EndsReplacing asked (Some at) (Ok found) (Err (Failed path why)) = string_bytes at ≡ string_bytes path
EndsReplacing asked failed (Err fault) (Err (Tool why)) = why ≡ fault_of_writing fault
EndsReplacing asked failed ended _ = ⊥

-- The walk was stopped so, after a prefix of its text.
pub record StopsReplacing (undo : Bool) (printed : List ℕ) (why : ToolFault) : Type 0 where
  pub fault : DeviceFault
  pub is : why ≡ fault_of_writing fault
  pub walk : ReplacingEnds undo printed (Err fault)

-- no call of the file system failed
abbrev pub HasReplaced : Replacing → (before after : List Step → Type 0) → (out0 out : Device) → WalkFound → Type 0
HasReplaced asked before after out0 out found = ReplacesTree {Z = Unit {0}} asked before after out0 out None found

-- a call of the file system failed, and the whole text of the walk tells of something that is to be looked at, last of what
-- has this path
abbrev pub FailsReplacing : (before after : List Step → Type 0) → Replacing → (out0 out : Device) → Result Done TaskFault → Type 0
FailsReplacing before after asked out0 out (Err (Failed path why)) = ReplacesTree asked before after out0 out (Some path) Unwell
FailsReplacing before after asked out0 out _ = ⊥

-- folders overlap, memory was refused before the walk began, or one is no folder
abbrev pub IsUnbegun : TaskFault → Type 0
IsUnbegun stop = IsOverlapOrMemory stop ⊎ IsUnread stop

abbrev pub ReplaceEnds : (before after : List Step → Type 0) → Replacing → (out0 out : Device) → (printed : List ℕ)
    → Result Done TaskFault → Type 0
ReplaceEnds before after asked out0 out printed result = FailsReplacing before after asked out0 out result ⊎
    Ends (IsEndOf (done_of_replaced asked) (HasReplaced asked before after out0 out))
    IsUnbegun (StopsReplacing asked.undo printed) printed result

-- nothing was done, or days were replaced or restored as asked, and nothing else
abbrev pub MayChange : Replacing → (old new : List Step) → Type 0
MayChange asked old new = (new ≡ old) ⊎ ChangesAsked asked old new

-- Replacing the days of an archive, or undoing it, and what was printed.
pub record ReplacesArchive (before after : List Step → Type 0) (asked : Replacing) (out0 out : Device) (result : Result Done TaskFault) : Type 0
  where
    pub printed : List ℕ
    pub prints : Takes out0 out printed
    pub ends : ReplaceEnds before after asked out0 out printed result
    pub changes : Goes before after (MayChange asked)

-- A call was made, and it failed or was interrupted.
pub record WasRefused (old new : Device) : Type 0 where
  pub error : Error
  pub counts : CountsError old new error

-- Standard output was tried, and nothing was printed: it is open, and counts as before; or it is closed, as a call
-- told.
abbrev pub OpensOutput : (out0 out : Device) → Result (Unit {0}) TaskFault → Type 0
OpensOutput out0 out (Ok open_now) = Takes out0 out [] × (out.failures ≡ out0.failures) × (out.interruptions ≡ 0)
OpensOutput out0 out (Err stop) = Takes out0 out [] × (stop ≡ Closed) × WasRefused out0 out

-- a task ends so if nothing can be printed: the report of a feed is made even then, which may fail, and nothing else is changed
abbrev pub EndsClosed : (before after : List Step → Type 0) → Task → TaskFault → Type 0
EndsClosed before after (Feed asked) stop = IsUncreated stop ⊎ (stop ≡ Closed)
EndsClosed before after _ stop = (stop ≡ Closed) × Goes before after (λ old new. new ≡ old)

-- what doing a task reads, writes and prints, and how it ends
abbrev pub Does : (before after : List Step → Type 0) → Task → (standard out0 out : Device) → Result Done TaskFault → Type 0
Does before after (Repack asked) standard out0 out result = RepacksNamed before after asked standard out0 out result
Does before after (Listing asked) standard out0 out result =
    ListsNamed asked.form asked.options before asked.input.now standard out0 out result
Does before after (Check asked) standard out0 out result = Checks before asked out0 out result
Does before after (Compare asked) standard out0 out result =
    ComparesNamed before asked.options asked standard out0 out result
Does before after (Archive asked) standard out0 out result = WalksArchive before after asked out0 out result
Does before after (Trial asked) standard out0 out result = TriesArchive before after asked out0 out result
Does before after (Verify asked) standard out0 out result = VerifiesArchive before after asked out0 out result
Does before after (Replace asked) standard out0 out result = ReplacesArchive before after asked out0 out result
Does before after (Feed asked) standard out0 out result = Feeds before after asked standard out0 out result

-- A task was done, and ended with this status.
pub record EndsDone (before after : List Step → Type 0) (task : Task) (standard out0 out : Device) (status : ℕ) : Type 0 where
  pub outcome : Result Done TaskFault
  pub does : Does before after task standard out0 out outcome
  pub ended : status ≡ status_of outcome

-- A text was printed whole for status 0. Status 2 is for a text on standard error, and then nothing is printed; status
-- 1 if a text of status 0 was not printed, or there is no memory.
abbrev pub EndsText : NoTask → (out0 out : Device) → (status : ℕ) → Type 0
EndsText (Ending ending) out0 out status =
    ((status ≡ ending.status) × (status ≡ 0 → Takes out0 out (string_bytes ending.text)) × (status ≢ 0 → out ≡ out0)) ⊎
    ((status ≡ 1) × (ending.status ≡ 0) × HasFailed out0 out)
EndsText NotALength out0 out status = (status ≡ 2) × (out ≡ out0)
EndsText Memory out0 out status = (status ≡ 1) × (out ≡ out0)

-- what was asked for was done, or what there is in its place was told
abbrev pub EndsAsked : (before after : List Step → Type 0) → Result Task NoTask → (standard out0 out : Device) → (status : ℕ) → Type 0
EndsAsked before after (Ok task) standard out0 out status = EndsDone before after task standard out0 out status
EndsAsked before after (Err why) standard out0 out status = EndsText why out0 out status

-- The words ask for a task, with none for the default, else by the word of a command, and it ended with this status.
pub record EndsTask (before after : List Step → Type 0) (words : List (Bor (List ℕ))) (standard out0 out : Device) (status : ℕ) : Type 0 where
  pub task : Task
  pub outcome : Result Done TaskFault
  pub default : length words < 2 → IsDefault task
  pub command : 2 ≤ length words → IsSomeAnd (slice_get words 1) (λ word. word.now ≡ word_of (verb_of task))
  pub does : Does before after task standard out0 out outcome
  pub ended : status ≡ status_of outcome

-- The words ask for no task.
pub record EndsWithoutTask (words : List (Bor (List ℕ))) (out0 out : Device) (status : ℕ) : Type 0 where
  pub why : NoTask
  pub some : 2 ≤ length words
  pub has_status : HasStatus (map (λ word. word.now) words) why
  pub ends : EndsText why out0 out status
