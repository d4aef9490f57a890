-- What is said of a day file that was repacked, or refused, whatever files its bytes are of.
use Rattle.std.specs.Prelude.{◌≡◌, ◌⊎◌, ◌<◌, ◌*◌, ℕ, ⊤, false, IsTrue, List, Option, None, Some, Result, Ok, Err}
use Rattle.std.specs.List.{sum_by}
use Rattle.msr_devices.specs.Device.{Device, HasLeft, Takes}
use Rattle.msr_report_reader.specs.Reading.{IsReadFrom}
use Rattle.msr_report_reader.specs.declared.fault.ReportFault.{ReportFault}
use Rattle.msr_report_reader.specs.declared.fault.ReportFault.TheVariants as report_stop
use Rattle.msr_report.specs.Proper.{records_in}
use Rattle.msr_report.specs.declared.report.Report.{Report}
use Rattle.msr_report.specs.declared.report.SegmentLine.{SegmentLine}
use Rattle.msr_input.specs.declared.fault.ReadFault.TheVariants as read
use Rattle.msr_compare.specs.Answers.{HaveSameSegments}
use Rattle.msr_compare.specs.declared.comparison.Comparison.{Comparison}
use Rattle.msr_compare.specs.declared.comparison.Comparison.TheVariants.{Same, Differ}
use Rattle.msr_compare.specs.declared.fault.CompareFault.{CompareFault}
use Rattle.msr_compare.specs.declared.fault.CompareFault.TheVariants.{One, Other}
use Rattle.msr_tool.specs.Settings.{settings_of}
use Rattle.msr_options.specs.Choice.{Choice, as_strict, record_size}
use Rattle.msr_options.specs.declared.days.DayOptions.{DayOptions}
use Rattle.msr_options.specs.declared.names.DayName.{DayName}
use Rattle.msr_folders.specs.Belonging.{IsFoundAsAsked, told_segments}
use Rattle.msr_tool.specs.Tasks.{IsReported, ReportAnswers}
use Rattle.msr_tool.specs.declared.fault.ToolFault.{ToolFault}
use Rattle.msr_tool.specs.declared.fault.ToolFault.TheVariants.{Memory, Read}
use Rattle.msr_verdict.specs.Packed.{ShowsLeast}
use Rattle.msr_base.specs.Lengths.{bytes_of}
use Rattle.msr_folders.specs.Totals.{saturated}
use Rattle.msr_making.specs.declared.answer.DayOutcome.{DayOutcome}
use Rattle.msr_making.specs.declared.answer.DayOutcome.TheVariants as outcomes
use Rattle.msr_making.specs.declared.answer.DayFault.{DayFault}
use Rattle.msr_making.specs.declared.answer.DayFault.TheVariants.{CannotOpen, Changed, NotShown, Differs, Larger, Misplaced, Shrunk, ClaimedByAnother, Tool}
use Rattle.msr_making.specs.declared.answer.Repacked.{Repacked}
use Rattle.msr_making.specs.declared.answer.Shrinkage.{Shrinkage}

-- the bytes that were written are those of the records that were, or the greatest number of 64 bits if they are more
abbrev pub HasBytesWritten : Choice → Repacked → Type 0
HasBytesWritten choice repacked = repacked.bytes_written ≡ saturated (repacked.written * record_size choice)

-- how many samples the segments of these lines have
abbrev pub samples_of_lines : List SegmentLine → ℕ
samples_of_lines lines = sum_by (λ line. line.samples) lines

-- The input was repacked, what was told is the text of its report, and the counts are those of this report: the
-- records that were read, and those that were written, and their bytes, and the samples. How many bytes were read is what
-- the source counted.
pub record IsCounted (choice : Choice) (input records told : List ℕ) (repacked : Repacked) : Type 0 where
  pub report : Report
  pub reported : IsReported choice input records told report
  pub read : repacked.read ≡ report.counts.read
  pub written : repacked.written ≡ records_in report.segments.items
  pub bytes : HasBytesWritten choice repacked
  pub samples : repacked.samples ≡ saturated (samples_of_lines report.segments.items)

-- what an answer says of the input, of the records that were written, and of the text of the report
abbrev pub CountAnswers : Choice → (input written told : List ℕ) → Result Repacked ToolFault → Type 0
CountAnswers choice input written told (Ok repacked) = IsCounted choice input written told repacked
CountAnswers choice input written told (Err fault) = ReportAnswers choice input written told (Err fault)

-- The input was repacked with these counts, and its segments belong to the day if that is asked for.
pub record IsPlaced (asked : DayOptions) (input records told : List ℕ) (repacked : Repacked) : Type 0 where
  pub counted : IsCounted asked.options input records told repacked
  pub belong : IsFoundAsAsked asked.names (told_segments counted.report.segments.items) None

-- It was repacked, and it was asked for that its segments belong to the day: they do not, by the one of this name.
pub record IsMisplaced (asked : DayOptions) (input records told : List ℕ) (found : DayName) : Type 0 where
  pub report : Report
  pub reported : IsReported asked.options input records told report
  pub is : IsFoundAsAsked asked.names (told_segments report.segments.items) (Some found)

-- what an answer says of a day
abbrev pub PlacedAnswers : DayOptions → (input written told : List ℕ) → Result Repacked DayFault → Type 0
PlacedAnswers asked input written told (Ok repacked) = IsPlaced asked input written told repacked
PlacedAnswers asked input written told (Err (Misplaced found)) = IsMisplaced asked input written told found
PlacedAnswers asked input written told (Err (Tool fault)) = CountAnswers asked.options input written told (Err fault)
PlacedAnswers asked input written told (Err why) = ⊥

-- What repacking a day did with its devices, the source, the sink of the records and that of the report.
pub record RepacksDay (choice : Choice) (source records0 records text0 text : Device)
    (result : Result Repacked ToolFault) : Type 0 where
  pub input : List ℕ
  pub written : List ℕ
  pub told : List ℕ
  pub left : HasLeft source input
  pub wrote : Takes records0 records written
  pub told_all : Takes text0 text told
  pub answers : CountAnswers choice input written told result

-- The same of a day to which its segments have to belong, if that is asked for.
pub record RepacksPlaced (asked : DayOptions) (source records0 records text0 text : Device)
    (result : Result Repacked DayFault) : Type 0 where
  pub input : List ℕ
  pub written : List ℕ
  pub told : List ℕ
  pub left : HasLeft source input
  pub wrote : Takes records0 records written
  pub told_all : Takes text0 text told
  pub answers : PlacedAnswers asked input written told result

-- Some input, of which some records and some text were written, has this answer.
pub record HasAnswer (choice : Choice) (result : Result Repacked ToolFault) : Type 0 where
  pub input : List ℕ
  pub written : List ℕ
  pub told : List ℕ
  pub answers : CountAnswers choice input written told result

-- Some input was repacked, and its segments do not belong to the day, by the one of this name.
pub record WasMisplaced (asked : DayOptions) (found : DayName) : Type 0 where
  pub input : List ℕ
  pub written : List ℕ
  pub told : List ℕ
  pub is : IsMisplaced asked input written told found

-- The text is that of a report of this tolerance, which shows that the records are the fewest.
pub record ShowsWritten (choice : Choice) (records text : List ℕ) : Type 0 where
  pub report : Report
  pub read : IsReadFrom report text
  pub tolerance : report.tolerance ≡ choice.tolerance
  pub least : ShowsLeast report records

-- A day's file and its records have the same segments, read with the tolerance of these options, and never strictly.
abbrev pub HaveSameData : Choice → (file records : List ℕ) → Type 0
HaveSameData choice file records = HaveSameSegments (settings_of (as_strict false choice)) file records

-- The text shows the records to be the fewest, and the day's file has the same segments as these records.
pub record IsVerifiedBy (choice : Choice) (file records text : List ℕ) : Type 0 where
  pub shown : ShowsWritten choice records text
  pub same : HaveSameData choice file records

-- The text shows it, and the file has other segments, or cannot be read.
pub record IsOtherData (choice : Choice) (file records text : List ℕ) : Type 0 where
  pub shown : ShowsWritten choice records text
  pub differ : ¬ (HaveSameData choice file records)

-- reading one of the files failed, or memory was refused
abbrev pub IsReadOrMemory : ToolFault → Type 0
IsReadOrMemory fault = (fault ≡ Read) ⊎ (fault ≡ Memory)

-- What is told of a day if reading its report again stops so. It was just written, so if it is at fault, nothing is
-- shown.
abbrev pub told_of_report : ReportFault → DayFault
told_of_report (report_stop.Line line) = NotShown
told_of_report report_stop.Read = Tool Read
told_of_report report_stop.Memory = Tool Memory

-- What is told of a day whose records, by their report, and beside them its own file have this answer.
abbrev pub told_of : Result (Option Comparison) CompareFault → Result (Unit {0}) DayFault
told_of (Ok (Some (Same told))) = Ok tt
told_of (Ok (Some (Differ difference))) = Err Differs
told_of (Ok None) = Err NotShown
told_of (Err (One (read.Input found))) = Err NotShown
told_of (Err (Other (read.Input found))) = Err Differs
told_of (Err (One read.Read)) = Err (Tool Read)
told_of (Err (Other read.Read)) = Err (Tool Read)
told_of (Err (One read.Memory)) = Err (Tool Memory)
told_of (Err (Other read.Memory)) = Err (Tool Memory)

-- what that says of a day's file, its records and the text of its report
abbrev pub RepackAnswers : Choice → (file records text : List ℕ) → Result (Unit {0}) DayFault → Type 0
RepackAnswers choice file records text (Ok done) = IsVerifiedBy choice file records text
RepackAnswers choice file records text (Err NotShown) = ¬ (ShowsWritten choice records text)
RepackAnswers choice file records text (Err Differs) = IsOtherData choice file records text
RepackAnswers choice file records text (Err (Tool fault)) = IsReadOrMemory fault
RepackAnswers choice file records text (Err _) = ⊥

-- What verifying what was written of a day answers, for the bytes of its sources.
pub record VerifiesRepack (choice : Choice) (file records report : Device) (result : Result (Unit {0}) DayFault)
    : Type 0 where
  pub input : List ℕ
  pub written : List ℕ
  pub text : List ℕ
  pub left : HasLeft file input
  pub left_records : HasLeft records written
  pub left_report : HasLeft report text
  pub answers : RepackAnswers choice input written text result

-- Some file, records and report were read, and are verified.
pub record WasVerified (choice : Choice) : Type 0 where
  pub file : List ℕ
  pub records : List ℕ
  pub text : List ℕ
  pub verified : IsVerifiedBy choice file records text

-- Some records and some text were read, and the text does not show the records to be the fewest.
pub record WasNotShown (choice : Choice) : Type 0 where
  pub records : List ℕ
  pub text : List ℕ
  pub unshown : ¬ (ShowsWritten choice records text)

-- Some file, records and report were read; the report shows the records to be the fewest, and the file has other data.
pub record WasDifferent (choice : Choice) : Type 0 where
  pub file : List ℕ
  pub records : List ℕ
  pub text : List ℕ
  pub other : IsOtherData choice file records text

-- what verifying what was written of a day answers; nothing is known of the files of the system
abbrev pub VerifiedAnswers : Choice → Result (Unit {0}) DayFault → Type 0
VerifiedAnswers choice (Ok done) = WasVerified choice
VerifiedAnswers choice (Err (CannotOpen unopened)) = ⊤
VerifiedAnswers choice (Err NotShown) = WasNotShown choice
VerifiedAnswers choice (Err Differs) = WasDifferent choice
VerifiedAnswers choice (Err Changed) = WasDifferent choice
VerifiedAnswers choice (Err (Tool fault)) = IsReadOrMemory fault
VerifiedAnswers choice (Err _) = ⊥

-- the bytes that were written are fewer than those that were read
abbrev pub GotSmaller : Repacked → Type 0
GotSmaller repacked = repacked.bytes_written < repacked.bytes_read

-- Some input was repacked with these counts, and if that is asked for, what was written is verified, and smaller than
-- what was read.
pub record IsDone (asked : DayOptions) (repacked : Repacked) : Type 0 where
  pub answer : HasAnswer asked.options (Ok repacked)
  pub verified : IsTrue asked.check → WasVerified asked.options
  pub smaller : IsTrue asked.only_smaller → GotSmaller repacked

-- Some input was repacked with these counts, it was asked for that only what gets smaller is kept, and it did not.
pub record IsLarger (asked : DayOptions) (repacked : Repacked) : Type 0 where
  pub answer : HasAnswer asked.options (Ok repacked)
  pub only_smaller : IsTrue asked.only_smaller
  pub larger : ¬ (GotSmaller repacked)

-- Some input was repacked to fewer samples than an earlier walk left, and it was asked for that such a day stays as it is.
pub record IsShrunk (asked : DayOptions) (shrinkage : Shrinkage) : Type 0 where
  pub repacked : Repacked
  pub answer : HasAnswer asked.options (Ok repacked)
  pub keep_old : IsTrue asked.keep_old
  pub is : shrinkage.is ≡ repacked.samples
  pub fewer : shrinkage.is < shrinkage.was

-- It was asked for that what is written is verified, and it was not shown.
pub record IsNotShown (asked : DayOptions) : Type 0 where
  pub check : IsTrue asked.check
  pub unshown : WasNotShown asked.options

-- It was asked for that what is written is verified, and it was shown, and not the same data as the day's file.
pub record IsDifferent (asked : DayOptions) : Type 0 where
  pub check : IsTrue asked.check
  pub different : WasDifferent asked.options

-- what an answer says of a day file; nothing is known of the files of the system but that they have some bytes
abbrev pub IsRepackedDay : DayOptions → Result Repacked DayFault → Type 0
IsRepackedDay asked (Ok repacked) = IsDone asked repacked
IsRepackedDay asked (Err (CannotOpen unopened)) = ⊤
IsRepackedDay asked (Err NotShown) = IsNotShown asked
IsRepackedDay asked (Err Differs) = IsDifferent asked
IsRepackedDay asked (Err Changed) = IsDifferent asked
IsRepackedDay asked (Err (Larger repacked)) = IsLarger asked repacked
IsRepackedDay asked (Err (Shrunk shrinkage)) = IsShrunk asked shrinkage
IsRepackedDay asked (Err (Misplaced found)) = WasMisplaced asked found
IsRepackedDay asked (Err ClaimedByAnother) = ⊤
IsRepackedDay asked (Err (Tool fault)) = HasAnswer asked.options (Err fault)
IsRepackedDay asked (Err _) = ⊥

-- Some text is that of a report of these options, and the counts are those of this report, with the bytes of the records
-- that it counts. A report does not say whether reading was strict: if reading is strict it counts no record whose
-- reverse constant does not agree, as that of a strict repack does. Its segments belong to the day if that is asked for.
pub record IsReportKept (asked : DayOptions) (repacked : Repacked) : Type 0 where
  pub text : List ℕ
  pub report : Report
  pub reads : IsReadFrom report text
  pub record_length : bytes_of report.length ≡ record_size asked.options
  pub kinds : report.kinds ≡ asked.options.kinds
  pub tolerance : report.tolerance ≡ asked.options.tolerance
  pub agree : IsTrue asked.options.strict → report.counts.mismatched ≡ 0
  pub belong : IsFoundAsAsked asked.names (told_segments report.segments.items) None
  pub read : repacked.read ≡ report.counts.read
  pub written : repacked.written ≡ records_in report.segments.items
  pub bytes : HasBytesWritten asked.options repacked
  pub samples : repacked.samples ≡ saturated (samples_of_lines report.segments.items)

-- the same of the text that a source has
pub record IsReportLeft (asked : DayOptions) (source : Device) (repacked : Repacked) : Type 0 where
  pub is : IsReportKept asked repacked
  pub left : HasLeft source is.text

-- What an earlier walk left is of these options, and smaller than what was read if that is asked for.
pub record IsKept (asked : DayOptions) (repacked : Repacked) : Type 0 where
  pub report : IsReportKept asked repacked
  pub smaller : IsTrue asked.only_smaller → GotSmaller repacked

-- It is of these options, and as long as what is read now: it has the place of the day's file.
pub record IsKeptInPlace (asked : DayOptions) (repacked : Repacked) : Type 0 where
  pub report : IsReportKept asked repacked
  pub as_long : repacked.bytes_written ≡ repacked.bytes_read

abbrev pub IsKeptEither : DayOptions → Repacked → Type 0
IsKeptEither asked repacked = IsKept asked repacked ⊎ IsKeptInPlace asked repacked

-- It was asked for that days are left alone that an earlier walk did, and this one is kept.
pub record IsSame (asked : DayOptions) (repacked : Repacked) : Type 0 where
  pub resume : IsTrue asked.resume
  pub kept : IsKeptEither asked repacked

-- it was asked for that files are left alone that were changed in some last days
abbrev pub AsksForAge : DayOptions → Type 0
AsksForAge asked = 0 < asked.older_than

-- what an outcome says of a day file of which this is asked
abbrev pub IsDayOutcome : DayOptions → DayOutcome → Type 0
IsDayOutcome asked (outcomes.Done repacked) = IsDone asked repacked
IsDayOutcome asked (outcomes.Same repacked) = IsSame asked repacked
IsDayOutcome asked outcomes.Young = AsksForAge asked
IsDayOutcome asked (outcomes.Refused why) = IsRepackedDay asked (Err why)
