-- What an outcome says of a day by what its names lead to, while nobody else changes them.
use Rattle.std.specs.Prelude.{◌≡◌, ◌<◌, ◌≤◌, ◌⊎◌, ℕ, Bool, true, false, IsTrue, List, length, None, Some, Ok, Err, IsSome, IsSomeAnd}
use Rattle.msr_tree.specs.Steps.{Step, failures, now, seen}
use Rattle.msr_folders.specs.Totals.{saturated}
use Rattle.msr_options.specs.declared.days.DayOptions.{DayOptions}
use Rattle.msr_options.specs.declared.hint.Side.{Side}
use Rattle.msr_options.specs.declared.names.DayName.{DayName}
use Rattle.msr_folders.specs.Belonging.{IsFoundAsAsked, told_segments}
use Rattle.msr_options.specs.declared.hint.Side.TheVariants.{Records, Report as OfReport}
use Rattle.msr_report.specs.declared.report.Report.{Report}
use Rattle.msr_report_reader.specs.Reading.{IsReadFrom}
use Rattle.msr_tool.specs.declared.fault.ToolFault.{ToolFault}
use Rattle.msr_making.specs.Day.{AsksForAge, CountAnswers, GotSmaller, IsKept, IsKeptInPlace, IsMisplaced, IsOtherData, IsVerifiedBy, ShowsWritten, samples_of_lines}
use Rattle.msr_making.specs.Places.{DayPaths, IsOneOfMade, IsUnseen}
use Rattle.msr_naming.specs.Stamp.{stamp_text}
use Rattle.msr_naming.specs.declared.stamp.Stamp.{Stamp}
use Rattle.msr_naming.specs.declared.stamp.StampOf.TheVariants as stamped
use Rattle.msr_making.specs.declared.answer.DayFault.{DayFault}
use Rattle.msr_making.specs.declared.answer.DayFault.TheVariants.{CannotOpen, Changed, ClaimedByAnother, Differs, Gone, Larger, Listing, Misplaced, NotShown, Shrunk, Tool}
use Rattle.msr_making.specs.declared.answer.DayOutcome.{DayOutcome}
use Rattle.msr_making.specs.declared.answer.DayOutcome.TheVariants.{Done, Refused, Same, Young}
use Rattle.msr_making.specs.declared.answer.Repacked.{Repacked}
use Rattle.msr_making.specs.declared.answer.Shrinkage.{Shrinkage}

-- The bytes of the day's file were repacked, with these counts, to these records and this text, and their segments belong to
-- the day if that is asked for.
pub record IsRepackOf (asked : DayOptions) (paths : DayPaths) (repacked : Repacked) (records text : List ℕ) (old : List Step) : Type 0 where
  pub input : List ℕ
  pub has_input : seen old paths.input ≡ Some input
  pub answers : CountAnswers asked.options input records text (Ok repacked)
  pub belong : IsFoundAsAsked asked.names (told_segments answers.report.segments.items) None
  pub bytes_read : repacked.bytes_read ≡ length input

-- An earlier walk left records of a day, and a report that tells so many samples.
pub record LeavesSamples (paths : DayPaths) (samples : ℕ) (past : List Step) : Type 0 where
  pub report : Report
  pub text : List ℕ
  pub reads : IsReadFrom report text
  pub has_report : seen past paths.report ≡ Some text
  pub has_records : IsSome (seen past paths.records)
  pub are : samples ≡ saturated (samples_of_lines report.segments.items)

-- if what an earlier walk left is to stay, a day has no fewer samples than that
abbrev pub IsUnshrunk : DayOptions → DayPaths → Repacked → List Step → Type 0
IsUnshrunk asked paths repacked past = IsTrue asked.keep_old → (was : ℕ) → LeavesSamples paths was past → was ≤ repacked.samples

-- The names of records and report lead to the records and the report of a repack of what the day's file has.
pub record IsDoneThere (asked : DayOptions) (paths : DayPaths) (repacked : Repacked) (old new : List Step) : Type 0 where
  pub records : List ℕ
  pub text : List ℕ
  pub repack : IsRepackOf asked paths repacked records text old
  pub has_records : seen new paths.records ≡ Some records
  pub has_report : seen new paths.report ≡ Some text
  pub verified : IsTrue asked.check → IsVerifiedBy asked.options repack.input records text
  pub smaller : IsTrue asked.only_smaller → GotSmaller repacked
  pub unshrunk : IsUnshrunk asked paths repacked old

-- An earlier walk left the day: its stamp is of a file as long as the day's own is, and records and report stand beside it.
pub record IsLeftThere (asked : DayOptions) (paths : DayPaths) (repacked : Repacked) (past : List Step) : Type 0 where
  pub stamp : Stamp
  pub has_stamp : seen past paths.stamp ≡ Some (stamp_text stamped.Input stamp)
  pub has_input : IsSomeAnd (seen past paths.input) (λ input. length input ≡ stamp.bytes)
  pub read : repacked.bytes_read ≡ stamp.bytes
  pub kept : IsKept asked repacked
  pub has_report : seen past paths.report ≡ Some kept.report.text
  pub has_records : IsSomeAnd (seen past paths.records) (λ records. length records ≡ repacked.bytes_written)

-- The records of an earlier walk have the place of the day's file: the stamp is of records as long as the file is, a report
-- of as many bytes stands beside it, and nothing has the records' name.
pub record IsInPlaceThere (asked : DayOptions) (paths : DayPaths) (repacked : Repacked) (past : List Step) : Type 0 where
  pub stamp : Stamp
  pub has_stamp : seen past paths.stamp ≡ Some (stamp_text stamped.Records stamp)
  pub has_input : IsSomeAnd (seen past paths.input) (λ input. length input ≡ stamp.bytes)
  pub read : repacked.bytes_read ≡ stamp.bytes
  pub kept : IsKeptInPlace asked repacked
  pub has_report : seen past paths.report ≡ Some kept.report.text
  pub none : now past paths.records ≡ None

abbrev pub IsLeftEither : DayOptions → DayPaths → Repacked → List Step → Type 0
IsLeftEither asked paths repacked past = IsLeftThere asked paths repacked past ⊎ IsInPlaceThere asked paths repacked past

-- and it was asked for that such a day is left alone
pub record IsSameThere (asked : DayOptions) (paths : DayPaths) (repacked : Repacked) (past : List Step) : Type 0 where
  pub resume : IsTrue asked.resume
  pub left : IsLeftEither asked paths repacked past

-- nothing is left of a day, or a call failed
abbrev pub IsClearedThere : DayPaths → (old new : List Step) → Type 0
IsClearedThere paths old new = IsUnseen paths new ⊎ (failures old < failures new)

-- What the day's file has was not repacked, or not written or verified, for that.
pub record IsFaultThere (asked : DayOptions) (paths : DayPaths) (fault : ToolFault) (old : List Step) : Type 0 where
  pub input : List ℕ
  pub written : List ℕ
  pub told : List ℕ
  pub has_input : seen old paths.input ≡ Some input
  pub answers : CountAnswers asked.options input written told (Err fault)

-- It was repacked, and it was asked for that what is written is verified: the report did not show it, or it is other data.
pub record IsNotShownThere (asked : DayOptions) (paths : DayPaths) (old : List Step) : Type 0 where
  pub repacked : Repacked
  pub records : List ℕ
  pub text : List ℕ
  pub repack : IsRepackOf asked paths repacked records text old
  pub check : IsTrue asked.check
  pub unshown : ¬ (ShowsWritten asked.options records text)

pub record IsDifferentThere (asked : DayOptions) (paths : DayPaths) (old : List Step) : Type 0 where
  pub repacked : Repacked
  pub records : List ℕ
  pub text : List ℕ
  pub repack : IsRepackOf asked paths repacked records text old
  pub check : IsTrue asked.check
  pub other : IsOtherData asked.options repack.input records text

-- It was repacked, and did not get smaller.
pub record IsLargerThere (asked : DayOptions) (paths : DayPaths) (repacked : Repacked) (old : List Step) : Type 0 where
  pub records : List ℕ
  pub text : List ℕ
  pub repack : IsRepackOf asked paths repacked records text old
  pub only_smaller : IsTrue asked.only_smaller
  pub larger : ¬ (GotSmaller repacked)
  pub unshrunk : IsUnshrunk asked paths repacked old

-- It was repacked, and has fewer samples than an earlier walk left, which is to stay.
pub record IsShrunkThere (asked : DayOptions) (paths : DayPaths) (shrinkage : Shrinkage) (old : List Step) : Type 0 where
  pub repacked : Repacked
  pub records : List ℕ
  pub text : List ℕ
  pub repack : IsRepackOf asked paths repacked records text old
  pub keep_old : IsTrue asked.keep_old
  pub left : LeavesSamples paths shrinkage.was old
  pub is : shrinkage.is ≡ repacked.samples
  pub fewer : shrinkage.is < shrinkage.was

-- It was repacked, and it was asked for that its segments belong to the day: they do not, by the one of this name.
pub record IsMisplacedThere (asked : DayOptions) (paths : DayPaths) (found : DayName) (old : List Step) : Type 0 where
  pub input : List ℕ
  pub records : List ℕ
  pub text : List ℕ
  pub has_input : seen old paths.input ≡ Some input
  pub is : IsMisplaced asked input records text found

-- Why a day is refused. What could not be opened or made says that a call failed, or that the day's own file is one of
-- those that are made; nothing is said of other processes.
abbrev pub IsRefusedThere : DayOptions → DayPaths → DayFault → (old new : List Step) → Type 0
IsRefusedThere asked paths (CannotOpen unopened) old new = IsOneOfMade paths old ⊎ (failures old < failures new)
IsRefusedThere asked paths NotShown old new = IsNotShownThere asked paths old
IsRefusedThere asked paths Differs old new = IsDifferentThere asked paths old
IsRefusedThere asked paths Changed old new = IsDifferentThere asked paths old
IsRefusedThere asked paths (Larger repacked) old new = IsLargerThere asked paths repacked old
IsRefusedThere asked paths (Shrunk shrinkage) old new = IsShrunkThere asked paths shrinkage old
IsRefusedThere asked paths (Misplaced found) old new = IsMisplacedThere asked paths found old
IsRefusedThere asked paths (Tool fault) old new = IsFaultThere asked paths fault old
IsRefusedThere asked paths ClaimedByAnother old new = Unit {0}
IsRefusedThere asked paths Gone old new = ⊥
IsRefusedThere asked paths Listing old new = ⊥

-- what is made of a day is what it was
abbrev pub AreUntouched : DayPaths → (old new : List Step) → Type 0
AreUntouched paths old new = (now new paths.records ≡ now old paths.records) × (now new paths.report ≡ now old paths.report) × (now new paths.stamp ≡ now old paths.stamp)

-- or a call failed
abbrev pub AreSpared : DayPaths → (old new : List Step) → Type 0
AreSpared paths old new = AreUntouched paths old new ⊎ (failures old < failures new)

-- whether what was made of a day goes if it is refused for that: it stays if another walk has it, or if something could not
-- be opened or made and no call failed
abbrev pub IsClearedFor : DayFault → DayPaths → (old new : List Step) → Type 0
IsClearedFor (CannotOpen unopened) paths old new = AreSpared paths old new
IsClearedFor ClaimedByAnother paths old new = AreSpared paths old new
IsClearedFor why paths old new = IsClearedThere paths old new

-- whether it is what it was if this could not be opened or made: a file that is made may not have got its name, for which a
-- call failed; a day that cannot be claimed is told as its records
abbrev pub IsKeptBeside : Side → DayPaths → (old new : List Step) → Type 0
IsKeptBeside Records paths old new = AreSpared paths old new
IsKeptBeside OfReport paths old new = AreSpared paths old new
IsKeptBeside side paths old new = AreUntouched paths old new

-- whether what was made of a day is what it was if it is refused for that
abbrev pub IsKeptFor : DayFault → DayPaths → (old new : List Step) → Type 0
IsKeptFor (CannotOpen unopened) paths old new = IsKeptBeside unopened.side paths old new
IsKeptFor ClaimedByAnother paths old new = AreSpared paths old new
IsKeptFor why paths old new = AreUntouched paths old new

-- whether what an earlier walk left of a day stays if it is refused for that
abbrev pub stays_for : DayOptions → DayFault → Bool
stays_for asked (Larger repacked) = false
stays_for asked why = asked.keep_old

abbrev pub IsLeftFor : (stays : Bool) → DayFault → DayPaths → (old new : List Step) → Type 0
IsLeftFor true why paths old new = IsKeptFor why paths old new
IsLeftFor false why paths old new = IsClearedFor why paths old new

-- what an outcome says of a day, by what its names lead to before it is done and after
abbrev pub IsOutcomeThere : DayOptions → DayPaths → DayOutcome → (old new : List Step) → Type 0
IsOutcomeThere asked paths (Done repacked) old new = IsDoneThere asked paths repacked old new
IsOutcomeThere asked paths (Same repacked) old new = IsSameThere asked paths repacked old × AreUntouched paths old new
IsOutcomeThere asked paths Young old new = AsksForAge asked × AreUntouched paths old new
IsOutcomeThere asked paths (Refused why) old new = IsRefusedThere asked paths why old new × IsLeftFor (stays_for asked why) why paths old new
