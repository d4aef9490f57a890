-- What the three files of a day show, put together from what was read of each.
use Rattle.std.proofs.Common.{◌↔◌, ℕ, false, List, Option, None, Some, Result, Ok, Err, IsErrOf, ap, refl}
use Rattle.msr_devices.specs.Device.{Device, HasLeft}
use Rattle.msr_devices.proofs.Chaining.{left_of}
use Rattle.msr_compare.specs.declared.comparison.Comparison.{Comparison}
use Rattle.msr_compare.specs.declared.comparison.Comparison.TheVariants.{Same, Differ}
use Rattle.msr_compare.specs.declared.fault.CompareFault.{CompareFault}
use Rattle.msr_compare.specs.declared.fault.CompareFault.TheVariants.{One, Other}
use Rattle.msr_report.specs.declared.report.Report.{Report}
use Rattle.msr_report_reader.specs.Reading.{ReadsReport}
use Rattle.msr_report_reader.specs.declared.fault.ReportFault.{ReportFault}
use Rattle.msr_report_reader.specs.declared.fault.ReportFault.TheVariants as report_stop
use Rattle.msr_input.specs.declared.fault.ReadFault.{ReadFault}
use Rattle.msr_input.specs.declared.fault.ReadFault.TheVariants as stop
use Rattle.msr_verdict.specs.Beside.{BesideAnswers}
use Rattle.msr_verdict.specs.Packed.{ShowsLeast, VerifyAnswers, settings_by}
use Rattle.msr_verdict.specs.declared.verdict.Verdict.{Verdict}
use Rattle.msr_verdict.specs.declared.verdict.Verdict.TheVariants as verdict
use Rattle.msr_verdict.proofs.StoppedReading.{shown_readable}
use Rattle.msr_input.proofs.OneReading.{readable_has_no_fault}
use Rattle.msr_report_reader.proofs.OneContent.{no_fault, one_report}
use Rattle.msr_tool.proofs.RepackedLeast.{shows_same}
use Rattle.msr_verify.specs.Day.{AloneAnswers, DayAnswers, IsUnfinished, IsShownLeast, VerifiesAlone, VerifiesDay, alone_of, finding_of, verify_fault_of_report}
use Rattle.msr_verify.specs.declared.judging.VerifyFault.{VerifyFault}
use Rattle.msr_verify.specs.declared.judging.VerifyFault.TheVariants.{File, Records, ReportRead}

fault_said : (first second text : List ℕ) (why : ReportFault) → ReadsReport text (Err why)
    → DayAnswers first second text (Err (verify_fault_of_report why))
fault_said first second text (report_stop.Line line) reads = reads
fault_said first second text report_stop.Read reads = tt
fault_said first second text report_stop.Memory reads = tt

-- a report that is at fault
pub report_fails : (file records report : Device) (text : List ℕ) (why : ReportFault) → HasLeft report text
    → ReadsReport text (Err why) → VerifiesDay file records report (Err (verify_fault_of_report why))
report_fails file records report text why left reads =
    let f = left_of file in
    let r = left_of records in
    record {
      first = f.0;
      second = r.0;
      text = text;
      left_file = f.1;
      left_records = r.1;
      left_report = left;
      answers = fault_said f.0 r.0 text why reads;
    }

module _ (file records text : List ℕ) (found : Report) (reads : ReadsReport text (Ok found)) where
  -- the report that was read shows it
  abbrev shown_by : ShowsLeast found records → IsShownLeast records text
  shown_by least = record { report = found; read = reads; least = least }

  -- what is found of the records beside the day's own file
  found_so : (answer : Result (Option Comparison) CompareFault) → BesideAnswers found records file answer
      → DayAnswers file records text (finding_of answer)
  found_so (Ok (Some (Same told))) said =
      let same = said.same.same in
      record {
        shown = shown_by said.shown;
        same = record { segments = same.segments; one_has = same.other_has; other_has = same.one_has };
      }
  found_so (Ok (Some (Differ difference))) said =
      record { shown = shown_by said.shown; difference = difference; differ = said.differ }
  found_so (Ok None) said = record { report = found; read = reads; unshown = said }
  found_so (Err (One (stop.Input fault))) said = record { report = found; read = reads; first = said }
  found_so (Err (One stop.Read)) said = tt
  found_so (Err (One stop.Memory)) said = tt
  found_so (Err (Other (stop.Input fault))) said =
      record { shown = shown_by said.shown; first = said.faulty.faulty }
  found_so (Err (Other stop.Read)) said = tt
  found_so (Err (Other stop.Memory)) said = tt

  pub day_found : (file_at records_at report_at : Device) (answer : Result (Option Comparison) CompareFault)
      → HasLeft file_at file → HasLeft records_at records → HasLeft report_at text
      → BesideAnswers found records file answer → VerifiesDay file_at records_at report_at (finding_of answer)
  day_found file_at records_at report_at answer left_file left_records left_report said = record {
    first = file;
    second = records;
    text = text;
    left_file = left_file;
    left_records = left_records;
    left_report = left_report;
    answers = found_so answer said;
  }

-- a failure of a source is found as such, and nothing else is
failed_file : (answer : Result (Option Comparison) CompareFault)
    → IsErrOf (finding_of answer) (File stop.Read) → IsErrOf answer (Other stop.Read)
failed_file (Ok (Some (Same told))) e = absurd cc
failed_file (Ok (Some (Differ difference))) e = absurd cc
failed_file (Ok None) e = absurd cc
failed_file (Err (One why)) e = absurd cc
failed_file (Err (Other (stop.Input fault))) e = absurd cc
failed_file (Err (Other stop.Read)) e = refl
failed_file (Err (Other stop.Memory)) e = absurd cc

failed_records : (answer : Result (Option Comparison) CompareFault)
    → IsErrOf (finding_of answer) (Records stop.Read) → IsErrOf answer (One stop.Read)
failed_records (Ok (Some (Same told))) e = absurd cc
failed_records (Ok (Some (Differ difference))) e = absurd cc
failed_records (Ok None) e = absurd cc
failed_records (Err (Other why)) e = absurd cc
failed_records (Err (One (stop.Input fault))) e = absurd cc
failed_records (Err (One stop.Read)) e = refl
failed_records (Err (One stop.Memory)) e = absurd cc

pub file_failed : {failed : Type 0} (answer : Result (Option Comparison) CompareFault)
    → IsErrOf answer (Other stop.Read) ↔ failed → IsErrOf (finding_of answer) (File stop.Read) ↔ failed
file_failed answer exact = (λ e. exact.0 (failed_file answer e), λ f. ap finding_of (exact.1 f))

pub records_failed : {failed : Type 0} (answer : Result (Option Comparison) CompareFault)
    → IsErrOf answer (One stop.Read) ↔ failed → IsErrOf (finding_of answer) (Records stop.Read) ↔ failed
records_failed answer exact = (λ e. exact.0 (failed_records answer e), λ f. ap finding_of (exact.1 f))

-- of a report that was read nothing failed
no_report : (answer : Result (Option Comparison) CompareFault) → IsErrOf (finding_of answer) ReportRead → ⊥
no_report (Ok (Some (Same told))) e = absurd cc
no_report (Ok (Some (Differ difference))) e = absurd cc
no_report (Ok None) e = absurd cc
no_report (Err (One why)) e = absurd cc
no_report (Err (Other why)) e = absurd cc

pub report_read : {failed : Type 0} (answer : Result (Option Comparison) CompareFault) → (failed → ⊥)
    → IsErrOf (finding_of answer) ReportRead ↔ failed
report_read answer none = (λ e. absurd (no_report answer e), λ f. absurd (none f))

-- The day's own file, by the report.
module _ (file text : List ℕ) (found : Report) (reads : ReadsReport text (Ok found)) where
  unshown : (ShowsLeast found file → ⊥) → IsShownLeast file text → ⊥
  unshown none shown = none (shows_same shown.report found file
      (one_report shown.report found text shown.read.is_content reads.is_content shown.read.is_text reads.is_text) shown.least)

  alone_so : (answer : Result Verdict ReadFault) → VerifyAnswers found file answer → AloneAnswers file text (alone_of answer)
  alone_so (Ok verdict.Least) said = record { report = found; read = reads; least = said }
  alone_so (Ok verdict.NotShown) said = unshown said.none
  alone_so (Err (stop.Input fault)) said = unshown (λ least.
      let readable = shown_readable found file least in
      readable_has_no_fault (settings_by found) file readable.0 said.records readable.1 fault readable.2 said.first)
  alone_so (Err stop.Read) said = tt
  alone_so (Err stop.Memory) said = tt

  pub alone_found : (file_at report_at : Device) (answer : Result Verdict ReadFault) → HasLeft file_at file → HasLeft report_at text
      → VerifyAnswers found file answer → VerifiesAlone file_at report_at (alone_of answer)
  alone_found file_at report_at answer left_file left_report said = record { own = file; text = text; left_file = left_file; left_report = left_report; answers = alone_so answer said }

-- what is no report shows nothing
pub alone_unread : (file_at report_at : Device) (text : List ℕ) (line : ℕ) → HasLeft report_at text → ReadsReport text (Err (report_stop.Line line)) → VerifiesAlone file_at report_at (Ok false)
alone_unread file_at report_at text line left reads =
    let f = left_of file_at in
    record { own = f.0; text = text; left_file = f.1; left_report = left; answers = λ shown. no_fault shown.report text line shown.read reads }

pub alone_cut : (file_at report_at : Device) (fault : VerifyFault) (text : List ℕ) → IsUnfinished fault → HasLeft report_at text → VerifiesAlone file_at report_at (Err fault)
alone_cut file_at report_at fault text cut left =
    let f = left_of file_at in
    record { own = f.0; text = text; left_file = f.1; left_report = left; answers = cut }
