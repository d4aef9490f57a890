-- What is told of a day whose records were held against their report and against its own file.
use Rattle.std.proofs.Common.{◌≡◌, ◌≢◌, ◌↔◌, ◌⊎◌, ◌∙◌, ℕ, refl, sym, ap, arith, List, inl, inr, Option, None, Some, Result, Ok, Err, IsErrOf}
use Rattle.msr_devices.specs.Device.{Device, HasFailed, HasLeft}
use Rattle.msr_devices.proofs.Chaining.{left_of}
use Rattle.msr_input.specs.declared.settings.Settings.{Settings}
use Rattle.msr_input.specs.declared.fault.ReadFault.TheVariants as read
use Rattle.msr_input.proofs.OneReading.{readable_has_no_fault}
use Rattle.msr_options.specs.Choice.{Choice}
use Rattle.msr_compare.specs.Answers.{CompareAnswers, HaveSameSegments, IsOfInputs}
use Rattle.msr_compare.specs.declared.comparison.Comparison.{Comparison}
use Rattle.msr_compare.specs.declared.comparison.Comparison.TheVariants.{Same, Differ}
use Rattle.msr_compare.specs.declared.comparison.SameSegments.{SameSegments}
use Rattle.msr_compare.specs.declared.fault.CompareFault.{CompareFault}
use Rattle.msr_compare.specs.declared.fault.CompareFault.TheVariants.{One, Other}
use Rattle.msr_compare.proofs.SameInputs.{exact}
use Rattle.msr_report.specs.declared.report.Report.{Report}
use Rattle.msr_report_reader.specs.Content.{Content, content_of}
use Rattle.msr_report_reader.specs.Reading.{IsReadFrom, ReadsReport}
use Rattle.msr_report_reader.specs.declared.fault.ReportFault.{ReportFault}
use Rattle.msr_report_reader.specs.declared.fault.ReportFault.TheVariants as report_stop
use Rattle.msr_report_reader.proofs.OneContent.{no_fault, one_report}
use Rattle.msr_verdict.specs.Beside.{BesideAnswers}
use Rattle.msr_verdict.specs.Packed.{ShowsLeast, settings_by}
use Rattle.msr_verdict.proofs.StoppedReading.{shown_readable}
use Rattle.msr_tool.specs.declared.fault.ToolFault.TheVariants as fault
use Rattle.msr_tool.proofs.RepackedLeast.{shows_same}
use Rattle.msr_making.specs.Day.{HaveSameData, ShowsWritten, RepackAnswers, VerifiesRepack, told_of_report, told_of}
use Rattle.msr_making.specs.declared.answer.DayFault.{DayFault}
use Rattle.msr_making.specs.declared.answer.DayFault.TheVariants.{NotShown, Tool}

-- the two inputs in the other order
turned : {settings : Settings} {one other : List ℕ} → HaveSameSegments settings one other
    → HaveSameSegments settings other one
turned same = record { segments = same.segments; one_has = same.other_has; other_has = same.one_has }

-- any other answer about the inputs says that their segments are not the same
not_same : (settings : Settings) (one other : List ℕ) (answer : Result Comparison CompareFault) → IsOfInputs answer
    → CompareAnswers settings one other answer
    → ((told : SameSegments) → answer ≡ Ok (Same told) → ⊥)
    → HaveSameSegments settings one other → ⊥
not_same settings one other answer of_inputs answers none same =
    let told = exact settings one other answer of_inputs answers same in
    none told.0 told.1

-- a text is that of one report
module _ (choice : Choice) (text : List ℕ) (report : Report) (reads : IsReadFrom report text) where
  same_content : (other : Report) → IsReadFrom other text → content_of other ≡ content_of report
  same_content other read = one_report other report text read.is_content reads.is_content read.is_text reads.is_text

  -- what the text shows, the report shows
  shown_by : {records : List ℕ} → ShowsWritten choice records text → ShowsLeast report records
  shown_by {records} s = shows_same s.report report records (same_content s.report s.read) s.least

  -- of another tolerance it shows nothing
  pub other_tolerance : {records : List ℕ} → report.tolerance ≢ choice.tolerance → ShowsWritten choice records text → ⊥
  other_tolerance differs s =
      differs (sym (ap (λ (said : Content). said.tolerance) (same_content s.report s.read)) ∙ s.tolerance)

  module _ (tolerance : report.tolerance ≡ choice.tolerance) (file records : List ℕ) where
    is_shown : ShowsLeast report records → ShowsWritten choice records text
    is_shown least = record { report = report; read = reads; tolerance = tolerance; least = least }

    same_by : HaveSameSegments (settings_by report) records file → HaveSameData choice file records
    same_by same = rw (← tolerance) (turned same)

    differ_by : (HaveSameSegments (settings_by report) records file → ⊥) → HaveSameData choice file records → ⊥
    differ_by differ same = differ (rw tolerance (turned same))

    told_so : (answer : Result (Option Comparison) CompareFault) → BesideAnswers report records file answer
        → RepackAnswers choice file records text (told_of answer)
    told_so (Ok (Some (Same told))) said = record { shown = is_shown said.shown; same = same_by said.same.same }
    told_so (Ok (Some (Differ difference))) said = record {
      shown = is_shown said.shown;
      differ = differ_by (not_same (settings_by report) records file (Ok (Differ difference)) tt said.differ
          (λ told e. absurd cc));
    }
    told_so (Ok None) said = λ s. said.none (shown_by s)
    told_so (Err (One (read.Input found))) said = λ s.
        let readable = shown_readable report records (shown_by s) in
        readable_has_no_fault (settings_by report) records readable.0 said.records readable.1 found readable.2 said.first
    told_so (Err (Other (read.Input found))) said = record {
      shown = is_shown said.shown;
      differ = differ_by (not_same (settings_by report) records file (Err (Other (read.Input found))) tt said.faulty
          (λ told e. absurd cc));
    }
    told_so (Err (One read.Read)) said = inl refl
    told_so (Err (Other read.Read)) said = inl refl
    told_so (Err (One read.Memory)) said = inr refl
    told_so (Err (Other read.Memory)) said = inr refl

    pub verified : (file_at records_at report_at : Device) (answer : Result (Option Comparison) CompareFault)
        → HasLeft file_at file → HasLeft records_at records → HasLeft report_at text
        → BesideAnswers report records file answer
        → VerifiesRepack choice file_at records_at report_at (told_of answer)
    verified file_at records_at report_at answer left left_records left_report said = record {
      input = file;
      written = records;
      text = text;
      left = left;
      left_records = left_records;
      left_report = left_report;
      answers = told_so answer said;
    }

-- nothing but the report was read
pub report_alone : (choice : Choice) (file records report : Device) (text : List ℕ) (why : DayFault)
    → HasLeft report text → ((written : List ℕ) (input : List ℕ) → RepackAnswers choice input written text (Err why))
    → VerifiesRepack choice file records report (Err why)
report_alone choice file records report text why left says =
    let f = left_of file in
    let r = left_of records in
    record {
      input = f.0;
      written = r.0;
      text = text;
      left = f.1;
      left_records = r.1;
      left_report = left;
      answers = says r.0 f.0;
    }

pub fault_said : (choice : Choice) (text : List ℕ) (why : ReportFault) → ReadsReport text (Err why)
    → (written : List ℕ) (input : List ℕ) → RepackAnswers choice input written text (Err (told_of_report why))
fault_said choice text (report_stop.Line line) reads written input = λ s. no_fault s.report text line s.read reads
fault_said choice text report_stop.Read reads written input = inl refl
fault_said choice text report_stop.Memory reads written input = inr refl

-- a failed read is told as such, and nothing else is
told_failure : (answer : Result (Option Comparison) CompareFault) (F P : Type 0) → IsErrOf answer (One read.Read) ↔ P
    → IsErrOf answer (Other read.Read) ↔ F → IsErrOf (told_of answer) (Tool fault.Read) → F ⊎ P
told_failure (Ok (Some (Same told))) F P one other e = absurd cc
told_failure (Ok (Some (Differ difference))) F P one other e = absurd cc
told_failure (Ok None) F P one other e = absurd cc
told_failure (Err (One (read.Input found))) F P one other e = absurd cc
told_failure (Err (One read.Read)) F P one other e = inr (one.0 refl)
told_failure (Err (One read.Memory)) F P one other e = absurd cc
told_failure (Err (Other (read.Input found))) F P one other e = absurd cc
told_failure (Err (Other read.Read)) F P one other e = inl (other.0 refl)
told_failure (Err (Other read.Memory)) F P one other e = absurd cc

wider : {F P Q : Type 0} → F ⊎ P → F ⊎ (P ⊎ Q)
wider (inl f) = inl f
wider (inr p) = inr (inl p)

told_back : (answer : Result (Option Comparison) CompareFault) {F P Q : Type 0} → IsErrOf answer (One read.Read) ↔ P
    → IsErrOf answer (Other read.Read) ↔ F → (Q → ⊥) → F ⊎ (P ⊎ Q) → IsErrOf (told_of answer) (Tool fault.Read)
told_back answer one other none (inl f) = ap told_of (other.1 f)
told_back answer one other none (inr (inl p)) = ap told_of (one.1 p)
told_back answer one other none (inr (inr q)) = absurd (none q)

pub failure_told : {F P Q : Type 0} (answer : Result (Option Comparison) CompareFault)
    → IsErrOf answer (One read.Read) ↔ P → IsErrOf answer (Other read.Read) ↔ F → (Q → ⊥)
    → IsErrOf (told_of answer) (Tool fault.Read) ↔ (F ⊎ (P ⊎ Q))
failure_told {F} {P} answer one other none =
    (λ e. wider (told_failure answer F P one other e), told_back answer one other none)

-- and a failed read of the report, if nothing else was read
one_read : (why : ReportFault) → IsErrOf {T = Unit {0}} (Err (told_of_report why)) (Tool fault.Read)
    → IsErrOf {T = Report} (Err why) report_stop.Read
one_read (report_stop.Line line) e = absurd cc
one_read report_stop.Read e = refl
one_read report_stop.Memory e = absurd cc

read_stop : (why : ReportFault) → IsErrOf {T = Report} (Err why) report_stop.Read
    → IsErrOf {T = Unit {0}} (Err (told_of_report why)) (Tool fault.Read)
read_stop (report_stop.Line line) e = absurd cc
read_stop report_stop.Read e = refl
read_stop report_stop.Memory e = absurd cc

told_alone : {F P Q : Type 0} (why : ReportFault) → (F → ⊥) → (P → ⊥)
    → IsErrOf {T = Report} (Err why) report_stop.Read ↔ Q → F ⊎ (P ⊎ Q)
    → IsErrOf {T = Unit {0}} (Err (told_of_report why)) (Tool fault.Read)
told_alone why no_file no_records so (inl f) = absurd (no_file f)
told_alone why no_file no_records so (inr (inl p)) = absurd (no_records p)
told_alone why no_file no_records so (inr (inr q)) = read_stop why (so.1 q)

pub report_failed : {F P Q : Type 0} (why : ReportFault) → (F → ⊥) → (P → ⊥)
    → IsErrOf {T = Report} (Err why) report_stop.Read ↔ Q
    → IsErrOf {T = Unit {0}} (Err (told_of_report why)) (Tool fault.Read) ↔ (F ⊎ (P ⊎ Q))
report_failed why no_file no_records so =
    (λ e. inr (inr (so.0 (one_read why e))), told_alone why no_file no_records so)

-- nothing failed
pub still : (device : Device) → HasFailed device device → ⊥
still device (inl a) = absurd (omega arith)
still device (inr (inl a)) = absurd (omega (arith, a.1))
still device (inr (inr a)) = absurd (omega (arith, a.0))

none_did : {F P Q : Type 0} → (F → ⊥) → (P → ⊥) → (Q → ⊥) → F ⊎ (P ⊎ Q) → ⊥
none_did no_file no_records no_report (inl f) = no_file f
none_did no_file no_records no_report (inr (inl p)) = no_records p
none_did no_file no_records no_report (inr (inr q)) = no_report q

pub none_failed : {F P Q : Type 0} → (F → ⊥) → (P → ⊥) → (Q → ⊥)
    → IsErrOf {T = Unit {0}} (Err NotShown) (Tool fault.Read) ↔ (F ⊎ (P ⊎ Q))
none_failed no_file no_records no_report =
    (λ e. absurd cc, λ failed. absurd (none_did no_file no_records no_report failed))
