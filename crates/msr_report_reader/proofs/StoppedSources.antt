-- What was read of a source, and what is answered when it was not read to its end.
use Rattle.std.proofs.Common.{◌≡◌, ◌∙◌, ◌⊎◌, inl, inr, ap, sym, refl, subst, arith, List, ℕ, ◌<◌, ◌+◌, ◌-◌, ◌*◌, ◌^◌, true, false, [], ◌++◌, ◌↔◌, append_assoc, append-nil, drop, length, length-drop, if◌then◌else◌, Result, Ok, Err, IfOk, IfErr, IsErrOf}
use Rattle.msr_devices.specs.Device.{CountsFew, Device, Gives, HasFailed, HasLeft, IsCalm, IsSteady}
use Rattle.msr_devices.specs.ReadBuffer.{Window, IsFilled, StopsFilling}
use Rattle.msr_devices.specs.declared.fault.DeviceFault.{DeviceFault}
use Rattle.msr_devices.specs.declared.fault.DeviceFault.TheVariants as fill
use Rattle.msr_devices.proofs.Chaining.{calm_calm, calm_failed, calm_same, gives_append, left_of, steady_sound, steady_steady, steady_then_few}
use Rattle.msr_report.specs.declared.report.Report.{Report}
use Rattle.msr_report_reader.specs.Draft.{HasRead, IsConsumed, IsDraftStep}
use Rattle.msr_report_reader.specs.Reading.{IsReadFrom, ReadsReport, report_fault_of_fill}
use Rattle.msr_report_reader.specs.TextFault.{IsTextFault}
use Rattle.msr_report_reader.specs.declared.draft.Draft.{Draft}
use Rattle.msr_report_reader.specs.declared.draft.Progress.{Progress}
use Rattle.msr_report_reader.specs.declared.draft.Progress.TheVariants.{Cut, Whole}
use Rattle.msr_report_reader.specs.declared.first.FirstLines.{FirstLines}
use Rattle.msr_report_reader.specs.declared.fault.ReportFault.{ReportFault}
use Rattle.msr_report_reader.specs.declared.fault.ReportFault.TheVariants.{Line, Read, Memory}
use Rattle.msr_report_reader.proofs.Steps.{drop_taken, taken_within}

pub stopped : (source : Device) (why : DeviceFault)
    → (text : List ℕ) × HasLeft source text × ReadsReport text (Err (report_fault_of_fill why))
stopped source fill.Failed = let left = left_of source in (left.0, left.1, tt)
stopped source fill.Memory = let left = left_of source in (left.0, left.1, tt)

-- the fault of the bytes that came is that of the whole text, however it goes on
pub judged : (start now : Device) (bytes : List ℕ) (why : ReportFault) → Gives start now bytes
    → ((more : List ℕ) → IsTextFault (bytes ++ more) why)
    → (text : List ℕ) × HasLeft start text × ReadsReport text (Err why)
judged start now bytes (Line n) came fault = let left = left_of now in
    (bytes ++ left.0, came.front left.0 left.1, fault left.0)
judged start now bytes Read came fault = absurd (fault [])
judged start now bytes Memory came fault = let left = left_of start in (left.0, left.1, tt)

-- a source that was not read to its end failed, or memory was refused
pub stopped_tells : {T : Type 0} (start old new : Device) (want : ℕ) (before after : Window) (why : DeviceFault)
    → IsCalm start old → StopsFilling want old new before after why
    → IsErrOf {T = T} (Err (report_fault_of_fill why)) Read ↔ HasFailed start new
stopped_tells start old new want before after fill.Failed calm stops =
    ((λ e. calm_failed start old new calm stops.0), (λ has_failed. refl))
stopped_tells start old new want before after fill.Memory calm stops = (
  (λ e. absurd cc),
  (λ has_failed. absurd (steady_sound start old calm.steady (rw stops.0 at has_failed))),
)

-- The bytes that came are those that the draft follows, and then those of the buffer.
pub record IsReading (start now : Device) (draft : Draft) (buffer : Window) : Type 0 where
  pub read : List ℕ
  pub follows : HasRead draft read
  pub came : Gives start now (read ++ buffer.bytes)
  pub end : buffer.ended ≡ true → HasLeft now []
  pub calm : buffer.ended ≡ false → IsCalm start now
  pub steady : IsSteady start now

pub reading_taken : (start now : Device) (old new : Draft) (before after : Window) (n : ℕ)
    → IsReading start now old before → IsConsumed old new before.bytes n → after.bytes ≡ drop n before.bytes
    → after.ended ≡ before.ended → IsReading start now new after
reading_taken start now old new before after n reading taken bytes ended =
    let whole : reading.read ++ before.bytes ≡ (reading.read ++ taken.taken) ++ after.bytes =
    ap (λ (l : List ℕ). reading.read ++ l) taken.is ∙ sym (append_assoc reading.read taken.taken taken.rest)
    ∙ ap (λ (l : List ℕ). (reading.read ++ taken.taken) ++ l)
    (sym (bytes ∙ drop_taken old new before.bytes n taken)) in
    record {
      read = reading.read ++ taken.taken;
      follows = taken.follows reading.read reading.follows;
      came = rw (sym whole) reading.came;
      end = λ e. reading.end (sym ended ∙ e);
      calm = λ e. reading.calm (sym ended ∙ e);
      steady = reading.steady;
    }

-- a step that takes nothing changes nothing
pub rests : (old new : Draft) (text : List ℕ) (progress : Progress)
    → ((x : ℕ) × (progress ≡ Cut x)) ⊎ ((x : FirstLines) × (progress ≡ Whole x))
    → IsDraftStep old new text (Ok progress) → new ≡ old
rests old new text progress (inl cut) step =
    let is : IsDraftStep old new text (Ok (Cut cut.0)) =
    subst (λ (p : Progress). IsDraftStep old new text (Ok p)) cut.1 step in is.same
rests old new text progress (inr whole) step =
    let is : IsDraftStep old new text (Ok (Whole whole.0)) =
    subst (λ (p : Progress). IsDraftStep old new text (Ok p)) whole.1 step in is.same

pub reading_filled : (start old new : Device) (draft other : Draft) (before after : Window) (want : ℕ)
    → IsReading start old draft before → before.ended ≡ false → other ≡ draft
    → IsFilled want old new before after → IsReading start new other after
reading_filled start old new draft other before after want reading open_before same filled =
    let calm = reading.calm open_before in
    let onto = filled.fills.onto in
    let whole : (reading.read ++ before.bytes) ++ onto.more ≡ reading.read ++ after.bytes =
    append_assoc reading.read before.bytes onto.more ∙ ap (λ (l : List ℕ). reading.read ++ l) (sym onto.whole) in
    record {
      read = reading.read;
      follows = rw same reading.follows;
      came = rw (sym whole) (gives_append start old new (reading.read ++ before.bytes) onto.more reading.came
          onto.came);
      end = λ e. filled.end (λ ended. absurd cc) e;
      calm = λ e. calm_calm start old new calm (filled.calm e);
      steady = steady_steady start old new calm.steady filled.steady;
    }

pub reading_fault : (start now : Device) (draft : Draft) (buffer : Window) (bytes : List ℕ) (why : ReportFault)
    → IsReading start now draft buffer → bytes ≡ buffer.bytes
    → ((past more : List ℕ) → HasRead draft past → IsTextFault (past ++ (bytes ++ more)) why)
    → (text : List ℕ) × HasLeft start text × ReadsReport text (Err why)
reading_fault start now draft buffer bytes why reading is fault =
    judged start now (reading.read ++ buffer.bytes) why reading.came
    (λ more. subst (λ (t : List ℕ). IsTextFault t why)
    (ap (λ (l : List ℕ). reading.read ++ (l ++ more)) is ∙ sym (append_assoc reading.read buffer.bytes more))
    (fault reading.read more reading.follows))

-- before the first byte
pub reading_none : (start : Device) (draft : Draft) (buffer : Window) → HasRead draft []
    → buffer ≡ record { bytes = []; ended = false; room = 0 } → IsReading start start draft buffer
reading_none start draft buffer follows is = record {
  read = [];
  follows = follows;
  came = rw is (record { front = λ rest left. left });
  end = λ ended. absurd cc;
  calm = λ shut. calm_same start;
  steady = (calm_same start).steady;
}

-- How much is left to read: each turn ends the source, takes some of the bytes that stand there, or brings bytes, of
-- which few enough come to be counted.
abbrev pub left_with : Device → Window → ℕ
left_with source buffer = if buffer.ended then 0 else 2 * (2 ^ 64 - source.moved) + length buffer.bytes + 1

pub taken_less : (now : Device) (old new : Draft) (before after : Window) (n : ℕ) → before.ended ≡ false
    → IsConsumed old new before.bytes n → after.bytes ≡ drop n before.bytes → after.ended ≡ before.ended
    → left_with now after < left_with now before
taken_less now old new before after n open_before taken bytes ended =
    let open_after : after.ended ≡ false = ended ∙ open_before in
    let within = taken_within old new before.bytes n taken in
    rw (open_after, open_before) (omega (arith, taken.some, ap length bytes, length-drop n before.bytes))

pub steady_few : (start now : Device) → IsSteady start now → CountsFew start now
steady_few start now steady =
    steady_then_few start now now steady (record { failures = omega arith; interruptions = omega arith })

-- the fault of a text is no failure of its source
never_read : (result : Result Report ReportFault) (text : List ℕ) → IfErr result (IsTextFault text)
    → IsErrOf result Read → ⊥
never_read (Ok report) text fault is = absurd cc
never_read (Err (Line n)) text fault is = absurd cc
never_read (Err Read) text fault is = fault
never_read (Err Memory) text fault is = absurd cc

pub judged_tells : (start now : Device) (draft : Draft) (buffer : Window) (bytes : List ℕ) (why : ReportFault)
    → IsReading start now draft buffer
    → ((past more : List ℕ) → HasRead draft past → IsTextFault (past ++ (bytes ++ more)) why)
    → IsErrOf {T = Report} (Err why) Read ↔ HasFailed start now
judged_tells start now draft buffer bytes why reading fault = (
  λ is. absurd (never_read (Err why) (reading.read ++ (bytes ++ [])) (fault reading.read [] reading.follows) is),
  λ failed. absurd (steady_sound start now reading.steady failed),
)

-- the source has ended, so the text is what came
reads_of : (result : Result Report ReportFault) (text : List ℕ) → IfOk result (λ report. IsReadFrom report text)
    → IfErr result (IsTextFault text) → ReadsReport text result
reads_of (Ok report) text found fault = found
reads_of (Err (Line n)) text found fault = fault
reads_of (Err Read) text found fault = tt
reads_of (Err Memory) text found fault = tt

pub finished : (start now : Device) (draft : Draft) (buffer : Window) (bytes : List ℕ)
    (result : Result Report ReportFault) → IsReading start now draft buffer → buffer.ended ≡ true
    → bytes ≡ buffer.bytes
    → ((past : List ℕ) → HasRead draft past → IfOk result (λ report. IsReadFrom report (past ++ bytes)))
    → ((past : List ℕ) → HasRead draft past → IfErr result (IsTextFault (past ++ bytes)))
    → (text : List ℕ) × HasLeft start text × ReadsReport text result
finished start now draft buffer bytes result reading ended is found fault =
    let left = rw append-nil at (reading.came.front [] (reading.end ended)) in (
      reading.read ++ bytes,
      rw is left,
      reads_of result (reading.read ++ bytes) (found reading.read reading.follows)
          (fault reading.read reading.follows),
    )

pub finished_tells : (start now : Device) (draft : Draft) (buffer : Window) (bytes : List ℕ)
    (result : Result Report ReportFault) → IsReading start now draft buffer
    → ((past : List ℕ) → HasRead draft past → IfErr result (IsTextFault (past ++ bytes)))
    → IsErrOf result Read ↔ HasFailed start now
finished_tells start now draft buffer bytes result reading fault = (
  λ is. absurd (never_read result (reading.read ++ bytes) (fault reading.read reading.follows) is),
  λ failed. absurd (steady_sound start now reading.steady failed),
)
