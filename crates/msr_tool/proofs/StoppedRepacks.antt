-- What is answered when repacking stops.
use Rattle.std.proofs.Common.{◌↔◌, ℕ, List, refl, arith, Result, Ok, Err, IsErrOf}
use Rattle.msr_segments.specs.declared.joiner.Segment.{Segment}
use Rattle.msr_devices.specs.Device.{Device, CountsFew, HasLeft, Takes, HasFailed, IsSteady}
use Rattle.msr_devices.proofs.Chaining.{steady_sound, steady_then_few}
use Rattle.msr_input.specs.Reading.{StopsAfter, StopsReading}
use Rattle.msr_input.specs.declared.settings.Settings.{Settings}
use Rattle.msr_input.specs.declared.fault.ReadFault.{ReadFault}
use Rattle.msr_input.specs.declared.fault.ReadFault.TheVariants as read
use Rattle.msr_record.specs.Writing.{HasWrittenPrefix}
use Rattle.msr_options.specs.Choice.{Choice, form_chosen}
use Rattle.msr_tool.specs.Settings.{settings_of}
use Rattle.msr_tool.specs.Fault.{ReadsAndWrites, fault_of_reading}
use Rattle.msr_tool.specs.Writing.{StopsSink, StopsLining}
use Rattle.msr_tool.specs.Answer.{IsRefusedAt, IsStopped, Answers}
use Rattle.msr_tool.specs.declared.fault.ToolFault.{ToolFault}
use Rattle.msr_tool.specs.declared.fault.ToolFault.TheVariants as fault
use Rattle.msr_tool.proofs.Lines.{prefix_more, stops_by}

-- what is answered, for some input and some bytes written
abbrev pub IsAnswered : {T : Type 0} → (List ℕ → List ℕ → Result T ToolFault → Type 0) → Device → Device → Device
    → Result T ToolFault → Type 0
IsAnswered says source0 sink0 sink result = (input : List ℕ) × (written : List ℕ) × HasLeft source0 input
    × Takes sink0 sink written × says input written result

module _ (choice : Choice) (source0 sink0 sink : Device) (given : List Segment) where
  stopped : StopsAfter (settings_of choice) source0 given → HasWrittenPrefix (form_chosen choice) sink0 sink given
      → IsAnswered (Answers choice) source0 sink0 sink (Err fault.Read)
  stopped h prefix =
      let wide = prefix_more h.begun.others prefix in
      let is : IsStopped choice h.input wide.taken = search in
      (h.input, wide.taken, h.left, wide.takes, is)

  -- no further segment is read
  pub read_failed : (source : Device) (why : ReadFault) → StopsReading (settings_of choice) source0 source given why
      → HasWrittenPrefix (form_chosen choice) sink0 sink given
      → IsAnswered (Answers choice) source0 sink0 sink (Err (fault_of_reading why))
  read_failed source (read.Input other) h prefix =
      let wide = prefix_more h.0.begun.others prefix in
      let is : IsRefusedAt choice h.0.input wide.taken other = search in
      (h.0.input, wide.taken, h.0.left, wide.takes, is)
  read_failed source read.Read h prefix = stopped h.0 prefix
  read_failed source read.Memory h prefix = stopped h.0 prefix

  -- a segment is not written
  pub write_failed : (found : ToolFault) → StopsAfter (settings_of choice) source0 given
      → StopsLining (form_chosen choice) sink0 sink given found
      → IsAnswered (Answers choice) source0 sink0 sink (Err found)
  write_failed found after =
      stops_by _ _ sink0 sink (λ found. IsAnswered (Answers choice) source0 sink0 sink (Err found))
      (λ h. stopped after h.0) (λ h. stopped after h.0) found

-- a device that is steady has not failed
steady_tells : {E : Type 0} (old new : Device) → (E → ⊥) → IsSteady old new → E ↔ HasFailed old new
steady_tells old new none steady =
    ((λ e. absurd (none e)), (λ has_failed. absurd (steady_sound old new steady has_failed)))

-- the source failed if reading says so
read_tells_source : {T : Type 0} (settings : Settings) (source0 source : Device) (given : List Segment)
    (why : ReadFault) → StopsReading settings source0 source given why
    → IsErrOf {T = T} (Err (fault_of_reading why)) fault.Read ↔ HasFailed source0 source
read_tells_source settings source0 source given (read.Input other) h = steady_tells source0 source (λ e. cc) h.1
read_tells_source settings source0 source given read.Read h = ((λ e. h.1), (λ has_failed. refl))
read_tells_source settings source0 source given read.Memory h = steady_tells source0 source (λ e. cc) h.1

-- reading did not fail the sink
read_tells_sink : {T : Type 0} (sink0 sink : Device) (why : ReadFault) → IsSteady sink0 sink
    → IsErrOf {T = T} (Err (fault_of_reading why)) fault.Write ↔ HasFailed sink0 sink
read_tells_sink sink0 sink (read.Input other) steady = steady_tells sink0 sink (λ e. cc) steady
read_tells_sink sink0 sink read.Read steady = steady_tells sink0 sink (λ e. cc) steady
read_tells_sink sink0 sink read.Memory steady = steady_tells sink0 sink (λ e. cc) steady

module _ {T : Type 0} (failed refused : Type 0) (sink0 sink : Device) (found : ToolFault)
    (h : StopsSink failed refused sink0 sink found) where
  -- the sink failed if writing says so
  write_tells_sink : IsErrOf {T = T} (Err found) fault.Write ↔ HasFailed sink0 sink
  write_tells_sink = stops_by failed refused sink0 sink
      (λ found. IsErrOf {T = T} (Err found) fault.Write ↔ HasFailed sink0 sink)
      (λ h. ((λ e. h.1), (λ has_failed. refl))) (λ h. steady_tells sink0 sink (λ e. cc) h.1) found h

  -- and nothing is a fault of a read
  pub write_unread : {P : Type 0} → IsErrOf {T = T} (Err found) fault.Read → P
  write_unread {P} = stops_by failed refused sink0 sink (λ found. IsErrOf {T = T} (Err found) fault.Read → P)
      (λ h e. absurd cc) (λ h e. absurd cc) found h

-- no device failed
pub ok_unread : {T P : Type 0} (value : T) (found : ToolFault) → IsErrOf (Ok value) found → P
ok_unread value found e = absurd cc

pub ok_tells : {T : Type 0} (old new : Device) (value : T) (found : ToolFault) → IsSteady old new
    → IsErrOf (Ok value) found ↔ HasFailed old new
ok_tells old new value found steady = steady_tells old new (ok_unread value found) steady

-- ---- what a call did with its devices, by why it ended

steady_few : (old new : Device) → IsSteady old new → CountsFew old new
steady_few old new steady =
    steady_then_few old new new steady (record { failures = omega arith; interruptions = omega arith })

module _ {T : Type 0} {says : List ℕ → List ℕ → Result T ToolFault → Type 0} {source0 source sink0 sink : Device}
    (steady : IsSteady source0 source) (still : IsSteady sink0 sink) where
  -- reading stopped
  pub read_ends : {source' : Device} (settings : Settings) (given : List Segment) (why : ReadFault)
      → CountsFew source source' → StopsReading settings source0 source' given why
      → IsAnswered says source0 sink0 sink (Err (fault_of_reading why))
      → ReadsAndWrites says source0 source' sink0 sink (Err (fault_of_reading why))
  read_ends {source'} settings given why few stops answer = record {
    answer = answer;
    read = read_tells_source settings source0 source' given why stops;
    write = read_tells_sink sink0 sink why still;
    few_source = steady_then_few source0 source source' steady few;
    few_sink = steady_few sink0 sink still;
  }

  -- writing stopped
  pub write_ends : {sink' : Device} (failed refused : Type 0) (found : ToolFault) → CountsFew sink sink'
      → StopsSink failed refused sink0 sink' found → IsAnswered says source0 sink0 sink' (Err found)
      → ReadsAndWrites says source0 source sink0 sink' (Err found)
  write_ends {sink'} failed refused found few stops answer = record {
    answer = answer;
    read = steady_tells source0 source (write_unread failed refused sink0 sink' found stops) steady;
    write = write_tells_sink failed refused sink0 sink' found stops;
    few_source = steady_few source0 source steady;
    few_sink = steady_then_few sink0 sink sink' still few;
  }

  -- all was read and written
  pub all_ends : (value : T) → IsAnswered says source0 sink0 sink (Ok value)
      → ReadsAndWrites says source0 source sink0 sink (Ok value)
  all_ends value answer = record {
    answer = answer;
    read = ok_tells source0 source value fault.Read steady;
    write = ok_tells sink0 sink value fault.Write still;
    few_source = steady_few source0 source steady;
    few_sink = steady_few sink0 sink still;
  }
