-- The tool's fault when reading or writing stops, and what a call did that reads and writes.
use Rattle.std.specs.Prelude.{◌↔◌, ℕ, List, Result, IsErrOf}
use Rattle.msr_report_reader.specs.declared.fault.ReportFault.{ReportFault}
use Rattle.msr_report_reader.specs.declared.fault.ReportFault.TheVariants as report
use Rattle.msr_input.specs.declared.fault.ReadFault.{ReadFault}
use Rattle.msr_input.specs.declared.fault.ReadFault.TheVariants as read
use Rattle.msr_devices.specs.Device.{Device, CountsFew, HasFailed, HasLeft, Takes}
use Rattle.msr_devices.specs.declared.fault.DeviceFault.{DeviceFault}
use Rattle.msr_devices.specs.declared.fault.DeviceFault.TheVariants as write
use Rattle.msr_tool.specs.declared.fault.ToolFault.{ToolFault}
use Rattle.msr_tool.specs.declared.fault.ToolFault.TheVariants.{Input, Report, Read, Write, Memory}

abbrev pub fault_of_reading : ReadFault → ToolFault
fault_of_reading (read.Input fault) = Input fault
fault_of_reading read.Read = Read
fault_of_reading read.Memory = Memory

abbrev pub fault_of_report : ReportFault → ToolFault
fault_of_report (report.Line line) = Report line
fault_of_report report.Read = Read
fault_of_report report.Memory = Memory

abbrev pub fault_of_writing : DeviceFault → ToolFault
fault_of_writing write.Failed = Write
fault_of_writing write.Memory = Memory

-- What a call did with a source and a sink. What it answers is so of the bytes that the source had, and of those that
-- the sink was given and accepted. A failure of a device is answered as such, and nothing else is.
pub record ReadsAndWrites {T : Type 0} (says : (input written : List ℕ) → Result T ToolFault → Type 0)
    (source0 source sink0 sink : Device) (result : Result T ToolFault) : Type 0 where
  pub answer : (input : List ℕ) × (written : List ℕ) × HasLeft source0 input × Takes sink0 sink written
      × says input written result
  pub read : IsErrOf result Read ↔ HasFailed source0 source
  pub write : IsErrOf result Write ↔ HasFailed sink0 sink
  pub few_source : CountsFew source0 source
  pub few_sink : CountsFew sink0 sink
