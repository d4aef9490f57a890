-- What a writer of segments shows, and what writing does.
use Rattle.std.specs.Prelude.{◌≡◌, ℕ, ◌+◌, ◌<◌, ◌^◌, List, [], ◌∷◌, ◌++◌, length}
use Rattle.std.specs.List.{flat_map}
use Rattle.msr_devices.specs.Device.{Device, Takes, HasFailed, IsCalm, IsSteady}
use Rattle.msr_base.specs.declared.forms.Form.{Form}
use Rattle.msr_words.specs.declared.kinds.Run.{Run}
use Rattle.msr_rows.specs.declared.row.Row.{Row}
use Rattle.msr_segments.specs.declared.joiner.Segment.{Segment}
use Rattle.msr_report.specs.declared.report.SegmentLine.{SegmentLine}
use Rattle.msr_record.specs.Output.{Packed, Cut, IsRecordOfRun, AreWritten, IsOutput, IsPrefixOfOutput, number_after, cuts_of}
use Rattle.msr_devices.specs.declared.fault.DeviceFault.{DeviceFault}
use Rattle.msr_devices.specs.declared.fault.DeviceFault.TheVariants.{Failed, Memory}

-- what a writer shows: the form of its records, the next sequence number, and the bytes that wait
pub record Writing : Type 0 where
  pub form : Form
  pub number : ℕ
  pub waiting : List ℕ

-- After the old bytes the new ones have the record of the run.
pub record AppendsRecordOfRun (size number : ℕ) (segment : Segment) (run : Run) (old new : List ℕ) : Type 0 where
  pub row : Row
  pub bytes : List ℕ
  pub joined : new ≡ old ++ bytes
  pub is_record : IsRecordOfRun size number segment run row bytes

-- After the old bytes the new ones have the records of these cuts, from this sequence number on to before the next.
pub record AppendsRecords (size number : ℕ) (cuts : List Cut) (old new : List ℕ) (next : ℕ) : Type 0 where
  pub rows : List Row
  pub bytes : List ℕ
  pub joined : new ≡ old ++ bytes
  pub written : AreWritten size number cuts rows bytes
  pub after : next ≡ number_after number cuts

-- the line of a segment that is packed so
pub record IsLineOf (packed : Packed) (line : SegmentLine) : Type 0 where
  pub key : line.key ≡ packed.segment.key
  pub start : line.start ≡ packed.segment.start
  pub samples : line.samples ≡ length packed.segment.samples
  pub records : line.records ≡ length packed.runs
  pub separators : line.separators.items ≡ packed.separators

-- From the one state of the sink to the other a prefix of the output of these segments was written; the rest waits.
pub record HasWritten (start now : Device) (writing : Writing) (packed : List Packed) (rows : List Row) : Type 0 where
  pub bytes : List ℕ
  pub taken : List ℕ
  pub output : IsOutput writing.form packed rows bytes
  pub next : writing.number ≡ number_after 1 (flat_map cuts_of packed)
  pub takes : Takes start now taken
  pub whole : bytes ≡ taken ++ writing.waiting
  pub moved : now.moved ≡ start.moved + length taken
  pub short : 0 < length taken → now.moved < 2 ^ 64
  pub calm : IsCalm start now

-- all of the output of these segments was written, and it has fewer than 2^64 bytes
pub record HasWrittenAll (start now : Device) (writing : Writing) (packed : List Packed)
    (rows : List Row) : Type 0 where
  pub bytes : List ℕ
  pub output : IsOutput writing.form packed rows bytes
  pub takes : Takes start now bytes
  pub short : length bytes < 2 ^ 64
  pub calm : IsCalm start now

-- the segment was packed and stands after the others, and this is its line
pub record WritesSegment (start now : Device) (writing : Writing) (packed : List Packed) (segment : Segment)
    (line : SegmentLine) : Type 0 where
  pub more : Packed
  pub rows : List Row
  pub same : more.segment ≡ segment
  pub written : HasWritten start now writing (packed ++ more ∷ []) rows
  pub is_line : IsLineOf more line

-- a prefix of the output of some first ones of these segments was written
pub record HasWrittenPrefix (form : Form) (start now : Device) (segments : List Segment) : Type 0 where
  pub taken : List ℕ
  pub takes : Takes start now taken
  pub prefix : IsPrefixOfOutput form segments taken

-- The sink failed; or memory was refused, and the sink did not fail.
abbrev pub StopsWriting : Form → Device → Device → List Segment → DeviceFault → Type 0
StopsWriting form start now segments Failed = HasWrittenPrefix form start now segments × HasFailed start now
StopsWriting form start now segments Memory = HasWrittenPrefix form start now segments × IsSteady start now
