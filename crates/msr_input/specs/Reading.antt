-- What reading does, and why it stops.
use Rattle.std.specs.Prelude.{◌≡◌, ℕ, ◌*◌, ◌≤◌, max, false, List, length, IsTrue, Ok}
use Rattle.msr_header.specs.Reading.{header_of, is_quality}
use Rattle.msr_header.specs.declared.header.Header.{Header}
use Rattle.msr_rows.specs.Correction.{is_pending}
use Rattle.msr_rows.specs.declared.row.Record.{Record}
use Rattle.msr_devices.specs.Device.{Device, HasLeft, HasFailed, IsSteady}
use Rattle.msr_segments.specs.Segments.{SegmentIsInTime}
use Rattle.msr_segments.specs.declared.joiner.Segment.{Segment}
use Rattle.msr_base.specs.declared.counts.Counts.{Counts}
use Rattle.msr_input.specs.Input.{AreRead, IsReadable, IsFirstFault, HaveBegun, counts_of}
use Rattle.msr_input.specs.declared.settings.Settings.{Settings}
use Rattle.msr_input.specs.declared.fault.Fault.{Fault}
use Rattle.msr_input.specs.declared.fault.ReadFault.{ReadFault}
use Rattle.msr_input.specs.declared.fault.ReadFault.TheVariants.{Input, Read, Memory}

-- The bytes begin with a whole record, by its header: what it is read as, be it refused or not, is decided.
abbrev pub HoldsRecord : List ℕ → Type 0
HoldsRecord bytes = (header : Header) × (header_of bytes ≡ Ok header)

-- for how many bytes there is room at most once a record of `size` bytes was awaited: for 64 KiB,
-- or for twice as many as the record has, or for as many as before
abbrev pub room_with : ℕ → ℕ → ℕ
room_with size before = max (max before 65_536) (2 * size)

-- the segment can be written: its quality is D, R, Q or M, its correction in normal form, its samples are of
-- the supported years, and it has some
pub record IsWritable (segment : Segment) : Type 0 where
  pub quality : IsTrue (is_quality segment.key.quality)
  pub normal : is_pending segment.key.activity segment.key.correction ≡ false
  pub in_time : SegmentIsInTime segment
  pub some : 1 ≤ length segment.samples

-- Some first records of the input are read; the segments given are the first ones of theirs.
pub record StopsAfter (settings : Settings) (start : Device) (given : List Segment) : Type 0 where
  pub input : List ℕ
  pub records : List Record
  pub rest : List ℕ
  pub left : HasLeft start input
  pub are_read : AreRead settings input records rest
  pub begun : HaveBegun settings.tolerance records given

-- The next record is the input's first fault; the segments given are the first ones of the rows before it.
pub record StopsAtFault (settings : Settings) (start : Device) (given : List Segment) (fault : Fault) : Type 0 where
  pub input : List ℕ
  pub records : List Record
  pub left : HasLeft start input
  pub first : IsFirstFault settings input records fault
  pub begun : HaveBegun settings.tolerance records given

-- why no segment was given
abbrev pub StopsReading : Settings → Device → Device → List Segment → ReadFault → Type 0
StopsReading settings start now given (Input fault) = StopsAtFault settings start given fault × IsSteady start now
StopsReading settings start now given Read = StopsAfter settings start given × HasFailed start now
StopsReading settings start now given Memory = StopsAfter settings start given × IsSteady start now

-- the source's bytes are a readable input, these are its segments, and these its counts
pub record GaveReadable (start : Device) (settings : Settings) (segments : List Segment)
    (counts : Counts) : Type 0 where
  pub input : List ℕ
  pub records : List Record
  pub left : HasLeft start input
  pub readable : IsReadable settings input records segments
  pub counted : counts ≡ counts_of records
