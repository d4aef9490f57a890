-- What the steps of reading do: bytes are read ahead, a record is read, and its row is followed.
use Rattle.std.specs.Prelude.{◌≡◌, ◌⊎◌, ℕ, ◌<◌, ◌≤◌, Bool, false, nat_lt, List, ◌++◌, length, Option, None, Some, IfSome, IsSomeAnd}
use Rattle.msr_time.specs.Instant.{IsInstant}
use Rattle.msr_rows.specs.Records.{IsRecordOf}
use Rattle.msr_rows.specs.declared.row.Record.{Record}
use Rattle.msr_rows.specs.declared.row.Row.{Row}
use Rattle.msr_rows.specs.declared.fault.FaultKind.{FaultKind}
use Rattle.msr_rows.specs.declared.fault.FaultKind.TheVariants as refusal
use Rattle.msr_devices.specs.Device.{Device, GivesOnto, HasFailed}
use Rattle.msr_devices.specs.ReadBuffer.{Window, IsFilled}
use Rattle.msr_devices.specs.declared.fault.DeviceFault.{DeviceFault}
use Rattle.msr_devices.specs.declared.fault.DeviceFault.TheVariants as filling
use Rattle.msr_segments.specs.Spans.{Following, Overruns, TakesStep}
use Rattle.msr_segments.specs.declared.follow.Step.{Step}
use Rattle.msr_input.specs.Input.{Agrees, IsRefusedAlone}
use Rattle.msr_input.specs.Outlines.{outline_of, outline_span}
use Rattle.msr_input.specs.Reading.{HoldsRecord, room_with}
use Rattle.msr_input.specs.Records.{Position}
use Rattle.msr_input.specs.declared.fault.ReadFault.{ReadFault}
use Rattle.msr_input.specs.declared.outline.Outline.{Outline}
use Rattle.msr_input.specs.declared.outline.RowOutline.{RowOutline}
use Rattle.msr_input.specs.declared.fault.ReadFault.TheVariants as fault

-- why reading stops if the bytes of a record did not come
abbrev pub fault_of_fill : DeviceFault → ReadFault
fault_of_fill filling.Failed = fault.Read
fault_of_fill filling.Memory = fault.Memory

-- Running out of memory is a fault of its own; every other refusal is one of the input.
abbrev pub fault_at : ℕ → FaultKind → ReadFault
fault_at offset refusal.Memory = fault.Memory
fault_at offset kind = fault.Input (record { offset = offset; kind = kind })

-- whether a refusal of `size` bytes might not be one of more bytes: a header may be cut, or its
-- chain, or the record. What stands after the header is decided by the record's own bytes, which
-- are there.
abbrev pub may_change : FaultKind → ℕ → Bool
may_change (refusal.Header reason) size = nat_lt size 1_048_576
may_change kind size = false

-- which bytes came before reading stopped: as many as there were, or some before the source failed, which had not
-- ended, after those that stood there
abbrev pub CameBefore : Device → Device → Window → Window → ReadFault → Type 0
CameBefore old new before after (fault.Input f) = IsFilled 0 old new before after
CameBefore old new before after fault.Read =
    HasFailed old new × (before.ended ≡ false) × GivesOnto old new before.bytes after.bytes
CameBefore old new before after fault.Memory = IsFilled 0 old new before after

-- Why no record was given from the bytes that came: the one at that offset is refused, whatever more comes after
-- them; they hold no whole record, and the source failed; or there was no memory, for more bytes when these fill the
-- room that there is, or for what is made of the record.
abbrev pub StopsDecoding : (takes : List ℕ → Type 0) → (strict : Bool) → Window → ℕ → ReadFault → Type 0
StopsDecoding takes strict window offset (fault.Input f) =
    (f.offset ≡ offset) × (0 < length window.bytes) × IsRefusedAlone strict window.bytes f.kind
    × (window.ended ≡ false → (rest : List ℕ) → IsRefusedAlone strict (window.bytes ++ rest) f.kind)
StopsDecoding takes strict window offset fault.Read = HoldsRecord window.bytes → ⊥
StopsDecoding takes strict window offset fault.Memory = (window.room ≤ length window.bytes) ⊎ takes window.bytes

-- a joiner takes such rows
pub record CanJoin (row : Row) : Type 0 where
  pub some : 1 ≤ length row.samples
  pub few : length row.samples ≤ 65_535
  pub start : IsInstant row.start

-- a follower takes such rows
pub record CanFollow (row : RowOutline) : Type 0 where
  pub some : 1 ≤ row.count
  pub start : IsInstant row.start

-- The bytes begin with this record, which is not refused by itself, and what was made of it stands for it.
pub record IsJudged (stands : Record → Type 0) (strict : Bool) (bytes : List ℕ) : Type 0 where
  pub found : Record
  pub stands_for : stands found
  pub is_record : IsRecordOf bytes found
  pub can_join : IfSome found.row CanJoin
  pub agrees : Agrees strict found

-- The bytes begin with such a record, and there is no more room for bytes than it needs, or than there was before.
pub record IsGiven (stands : Record → Type 0) (strict : Bool) (bytes : List ℕ) (room before : ℕ) : Type 0 where
  pub judged : IsJudged stands strict bytes
  pub room_is : room ≤ room_with judged.found.length before

-- this is the outline of the record that the bytes at this place begin with, which is not refused by itself
pub record IsRecordAhead (position : Position) (outline : Outline) (found : Record) : Type 0 where
  pub outline_is : outline ≡ outline_of found
  pub is_record : IsRecordOf position.waiting found
  pub can_join : IfSome found.row CanJoin
  pub agrees : Agrees position.strict found

-- a follower's answer for the row, which is in range
pub record FollowsRow (old : Following) (row : RowOutline) (step : Option Step) (new : Following) : Type 0 where
  pub answer : Step
  pub told : step ≡ Some answer
  pub is_step : TakesStep old (outline_span row) answer new
  pub in_range : Overruns old (outline_span row) → ⊥

-- what a record's row does with a follower: nothing, if there is none
abbrev pub FollowsIfAny : Following → Option RowOutline → Option Step → Following → Type 0
FollowsIfAny old None step new = (step ≡ None) × (new ≡ old)
FollowsIfAny old (Some row) step new = FollowsRow old row step new

-- why a row was not followed, which takes no memory: it ends its segment out of range
abbrev pub StopsFollowing : Following → Option RowOutline → ℕ → ReadFault → Type 0
StopsFollowing old row offset (fault.Input f) =
    (f.offset ≡ offset) × (f.kind ≡ refusal.TimeRange) × IsSomeAnd row (λ at. Overruns old (outline_span at))
StopsFollowing old row offset fault.Read = ⊥
StopsFollowing old row offset fault.Memory = ⊥
