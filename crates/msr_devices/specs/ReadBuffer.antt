-- What stands in a read buffer, and what filling it does.
use Rattle.std.specs.Prelude.{◌≡◌, ℕ, ◌*◌, ◌^◌, ◌<◌, ◌≤◌, Bool, true, false, nat_le, if◌then◌else◌, max, List, [], length}
use Rattle.msr_devices.specs.Device.{Device, HasLeft, GivesOnto, HasFailed, IsCalm, IsSteady}
use Rattle.msr_devices.specs.declared.fault.DeviceFault.{DeviceFault}
use Rattle.msr_devices.specs.declared.fault.DeviceFault.TheVariants.{Failed, Memory}

-- the bytes that were read and not yet consumed; whether none are left after them; and for how many bytes
-- there is memory
pub record Window : Type 0 where
  pub bytes : List ℕ
  pub ended : Bool
  pub room : ℕ

-- for how many bytes there is memory once `want` bytes are wanted: it grows only if they do not
-- fit, then to 64 KiB at least and to twice as much
abbrev pub room_for : ℕ → ℕ → ℕ
room_for want room = if nat_le want room then room else max want (max (2 * room) 65_536)

-- Some bytes came from the source and stand after those that were there. Memory is never given back.
pub record Fills (old new : Device) (before after : Window) : Type 0 where
  pub onto : GivesOnto old new before.bytes after.bytes
  pub short : length before.bytes < length after.bytes → new.moved < 2 ^ 64
  pub keeps : before.room ≤ after.room

-- As many bytes stand there as are wanted, or all that the source had.
pub record IsFilled (want : ℕ) (old new : Device) (before after : Window) : Type 0 where
  pub fills : Fills old new before after
  pub enough : after.ended ≡ false → want ≤ length after.bytes
  pub stays : before.ended ≡ true → after.ended ≡ true
  pub end : (before.ended ≡ true → HasLeft old []) → after.ended ≡ true → HasLeft new []
  pub calm : after.ended ≡ false → IsCalm old new
  pub steady : IsSteady old new

-- The source failed: what came before it did stands there, and is less than was wanted. Or the memory was refused
-- that the bytes wanted take: then nothing was read.
abbrev pub StopsFilling : ℕ → Device → Device → Window → Window → DeviceFault → Type 0
StopsFilling want old new before after Failed =
    HasFailed old new × Fills old new before after × (before.ended ≡ false) × (after.ended ≡ false)
    × (length after.bytes < want)
StopsFilling want old new before after Memory = (new ≡ old) × (after ≡ before) × (before.room < want)
