-- What a write buffer gives out.
use Rattle.std.specs.Prelude.{◌≡◌, ℕ, ◌+◌, ◌<◌, ◌^◌, List, ◌++◌, length}
use Rattle.msr_devices.specs.Device.{Device, Takes}

-- The sink accepted a prefix of what waited and was pushed, and the rest waits. No other bytes went through it,
-- and if some did it has accepted fewer than 2^64 in all.
pub record Passes (old new : Device) (waited pushed waits : List ℕ) : Type 0 where
  pub taken : List ℕ
  pub takes : Takes old new taken
  pub whole : waited ++ pushed ≡ taken ++ waits
  pub moved : new.moved ≡ old.moved + length taken
  pub short : 0 < length taken → new.moved < 2 ^ 64
