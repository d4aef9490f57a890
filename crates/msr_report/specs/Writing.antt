-- What a sink took of a text.
use Rattle.std.specs.Prelude.{◌≡◌, ℕ, List, ◌++◌}
use Rattle.msr_devices.specs.Device.{Device, Takes}

-- The sink took a prefix of the text.
pub record TakesPrefix (old new : Device) (text : List ℕ) : Type 0 where
  pub taken : List ℕ
  pub rest : List ℕ
  pub takes : Takes old new taken
  pub whole : text ≡ taken ++ rest
