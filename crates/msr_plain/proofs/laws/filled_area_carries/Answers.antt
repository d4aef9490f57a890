-- By place.
use Rattle.std.proofs.Common.{refl, ◌++◌}
use Rattle.msr_plain.specs.Plain.{bytes_of_all}
use Rattle.msr_plain.proofs.CarriedLemmas.{carried}
use Rattle.msr_plain.proofs.laws.filled_area_carries.Goals as goal

pub returns : goal.returns
returns c = λ width samples rest fit. carried width (bytes_of_all width samples ++ rest) samples rest fit refl
