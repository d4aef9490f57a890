use Rattle.std.proofs.Common.{refl}
use Rattle.msr_folders.proofs.files.settle.Goals as goal

pub returns-in-Err : goal.returns-in-Err
returns-in-Err g c = refl
