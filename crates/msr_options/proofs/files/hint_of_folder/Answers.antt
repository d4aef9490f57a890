use Rattle.std.proofs.Common.{rules}
use Rattle.msr_options.proofs.files.hint_of_folder.Goals as goal

pub returns-in-Ok : goal.returns-in-Ok
returns-in-Ok g c = search rules
