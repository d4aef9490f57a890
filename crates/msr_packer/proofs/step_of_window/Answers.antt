-- No run needs more than one sample before the frontier.
use Rattle.msr_packer.proofs.Windows.{step_of_window}
use Rattle.msr_packer.proofs.step_of_window.Goals as goal

pub returns : goal.returns
returns c = step_of_window
