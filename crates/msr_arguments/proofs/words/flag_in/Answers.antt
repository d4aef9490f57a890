use Rattle.msr_arguments.proofs.Named.{flag_read}
use Rattle.msr_arguments.proofs.words.flag_in.Goals as goal

pub returns : goal.returns
returns c = flag_read _ _ c.get_flag.ensures.none c.get_flag.ensures.value c.get_flag.ensures.other
