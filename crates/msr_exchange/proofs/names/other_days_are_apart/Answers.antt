use Rattle.msr_exchange.proofs.NameLemmas.{other_days}
use Rattle.msr_exchange.proofs.names.other_days_are_apart.Goals as goal

pub returns : goal.returns
returns c = other_days
