use Rattle.msr_sds.proofs.OneReading.{one_reading}
use Rattle.msr_sds.proofs.one_reading.Goals as goal

pub returns : goal.returns
returns c = one_reading
