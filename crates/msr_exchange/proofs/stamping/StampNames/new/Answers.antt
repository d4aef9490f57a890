use Rattle.std.proofs.Common.{refl}
use Rattle.msr_exchange.proofs.stamping.StampNames.new.Goals as goal

pub returns : goal.returns
returns c = rw (c.in_ok-path.ensures.ok, c.in_ok-part.ensures.ok, c.folder_above-folder.ensures) refl
