-- By the fields.
use Rattle.msr_steim.proofs.OneList.{holds_one, undefined_holds_none}
use Rattle.msr_steim.proofs.word.holds_one_list.Goals as goal

pub returns : goal.returns
returns c = record { one = holds_one; none = undefined_holds_none }
