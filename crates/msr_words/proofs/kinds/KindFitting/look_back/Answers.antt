use Rattle.std.proofs.Common.{rules}
use Rattle.msr_words.proofs.kinds.KindFitting.look_back.Goals as goal

pub returns-in-Frames-One : goal.returns-in-Frames-One
returns-in-Frames-One c = search rules
