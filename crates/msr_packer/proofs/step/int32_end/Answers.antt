use Rattle.std.proofs.Common.{arith}
use Rattle.msr_packer.proofs.EndsByKind.{int32_is_end}
use Rattle.msr_packer.proofs.step.int32_end.Goals as goal

pub returns : goal.returns
returns c =
    int32_is_end c.args.record_length.bytes c.args.samples.now c.args.frontier c.min.result (omega arith) c.requires
    (let m = c.min.ensures in let o = c.most.ensures in omega arith)
