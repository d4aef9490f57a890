use Rattle.std.proofs.Common.{arith}
use Rattle.msr_compare.proofs.Aheads.{more_passed}
use Rattle.msr_compare.proofs.ahead.Ahead.pass.Goals as goal

pub returns : goal.returns
returns c =
    let view = rw c.in-Some.is at c.self.view_is in
    rw c.in-Some.is (more_passed c.in-Some.row c.self.inside.begins c.self.inside.passed c.args.count
    c.min-self-inside.result view (omega arith))
