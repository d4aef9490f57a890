use Rattle.msr_compare.proofs.Symbols.{opened_ahead}
use Rattle.msr_compare.proofs.ahead.Ahead.open.Goals as goal

pub returns : goal.returns
returns c =
    rw (← c.self.view_is) (opened_ahead c.self.inside.row c.self.inside.begins c.self.inside.passed)
