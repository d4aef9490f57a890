use Rattle.std.proofs.Common.{arith, inl, inr}
use Rattle.msr_report_reader.proofs.lines.tolerance.Goals as goal

pub returns-in_err-n-clause-only : goal.returns-in_err-n-clause-only
returns-in_err-n-clause-only c n rest least most is = absurd (c.in_err-n.ensures.only n rest (omega arith) is)

pub returns-then-n-lt1-clause-only : goal.returns-then-n-lt1-clause-only
returns-then-n-lt1-clause-only c n rest least most is =
    let read = c.in_ok-n.ensures.only n rest (omega arith) is in
    elim c.then-n-lt1.either [
      | inl less ↦ omega (arith, read.0, less)
      | inr more ↦ omega (arith, read.0, more.1)
    ]

pub returns-clause-found : goal.returns-clause-found
returns-clause-found c = c.in_ok-n.ensures.found

pub returns-clause-only : goal.returns-clause-only
returns-clause-only c n rest least most is = (c.in_ok-n.ensures.only n rest (omega arith) is).1
