use Rattle.msr_compare.proofs.ComparedInputs.{drained_readable, keeps}
use Rattle.msr_compare.proofs.Draining.{steady_few}
use Rattle.msr_compare.proofs.comparing.refuse.Goals as goal

pub returns-in-Ok-clause-refused : goal.returns-in-Ok-clause-refused
returns-in-Ok-clause-refused g c = λ begun settings start done h.
    let d = c.in-Ok.ensures.drained begun settings start done h in
    keeps c.in-Input.is d.steady (drained_readable d)

pub returns-in-Err-clause-refused : goal.returns-in-Err-clause-refused
returns-in-Err-clause-refused g c = λ begun settings start done h.
    (c.in-Err.ensures.drained begun settings start done h, rw c.in-Input.is tt)

pub returns-in-Read-clause-refused : goal.returns-in-Read-clause-refused
returns-in-Read-clause-refused g c = λ begun settings start done h. keeps c.in-Read.is h.read.came.steady tt

pub returns-in-Read-clause-few : goal.returns-in-Read-clause-few
returns-in-Read-clause-few g c = λ settings start done h. steady_few h.read.came.steady

pub returns-in-Memory-clause-refused : goal.returns-in-Memory-clause-refused
returns-in-Memory-clause-refused g c = λ begun settings start done h. keeps c.in-Memory.is h.read.came.steady tt

pub returns-in-Memory-clause-few : goal.returns-in-Memory-clause-few
returns-in-Memory-clause-few g c = λ settings start done h. steady_few h.read.came.steady
