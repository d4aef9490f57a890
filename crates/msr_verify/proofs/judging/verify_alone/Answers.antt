use Rattle.msr_verify.proofs.Judged.{alone_cut, alone_found, alone_unread}
use Rattle.msr_verify.proofs.judging.verify_alone.Goals as goal

pub returns-in-Ok : goal.returns-in-Ok
returns-in-Ok g c =
    let a = c.in-Ok.ensures.answer in
    let b = c.verify_packed.ensures.answer in
    rw c.alone_of.ensures (alone_found b.0 a.0 c.in-Ok.report a.2 _ _ c.verify_packed.result b.1 a.1 b.2)

pub returns-in-Err-Line : goal.returns-in-Err-Line
returns-in-Err-Line g c =
    let a = c.in-Err-Line.ensures.answer in
    alone_unread _ _ a.0 c.in-Err-Line.field-0-0 a.1 (rw c.in-Err-Line.field-0-is at a.2)

pub returns-in-Err-Read : goal.returns-in-Err-Read
returns-in-Err-Read g c = alone_cut _ _ _ c.in-Err-Read.ensures.answer.0 tt c.in-Err-Read.ensures.answer.1

pub returns-in-Err-Memory : goal.returns-in-Err-Memory
returns-in-Err-Memory g c = alone_cut _ _ _ c.in-Err-Memory.ensures.answer.0 tt c.in-Err-Memory.ensures.answer.1
