use Rattle.msr_tool.proofs.Lines.{last_begun}
use Rattle.msr_tool.proofs.lined_writer.LinedWriter.push.Goals as goal

pub returns-in_ok-push-in-Some-clause-written : goal.returns-in_ok-push-in-Some-clause-written
returns-in_ok-push-in-Some-clause-written g c = λ start packed current h.
    let l = rw (← c.self.view_is) at h in
    let last = last_begun start (g.W.Sink.device c.args.sink.now) c.self.inside.writer packed current
    c.in-Some.segment (rw c.in-Some.is at l.written) in
    let wrote = c.in_ok-push-in-Some.ensures.written start packed last.segment last.begun in
    rw last.is (record { written = wrote; are_lines = l.are_lines; contents = l.contents })
