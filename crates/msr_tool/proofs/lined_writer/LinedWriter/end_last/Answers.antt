use Rattle.std.proofs.Common.{◌≡◌, ◌∙◌, ◌++◌, ◌∷◌, [], map, sym, Some}
use Rattle.std.proofs.lemmas.Result.{err_from_is_err_and}
use Rattle.msr_record.specs.Output.{segment_of_packed}
use Rattle.msr_tool.specs.Writing.{GoesOn}
use Rattle.msr_tool.proofs.Lines.{last_begun, line_proper, lines_more, stops_lining, stops_pushing}
use Rattle.msr_tool.proofs.lined_writer.LinedWriter.end_last.Goals as goal

pub returns-in_err-push-clause-written : goal.returns-in_err-push-clause-written
returns-in_err-push-clause-written g c = λ start packed current h.
    let p = err_from_is_err_and c.from_residual-in_err-push.result c.from_residual-in_err-push.ensures.1 in
    let is : c.self.inside.last ≡ Some c.in-Some.segment = sym c.take.ensures.value ∙ c.in-Some.is in
    let l = rw (← c.self.view_is) at h in
    let last = last_begun start (g.W.Sink.device c.args.sink.now) c.self.inside.writer packed current
    c.in-Some.segment (rw is at l.written) in
    let wrote = c.in_ok-line.ensures.written start packed last.segment last.begun in
    rw (p.1, p.2, ← c.self.view_is, last.is) (stops_pushing c.in_ok-line.ensures.form wrote)

pub returns-clause-written : goal.returns-clause-written
returns-clause-written g c = λ start packed current h.
    let is : c.self.inside.last ≡ Some c.in-Some.segment = sym c.take.ensures.value ∙ c.in-Some.is in
    let l = rw (← c.self.view_is) at h in
    let last = last_begun start (g.W.Sink.device c.args.sink.now) c.self.inside.writer packed current
    c.in-Some.segment (rw is at l.written) in
    let wrote = c.in_ok-line.ensures.written start packed last.segment last.begun in
    let goes : GoesOn c.self.inside.writer.form c.in-Some.segment =
    rw is at (rw (← c.self.view_is) at c.requires.last) in
    let is_content = c.line_in_range.ensures
    (line_proper wrote goes.can last.begun.is_open.key last.begun.is_open.start) in
    rw (c.take.ensures.after, last.is)
    (lines_more c.self.inside.lines.items l.are_lines l.contents wrote is_content c.in_ok-push.ensures.items)

pub returns-in_err-line-clause-written : goal.returns-in_err-line-clause-written
returns-in_err-line-clause-written g c = λ start packed current h.
    let p = err_from_is_err_and c.from_residual.result c.from_residual.ensures.1 in
    let is : c.self.inside.last ≡ Some c.in-Some.segment = sym c.take.ensures.value ∙ c.in-Some.is in
    let l = rw (← c.self.view_is) at h in
    let last = last_begun start (g.W.Sink.device c.args.sink.now) c.self.inside.writer packed current
    c.in-Some.segment (rw is at l.written) in
    let wrote = rw c.in_err-line.was at (c.end.ensures.written start packed last.segment last.begun) in
    rw (p.1, p.2, ← c.self.view_is, last.is) (stops_lining c.self.inside.writer.form start
    (g.W.Sink.device c.end.new.sink) (map segment_of_packed packed ++ last.segment ∷ []) c.in_err-line.field-0.0 wrote)
