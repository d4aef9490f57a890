use Rattle.std.proofs.Common.{◌∙◌}
use Rattle.std.proofs.lemmas.List.{append-nil}
use Rattle.std.proofs.lemmas.Result.{err_from_is_err_and}
use Rattle.msr_tool.proofs.Lines.{written_now}
use Rattle.msr_tool.proofs.lined_writer.LinedWriter.finish.Goals as goal

pub returns-in_err-flush-clause-written : goal.returns-in_err-flush-clause-written
returns-in_err-flush-clause-written g c = λ start packed current h.
    let p = err_from_is_err_and c.from_residual-in_err-flush.result c.from_residual-in_err-flush.ensures.1 in
    let m = c.in_ok-end_last.ensures.written start packed current h in
    let stops = c.in_err-flush.ensures.written start m.all _ m.after in
    rw (p.1, p.2, ← m.same, ← c.in_ok-end_last.ensures.form) (rw (append-nil _) at stops)

pub returns-clause-written : goal.returns-clause-written
returns-clause-written g c = λ start packed current h.
    let m = c.in_ok-end_last.ensures.written start packed current h in
    let l = c.in_ok-flush.ensures.written start m.all _ m.after in
    let wrote = rw (c.flush.ensures.last ∙ c.in_ok-end_last.ensures.last) at l.written in
    rw c.replace.ensures.value (record {
      packed = m.all;
      rows = wrote.0;
      writing = c.flush.new.self.writing;
      same = m.same;
      same_form = c.flush.ensures.form ∙ c.in_ok-end_last.ensures.form;
      written = written_now c.in_ok-flush.ensures.none_wait wrote.1;
      are_lines = rw (← c.self.view_is) at l.are_lines;
      contents = rw (← c.self.view_is) at l.contents;
    })
