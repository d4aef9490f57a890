use Rattle.std.proofs.Common.{◌++◌, ◌∷◌, [], map}
use Rattle.std.proofs.lemmas.List.{append-nil}
use Rattle.std.proofs.lemmas.Result.{err_from_is_err_and}
use Rattle.std.specs.Option.{option_to_list}
use Rattle.msr_record.specs.Output.{segment_of_packed}
use Rattle.msr_tool.specs.Fault.{fault_of_writing}
use Rattle.msr_tool.specs.Writing.{GoesOn, StandsWritten, StopsLining}
use Rattle.msr_tool.proofs.Lines.{lined_by, stops_lining}
use Rattle.msr_tool.proofs.lined_writer.LinedWriter.flush.Goals as goal

pub returns-in_err-flush-clause-written : goal.returns-in_err-flush-clause-written
returns-in_err-flush-clause-written g c =
    let p = err_from_is_err_and c.from_residual.result c.from_residual.ensures.1 in
    let goes = rw (← c.self.view_is) at c.requires.last in
    let form = c.self.inside.writer.form in
    let now = g.W.Sink.device c.flush.new.sink in
    let why = c.in_err-flush.field-0.0 in
    rw (p.1, p.2, ← c.self.view_is) (λ start packed current h. lined_by h
    (λ at. StopsLining form start now (map segment_of_packed packed ++ option_to_list at) (fault_of_writing why))
    (λ rows none wrote. rw (append-nil (map segment_of_packed packed)) (stops_lining form start now
    (map segment_of_packed packed) why (c.in_err-flush.ensures.written start packed rows wrote)))
    (λ segment opened is begun. let on : GoesOn form opened = rw is at goes in
    stops_lining form start now (map segment_of_packed packed ++ segment ∷ []) why
    (c.in_err-flush.ensures.begun start packed segment opened on.can begun)))

pub returns-clause-written : goal.returns-clause-written
returns-clause-written g c =
    let goes = rw (← c.self.view_is) at c.requires.last in
    rw (← c.self.view_is) (λ start packed current h. record {
      written = lined_by h
          (λ at. StandsWritten start (g.W.Sink.device c.flush.new.sink) c.flush.new.self packed at c.self.inside.last)
          (λ rows none wrote. rw none (rows, c.in_ok-flush.ensures.written start packed rows wrote))
          (λ segment opened is begun. let on : GoesOn c.self.inside.writer.form opened = rw is at goes in
          rw is (c.in_ok-flush.ensures.begun start packed segment opened on.can begun));
      are_lines = h.are_lines;
      contents = h.contents;
    })
