use Rattle.std.proofs.Common.{Some, ◌∙◌, ◌∷◌, [], map, append_assoc}
use Rattle.std.proofs.lemmas.Result.{err_from_is_err_and, MatchResult-weaker}
use Rattle.std.specs.Option.{option_to_list}
use Rattle.msr_segments.specs.Segments.{row_segment}
use Rattle.msr_record.specs.Opened.{empty_segment}
use Rattle.msr_record.specs.Output.{segment_of_packed}
use Rattle.msr_tool.proofs.Lines.{stops_wider}
use Rattle.msr_tool.proofs.lined_writer.LinedWriter.take.Goals as goal

pub returns-in_err-end_last-in-Begins-clause-written : goal.returns-in_err-end_last-in-Begins-clause-written
returns-in_err-end_last-in-Begins-clause-written g c = λ start packed current h.
    let p = err_from_is_err_and c.from_residual.result c.from_residual.ensures.1 in
    let row = row_segment c.in-Some.found.row ∷ [] in
    rw (
      p.1,
      p.2,
      c.in-Some.is,
      c.in-Begins.is,
      ← append_assoc (map segment_of_packed packed) (option_to_list current) row,
    )
    (stops_wider _ start _ _ row c.in_err-end_last-in-Begins.field-0.0
    (c.in_err-end_last-in-Begins.ensures.written start packed current h))

pub returns-in_ok-end_last-in-Begins-clause-written : goal.returns-in_ok-end_last-in-Begins-clause-written
returns-in_ok-end_last-in-Begins-clause-written g c = λ start packed current h.
    let row = c.in-Some.found.row in
    let m = c.in_ok-end_last-in-Begins.ensures.written start packed current h in
    let begun = c.begin.ensures.begun start (g.W.Sink.device c.end_last.new.sink) m.all m.after in
    let wrote = rw c.as_slice.ensures at (c.push.ensures.written start m.all
    (Some (empty_segment row.key row.start)) begun) in
    let form = c.begin.ensures.form ∙ c.in_ok-end_last-in-Begins.ensures.form in
    rw (
      c.in-Some.is,
      c.in-Begins.is,
      ← append_assoc (map segment_of_packed packed) (option_to_list current) (row_segment row ∷ []),
      ← m.same,
      ← form,
    )
    (MatchResult-weaker c.push.result wrote (λ done after. record { all = m.all; same = m.same; after = after })
    (λ found stops. stops))
