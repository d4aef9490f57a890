use Rattle.std.proofs.Common.{◌∙◌}
use Rattle.msr_tool.proofs.repacking.repack_with.Goals as goal

pub repack_records-requires-clause-reader : goal.repack_records-requires-clause-reader
repack_records-requires-clause-reader g c =
    let r = c.new-reader.ensures in
    let same = c.settings_of.ensures.same in
    (r.none (g.R.Source.device c.args.source.now), rw same at r.following, rw same at r.strict)

pub repack_records-requires-clause-writer : goal.repack_records-requires-clause-writer
repack_records-requires-clause-writer g c =
    let w = c.new-lined.ensures in
    (w.last, w.form ∙ c.form.ensures, w.none_wait, w.none (g.W.Sink.device c.args.sink.now))
