use Rattle.std.proofs.Common.{◌∙◌, ◌++◌, refl, sym}
use Rattle.std.proofs.lemmas.Result.{err_from_is_err_and}
use Rattle.msr_record.proofs.OpenSegments.{begun_failed, begun_whole, open_end, packs_count, refused_now, writable_now}
use Rattle.msr_record.proofs.Existing.{is_packed_by}
use Rattle.msr_record.proofs.writer.SegmentWriter.end.Goals as goal

pub returns-in_err-self-inside-clause-written : goal.returns-in_err-self-inside-clause-written
returns-in_err-self-inside-clause-written g c = λ start packed all h.
    let p = err_from_is_err_and c.from_residual.result c.from_residual.ensures.1 in
    let was = rw (← c.self.view_is) at h in
    let writable = writable_now c.args.segment c.requires.can all h.runs h.is_open h.samples in
    rw (p.1, p.2, ← c.self.view_is) (refused_now start _ _ packed all c.args.segment writable was)

pub returns-in_err-flush_full-clause-written : goal.returns-in_err-flush_full-clause-written
returns-in_err-flush_full-clause-written g c = λ start packed all h.
    let p = err_from_is_err_and c.from_residual-in_err-flush_full.result c.from_residual-in_err-flush_full.ensures.1 in
    let was = rw (← c.self.view_is) at h in
    let writable = writable_now c.args.segment c.requires.can all h.runs h.is_open h.samples in
    let a = c.in_ok-self-inside.ensures.appends all was.runs (open_end all was.runs c.args.segment was.is_open) in
    rw (p.1, p.2, ← c.self.view_is)
    (begun_failed start _ _ _ packed all c.args.segment c.encode_runs.new.self _ c.encode_runs.new.out.items _
    c.in_ok-self-inside.field-0 writable c.encode_runs.ensures.form was a.some
    c.in_err-flush_full.ensures.passes c.in_err-flush_full.ensures.failed)

pub returns-clause-written : goal.returns-clause-written
returns-clause-written g c = λ start packed all h.
    let was = rw (← c.self.view_is) at h in
    let a = c.in_ok-self-inside.ensures.appends all was.runs (open_end all was.runs c.args.segment was.is_open) in
    let canonical = rw (c.encode_runs.ensures.form ∙ was.form) at a.all refl in
    let is_packed = is_packed_by c.self.inside.form all (was.runs ++ a.some.more)
    c.encode_runs.new.self.separators canonical in
    record {
      more = record { segment = all; runs = was.runs ++ a.some.more; separators = c.encode_runs.new.self.separators };
      rows = _;
      same = refl;
      written = begun_whole start _ _ _ packed all c.args.segment c.encode_runs.new.self
          c.encode_runs.new.out.items _ c.in_ok-self-inside.field-0 c.encode_runs.ensures.form was a.some
          canonical c.in_ok-flush_full.ensures.passes c.in_ok-flush_full.ensures.calm;
      is_line = record {
        key = c.line.ensures.key ∙ a.some.is_open.key;
        start = c.line.ensures.start ∙ a.some.is_open.start;
        samples = c.line.ensures.samples ∙ c.encode_runs.ensures.count
            ∙ packs_count c.args.segment.form all.samples was.runs c.args.segment.separators c.args.segment.packer
            was.is_open.gives;
        records = c.line.ensures.records ∙ sym is_packed.as_many;
        separators = c.line.ensures.separators;
      };
    }
