use Rattle.std.proofs.Common.{◌∙◌}
use Rattle.std.proofs.lemmas.Result.{err_from_is_err_and}
use Rattle.msr_record.specs.Opened.{longer_by}
use Rattle.msr_record.proofs.OpenSegments.{begun_failed, begun_longer, begun_more, can_longer, refused_longer, refused_now, writable_longer}
use Rattle.msr_record.proofs.writer.SegmentWriter.push.Goals as goal

pub returns-in_err-push-clause-written : goal.returns-in_err-push-clause-written
returns-in_err-push-clause-written g c = λ start packed before h.
    let p = err_from_is_err_and c.from_residual.result c.from_residual.ensures.1 in
    let writable = writable_longer c.args.segment.now before h.runs c.args.samples.now h.is_open
    c.requires.can.writable h.samples c.samples_have_32_bits.ensures c.requires.in_time in
    rw (p.1, p.2) (refused_longer start _ _ packed before c.args.samples.now c.args.segment.now writable h)

pub encode_runs-requires-clause-can : goal.encode_runs-requires-clause-can
encode_runs-requires-clause-can g c =
    let can = c.requires.can in
    can_longer c.args.segment.now c.push.new.self can c.args.samples.now
    (c.in_ok-push.ensures.taken can.segment can.runs can.is_open) c.push.ensures.key
    c.requires.in_time

pub returns-in_err-self-inside-clause-written : goal.returns-in_err-self-inside-clause-written
returns-in_err-self-inside-clause-written g c = λ start packed before h.
    let p = err_from_is_err_and c.from_residual-in_err-self-inside.result
    c.from_residual-in_err-self-inside.ensures.1 in
    let was = rw (← c.self.view_is) at h in
    let writable = writable_longer c.args.segment.now before h.runs c.args.samples.now h.is_open
    c.requires.can.writable h.samples c.samples_have_32_bits.ensures c.requires.in_time in
    let begun = begun_longer start _ _ packed before c.args.samples.now c.args.segment.now c.push.new.self
    was c.samples_have_32_bits.ensures c.push.ensures.form
    (c.in_ok-push.ensures.taken before was.runs was.is_open) in
    rw (p.1, p.2, ← c.self.view_is) (refused_now start _ _ packed
    (longer_by before c.args.samples.now) c.push.new.self writable begun)

pub returns-in_err-flush_full-clause-written : goal.returns-in_err-flush_full-clause-written
returns-in_err-flush_full-clause-written g c = λ start packed before h.
    let p = err_from_is_err_and c.from_residual-in_err-flush_full.result c.from_residual-in_err-flush_full.ensures.1 in
    let was = rw (← c.self.view_is) at h in
    let writable = writable_longer c.args.segment.now before h.runs c.args.samples.now h.is_open
    c.requires.can.writable h.samples c.samples_have_32_bits.ensures c.requires.in_time in
    let begun = begun_longer start _ _ packed before c.args.samples.now c.args.segment.now c.push.new.self
    was c.samples_have_32_bits.ensures c.push.ensures.form
    (c.in_ok-push.ensures.taken before was.runs was.is_open) in
    let a = c.in_ok-self-inside.ensures.appends (longer_by before c.args.samples.now) begun.runs begun.is_open in
    rw (p.1, p.2, ← c.self.view_is) (begun_failed start _ _ _ packed
    (longer_by before c.args.samples.now) c.push.new.self c.encode_runs.new.self _ c.encode_runs.new.out.items
    _ c.in_ok-self-inside.field-0 writable c.encode_runs.ensures.form begun a.some
    c.in_err-flush_full.ensures.passes c.in_err-flush_full.ensures.failed)

pub returns-clause-written : goal.returns-clause-written
returns-clause-written g c = λ start packed before h.
    let was = rw (← c.self.view_is) at h in
    let begun = begun_longer start _ _ packed before c.args.samples.now c.args.segment.now c.push.new.self
    was c.samples_have_32_bits.ensures c.push.ensures.form
    (c.in_ok-push.ensures.taken before was.runs was.is_open) in
    let a = c.in_ok-self-inside.ensures.appends (longer_by before c.args.samples.now) begun.runs begun.is_open in
    begun_more start _ _ _ packed
    (longer_by before c.args.samples.now) c.push.new.self c.encode_runs.new.self c.encode_runs.new.out.items _
    c.in_ok-self-inside.field-0 c.encode_runs.ensures.form begun a.some c.in_ok-flush_full.ensures.passes
    c.in_ok-flush_full.ensures.calm

pub returns-in_err-self-inside-clause-same : goal.returns-in_err-self-inside-clause-same
returns-in_err-self-inside-clause-same g c = (
  c.encode_runs.ensures.form ∙ c.push.ensures.form,
  c.encode_runs.ensures.key ∙ c.push.ensures.key,
  c.encode_runs.ensures.start ∙ c.push.ensures.start,
)

pub returns-in_err-flush_full-clause-same : goal.returns-in_err-flush_full-clause-same
returns-in_err-flush_full-clause-same g c = (
  c.encode_runs.ensures.form ∙ c.push.ensures.form,
  c.encode_runs.ensures.key ∙ c.push.ensures.key,
  c.encode_runs.ensures.start ∙ c.push.ensures.start,
)

pub returns-clause-same : goal.returns-clause-same
returns-clause-same g c = (
  c.encode_runs.ensures.form ∙ c.push.ensures.form,
  c.encode_runs.ensures.key ∙ c.push.ensures.key,
  c.encode_runs.ensures.start ∙ c.push.ensures.start,
)
