use Rattle.std.proofs.Common.{◌≡◌, ◌∙◌, sym, subst, ap, Option, Some}
use Rattle.std.specs.Prelude.{slice_get}
use Rattle.std.proofs.lemmas.Option.{slice_get-get_or}
use Rattle.msr_words.specs.Fit.{records_of}
use Rattle.msr_check.specs.Judged.{Judges}
use Rattle.msr_report.specs.declared.report.SegmentLine.{SegmentLine}
use Rattle.msr_verdict.specs.Compared.{separators_of_line}
use Rattle.msr_verdict.specs.Packed.{form_by}
use Rattle.msr_verdict.proofs.Lines.{shown_at}
use Rattle.msr_verdict.proofs.agreement.Agreement.is_shown.Goals as goal

pub returns-clause-shown : goal.returns-clause-shown
returns-clause-shown c segment runs =
    let look = c.in-Some.ensures.lookup in
    let at : slice_get c.args.report.now.segments.items c.self.inside.place ≡ Some c.in-Some.line.now =
    rw c.deref.ensures.value at (slice_get-get_or c.deref.result.now c.self.inside.place c.in-Some.line.now look.3.0
    ∙ ap (λ (l : SegmentLine). Some l) (sym (look.3.1 c.in-Some.line.now))) in
    let exact = rw (c.as_slice.ensures.value, c.form_by.ensures) at (c.shows_least.ensures.exact segment.samples runs) in
    rw (← c.self.view_is) (λ is judges. shown_at
    (form_by c.args.report.now) c.self.inside.place c.args.report.now.segments.items segment runs c.in-Some.line.now
    c.shows_least.result at is
    (exact (subst (λ (line : Option SegmentLine). Judges (records_of (form_by c.args.report.now)) segment.samples runs
    (separators_of_line line) c.self.inside.judge) at judges)))
