use Rattle.msr_words.specs.Fit.{records_of}
use Rattle.msr_record.proofs.OpenSegments.{match_as}
use Rattle.msr_record.proofs.opened.OpenSegment.push.Goals as goal

pub returns-clause-taken : goal.returns-clause-taken
returns-clause-taken c = λ segment runs o.
    let q = rw (← c.self.view_is) at o in
    match_as c.push_all.result (λ p. record { key = q.key; start = q.start; gives = p })
    (λ p. record { key = q.key; start = q.start; gives = p })
    (c.push_all.ensures.taken
    (records_of c.self.inside.form) segment.samples runs c.self.inside.separators.items q.gives)
