use Rattle.std.proofs.Common.{length, rules}
use Rattle.msr_words.specs.Fit.{records_of}
use Rattle.msr_check.proofs.Judging.{judges_more, none_more}
use Rattle.msr_check.proofs.judge.Judge.push.Goals as goal

pub returns-in-Some-clause-taken : goal.returns-in-Some-clause-taken
returns-in-Some-clause-taken c before runs judges =
    let judges = rw (← c.self.view_is) at judges in
    judges_more (records_of c.args.form) before c.args.samples.now runs c.args.separators.now c.args.kind _
    (judges.holds c.if-not-self.false) c.extend.new.self (length c.as_slice-end.result.now) c.in_ok-extend.ensures.taken
    (search rules) c.in-Some.next c.without.result c.saturating_sub-forgotten.result c.forget.new.self
    c.saturating_sub-forgotten.ensures c.forget.ensures c.without.ensures c.if-not-self.false
    (c.in-Some.ensures.1, c.in-Some.ensures.2)

pub returns-in-None-clause-taken : goal.returns-in-None-clause-taken
returns-in-None-clause-taken c before runs judges =
    let judges = rw (← c.self.view_is) at judges in record {
      holds = λ t. absurd cc;
      fails = λ _. none_more (records_of c.args.form) before c.args.samples.now runs c.args.separators.now c.args.kind _
          (judges.holds c.if-not-self.false) c.extend.new.self (length c.as_slice-end.result.now) c.in_ok-extend.ensures.taken
          (search rules) c.in-None.ensures;
    }
