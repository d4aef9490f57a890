use Rattle.std.proofs.Common.{◌≡◌, arith, length, subst}
use Rattle.msr_words.specs.Fit.{FitsIn, IsRun, records_of}
use Rattle.msr_packer.proofs.Streaming.{growing_of, growing_reaches}
use Rattle.msr_packer.proofs.growing.GrowingRun.decide.Goals as goal

pub returns-then-found-samples-clause-decided : goal.returns-then-found-samples-clause-decided
returns-then-found-samples-clause-decided c = record {
  step = c.next_step-found.ensures.0;
  before_last = omega arith;
  past = growing_reaches (records_of c.args.form) c.args.samples.now c.args.frontier c.args.from
      c.next_step-found.result.step.end c.next_step-found.result.step.start c.args.self.now c.requires.within
      c.requires.growing c.next_step-found.ensures.0.step;
}

pub returns-in-Some-clause-open : goal.returns-in-Some-clause-open
returns-in-Some-clause-open c = λ e.
    let before = c.requires.growing.before in
    let past = c.requires.growing.past in
    record {
      before = before;
      near = c.requires.growing.near;
      past = omega arith;
      tracked = c.in-Some.ensures (records_of c.args.form) c.args.self.now.start (omega arith)
          c.requires.growing.tracked;
    }

pub returns-clause-open : goal.returns-clause-open
returns-clause-open c = λ e.
    let step = c.next_step-found.ensures.0.step in
    let within = step.reached.1 in
    let past = c.requires.growing.past in
    let same : c.next_step-found.result.step.end ≡ length c.args.samples.now = omega arith in
    growing_of (records_of c.args.form) c.args.samples.now c.args.frontier
    c.next_step-found.result.step.end c.next_step-found.result.step.start c.of.result
    (omega arith) same step c.of.ensures.start c.of.ensures.tracked

pub next_step-found-requires : goal.next_step-found-requires
next_step-found-requires c = let past = c.requires.growing.past in omega arith

-- the run to the end of the step is one to the last sample
pub of-requires : goal.of-requires
of-requires c =
    let run = c.next_step-found.ensures.0.kind in
    let within = run.1 in
    let same : c.next_step-found.result.step.end ≡ length c.args.samples.now = omega arith in
    subst (IsRun (FitsIn c.next_step-found.result.step.kind (records_of c.args.form)) c.args.samples.now
    c.next_step-found.result.step.start) same run
