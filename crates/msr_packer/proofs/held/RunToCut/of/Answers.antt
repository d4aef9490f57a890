use Rattle.std.proofs.Common.{arith, ◌-◌}
use Rattle.msr_words.specs.Fit.{FitsIn, records_of}
use Rattle.msr_words.proofs.AnyKind.{prefix_in}
use Rattle.msr_words.proofs.Runs.{prefix_run}
use Rattle.msr_packer.specs.HeldSamples.{frontier_of}
use Rattle.msr_packer.proofs.Least.{goes_on}
use Rattle.msr_packer.proofs.held.RunToCut.of.Goals as goal

pub overflow_sub-end : goal.overflow_sub-end
overflow_sub-end c =
    let on = goes_on (records_of c.args.form) c.args.samples.now c.args.form.length.least
    (frontier_of c.args.current) c.args.found.step.end c.args.found.step.start c.requires.inside c.requires.step.step in
    omega arith

pub kind_of-requires-2-clause-fits : goal.kind_of-requires-2-clause-fits
kind_of-requires-2-clause-fits c =
    let before = c.requires.step.step.before in
    let on = goes_on (records_of c.args.form) c.args.samples.now c.args.form.length.least
    (frontier_of c.args.current) c.args.found.step.end c.args.found.step.start c.requires.inside c.requires.step.step in
    prefix_run (FitsIn c.args.found.step.kind (records_of c.args.form))
    (prefix_in c.args.found.step.kind (records_of c.args.form)) c.args.samples.now c.args.found.step.start
    (c.args.found.step.end - 1) c.args.found.step.end (omega arith) (omega arith) c.requires.step.kind

pub returns-clause-sizes : goal.returns-clause-sizes
returns-clause-sizes c = λ sizes words is.
    c.groups_of.ensures c.args.samples.now sizes words (rw c.frontier_of-frontier.ensures is)

pub returns-clause-next : goal.returns-clause-next
returns-clause-next c = record {
  frontier = c.frontier_of-frontier.ensures;
  inside = rw c.frontier_of-frontier.ensures c.requires.inside;
  step = rw c.frontier_of-frontier.ensures c.requires.step.step;
  whole = c.kind_of.ensures;
  short = c.kind_of-2.ensures;
}
