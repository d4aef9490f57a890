use Rattle.std.proofs.Common.{arith, ◌-◌}
use Rattle.msr_base.specs.declared.kinds.Kind.TheVariants.{Steim1}
use Rattle.msr_words.specs.Fit.{Fits, records_of}
use Rattle.msr_packer.proofs.EndsByKind.{from_here, from_here_alone, steim1_found}
use Rattle.msr_packer.proofs.Search.{best_kept, best_new}
use Rattle.msr_packer.proofs.step.steim1_step.Goals as goal

pub returns-then-frontier-eq0 : goal.returns-then-frontier-eq0
returns-then-frontier-eq0 c =
    steim1_found (records_of c.args.form) c.args.samples.now c.args.frontier c.args.end c.requires.chosen
    c.requires.end 1
    c.args.end c.args.frontier (omega arith)
    (from_here c.args.form.length.bytes c.args.samples.now c.args.frontier c.args.end c.requires.end)

pub returns-then-not-begins_with_four : goal.returns-then-not-begins_with_four
returns-then-not-begins_with_four c =
    steim1_found (records_of c.args.form) c.args.samples.now c.args.frontier c.args.end c.requires.chosen
    c.requires.end 2
    c.args.end c.args.frontier (omega arith)
    (from_here_alone c.args.form.length.bytes c.args.samples.now c.args.frontier c.args.end c.requires.end
    (omega arith) (c.begins_with_four.ensures c.if-not-begins_with_four.true))

pub returns-then-before-end : goal.returns-then-before-end
returns-then-before-end c =
    steim1_found (records_of c.args.form) c.args.samples.now c.args.frontier c.args.end c.requires.chosen
    c.requires.end 2
    c.steim1_reach-before.result (c.args.frontier - 1) (omega arith)
    (best_new (Fits Steim1 c.args.form.length.bytes) c.args.samples.now c.args.frontier 1 c.args.end c.args.frontier
    (from_here c.args.form.length.bytes c.args.samples.now c.args.frontier c.args.end c.requires.end)
    (c.args.frontier - 1) c.steim1_reach-before.result
    (omega arith) c.steim1_reach-before.ensures.fits c.steim1_reach-before.ensures.furthest (omega arith))

pub returns : goal.returns
returns c =
    steim1_found (records_of c.args.form) c.args.samples.now c.args.frontier c.args.end c.requires.chosen
    c.requires.end 2
    c.args.end c.args.frontier (omega arith)
    (best_kept (Fits Steim1 c.args.form.length.bytes) c.args.samples.now c.args.frontier 1 c.args.end c.args.frontier
    (from_here c.args.form.length.bytes c.args.samples.now c.args.frontier c.args.end c.requires.end)
    (c.args.frontier - 1) c.steim1_reach-before.result
    (omega arith) c.steim1_reach-before.ensures.fits c.steim1_reach-before.ensures.furthest (omega arith))
