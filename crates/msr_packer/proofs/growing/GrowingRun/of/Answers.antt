use Rattle.std.proofs.Common.{arith}
use Rattle.msr_base.specs.Kinds.{IsChosen}
use Rattle.msr_packer.specs.Growing.{kind_of_tracker}
use Rattle.msr_packer.proofs.Streaming.{begun}
use Rattle.msr_words.specs.Fit.{records_of}
use Rattle.msr_packer.proofs.growing.GrowingRun.of.Goals as goal

pub returns-in-Some-clause-tracked : goal.returns-in-Some-clause-tracked
returns-in-Some-clause-tracked c =
    let order = c.requires.0 in
    let chosen : IsChosen c.args.form.kinds (kind_of_tracker c.new-begun.result) =
    rw c.new-begun.ensures.kind c.requires.2.0 in
    c.in-Some.ensures (records_of c.args.form) c.args.start (omega arith)
    (begun (records_of c.args.form) c.args.form.length.least c.args.samples.now c.args.start c.new-begun.result chosen
    c.new-begun.ensures.follows)

pub returns-in-None-clause-tracked : goal.returns-in-None-clause-tracked
returns-in-None-clause-tracked c =
    let order = c.requires.0 in
    let chosen : IsChosen c.args.form.kinds (kind_of_tracker c.new-begun.result) =
    rw c.new-begun.ensures.kind c.requires.2.0 in
    absurd (c.in-None.ensures (records_of c.args.form) c.args.start (omega arith)
    (begun (records_of c.args.form) c.args.form.length.least c.args.samples.now c.args.start c.new-begun.result chosen
    c.new-begun.ensures.follows)
    (rw c.new-begun.ensures.kind c.requires.2.1))
