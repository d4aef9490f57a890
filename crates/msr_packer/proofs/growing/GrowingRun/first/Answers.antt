use Rattle.std.proofs.Common.{arith}
use Rattle.msr_base.specs.Kinds.{IsChosen}
use Rattle.msr_packer.specs.Growing.{kind_of_tracker}
use Rattle.msr_packer.proofs.Streaming.{begun}
use Rattle.msr_words.specs.Fit.{records_of}
use Rattle.msr_packer.proofs.growing.GrowingRun.first.Goals as goal

pub returns-in-Some : goal.returns-in-Some
returns-in-Some c =
    let chosen : IsChosen c.args.form.kinds (kind_of_tracker c.new-begun.result) =
    rw c.new-begun.ensures.kind c.tried_first.ensures.chosen in
    record {
      before = omega arith;
      near = omega arith;
      past = omega arith;
      tracked = c.in-Some.ensures (records_of c.args.form) c.args.frontier (omega arith)
          (begun (records_of c.args.form) c.args.form.length.least c.args.samples.now c.args.frontier
          c.new-begun.result chosen c.new-begun.ensures.follows);
    }
