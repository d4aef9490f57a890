use Rattle.std.proofs.Common.{FitsSigned, w32, SFits, pos, rules, arith, take, slice_index_or, sym}
use Rattle.std.proofs.lemmas.List.{take_all}
use Rattle.std.proofs.lemmas.List.Elements.{All-more, All-same}
use Rattle.msr_record.proofs.written_area.samples_have_32_bits.Goals as goal

pub loop-sample-preserved : goal.loop-sample-preserved
loop-sample-preserved c =
    let fits : SFits w32 (slice_index_or c.args.run.now c.loop-sample.sample-index (pos 0)) = search rules in
    All-more (FitsSigned w32) c.args.run.now c.loop-sample.sample-index (pos 0)
    (omega arith) c.loop-sample.invariant fits

pub returns : goal.returns
returns c =
    All-same (FitsSigned w32) c.args.run.now (take c.loop-sample.sample-index c.args.run.now)
    (sym (take_all c.loop-sample.sample-index c.args.run.now (omega arith))) c.loop-sample.invariant
