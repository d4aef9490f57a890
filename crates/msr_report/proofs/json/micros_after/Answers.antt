use Rattle.std.proofs.Common.{FitsSigned, w64, to_z-of_z, rules}
use Rattle.msr_report.proofs.JsonLines.{offset_back}
use Rattle.msr_report.proofs.json.micros_after.Goals as goal

pub overflow_sub-result : goal.overflow_sub-result
overflow_sub-result c =
    let fits : FitsSigned w64 c.args.segment.now.start = search rules in
    (offset_back _ _ fits c.rounded.ensures.bound).0

pub returns : goal.returns
returns c =
    let fits : FitsSigned w64 c.args.segment.now.start = search rules in
    let before : FitsSigned w64 c.args.before.now.start = search rules in
    record {
      next = c.rounded.result;
      nominal = rw (to_z-of_z before) at c.rounded.ensures.nominal;
      is = (offset_back _ _ fits c.rounded.ensures.bound).1;
    }
