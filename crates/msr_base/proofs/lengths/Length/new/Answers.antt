use Rattle.std.proofs.Common.{arith}
use Rattle.msr_base.proofs.RecordLengths.{no_record_length}
use Rattle.msr_base.proofs.lengths.Length.new.Goals as goal

pub returns-in_default-clause-some : goal.returns-in_default-clause-some
returns-in_default-clause-some c = (
  λ t. cc,
  λ is. absurd
      (no_record_length c.args.bytes is (λ e. absurd (omega arith)) (λ e. absurd (omega arith))
      (λ e. absurd (omega arith)) (λ e. absurd (omega arith)) (λ e. absurd (omega arith)) (λ e. absurd (omega arith))
      (λ e. absurd (omega arith)) (λ e. absurd (omega arith)) (λ e. absurd (omega arith))),
)
