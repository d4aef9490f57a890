-- The samples so far have 32 bits.
use Rattle.std.proofs.Common.{take, FitsSigned, w32}
use Rattle.std.specs.Prelude.{All}
use Rattle.msr_record.proofs.written_area.samples_have_32_bits.Given as goal

abbrev pub invariant-loop-sample : goal.invariant-loop-sample
invariant-loop-sample l = All (FitsSigned w32) (take l.sample-index l.run)
