-- Where the runs so far leave the packing.
use Rattle.std.proofs.Common.{◌-◌, length}
use Rattle.msr_packer.specs.HeldSamples.{HoldsWindow, InsideIfAny, frontier_of}
use Rattle.msr_words.specs.Fit.{records_of}
use Rattle.msr_packer.proofs.pack_in.Given as goal

abbrev pub invariant-loop-form : goal.invariant-loop-form
invariant-loop-form l = record {
  window : HoldsWindow (records_of l.fn.form) l.samples l.packing.runs.items l.packing.separators.items l.samples 0
      l.current;
  inside : InsideIfAny (records_of l.fn.form) (length l.samples) l.current;
}

abbrev pub decreases-loop-form : goal.decreases-loop-form
decreases-loop-form l = length l.samples - frontier_of l.current
