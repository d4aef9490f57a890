use Rattle.std.proofs.Common.{arith, ap, refl}
use Rattle.msr_words.specs.Fit.{records_of}
use Rattle.msr_packer.proofs.stream.StreamPacker.of.Goals as goal

pub invariant_of-result : goal.invariant_of-result
invariant_of-result c = record {
  sound = c.empty.ensures.sound;
  stays = rw c.empty.ensures.current tt;
  is_growing = rw (c.empty.ensures.form, c.empty.ensures.samples, c.empty.ensures.current) c.empty-2.ensures;
  few = rw c.empty.ensures.samples (omega arith);
}

pub returns-clause-none : goal.returns-clause-none
returns-clause-none c = record {
  packs = record {
    of_form = ap records_of c.empty.ensures.form;
    holds = rw c.empty.ensures.form at c.empty.ensures.none;
    stays = rw c.empty.ensures.current tt;
    goes_on = refl;
  };
  behind = rw c.empty.ensures.samples (omega arith);
  few = rw c.empty.ensures.samples (omega arith);
}

pub returns-clause-count : goal.returns-clause-count
returns-clause-count c = rw c.empty.ensures.samples (omega (arith, c.empty.ensures.none.within))
