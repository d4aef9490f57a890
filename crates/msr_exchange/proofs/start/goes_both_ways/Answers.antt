use Rattle.std.proofs.Common.{inl, inr, ⊎_elim}
use Rattle.msr_exchange.proofs.start.goes_both_ways.Goals as goal

pub returns : goal.returns
returns c = λ names one other a b past keeps. record {
  day = λ after may. ⊎_elim (λ is. inr is) (λ is. inl is) (keeps.day after may);
  first = keeps.second;
  second = keeps.first;
}
