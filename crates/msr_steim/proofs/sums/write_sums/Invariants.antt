-- The sums so far.
use Rattle.std.proofs.Common.{◌≡◌, ◌∷◌, pos, get_or, take}
use Rattle.msr_steim.specs.Area.{sums_after}
use Rattle.msr_steim.specs.Word.{numbers_in}
use Rattle.msr_steim.proofs.sums.write_sums.Given as goal

abbrev pub invariant-loop-index : goal.invariant-loop-index
invariant-loop-index l = record {
  sums : take l.index l.out ≡ sums_after l.before (take l.index (numbers_in l.word l.width l.count));
  last : l.last ≡ get_or (l.before ∷ take l.index l.out) l.index (pos 0);
}
