-- The words so far were read, and the codes of the others stand in the highest bits.
use Rattle.std.proofs.Common.{◌≡◌, ◌≤◌, ◌+◌, ◌-◌, ◌*◌, ◌%◌, ◌^◌}
use Rattle.msr_steim.specs.Area.{whole_word}
use Rattle.msr_steim.specs.InOrder.{BeginsAfter}
use Rattle.msr_steim.proofs.Reading.{IsReached}
use Rattle.msr_steim.proofs.area.decode_words.Given as goal

abbrev pub invariant-loop-slot : goal.invariant-loop-slot
invariant-loop-slot g l = record {
  reached : IsReached l.version l.order l.area (16 * l.frame + l.slot) l.at l.out;
  begins : l.at.place ≡ 0 → BeginsAfter l.version l.order l.area l.at.last;
  codes : l.codes ≡ whole_word l.order l.area (16 * l.frame) * 2 ^ (2 * l.slot) % 4294967296;
  some : 1 ≤ l.slot;
  late : 3 ≤ 16 * l.frame + l.slot;
  few : l.slot ≤ 16;
}

abbrev pub decreases-loop-slot : goal.decreases-loop-slot
decreases-loop-slot g l = 16 - l.slot

abbrev pub invariant-loop-frame : goal.invariant-loop-frame
invariant-loop-frame g l = record {
  reached : IsReached l.version l.order l.area (16 * l.frame) l.at l.out;
  begins : l.at.place ≡ 0 → BeginsAfter l.version l.order l.area l.at.last;
}
