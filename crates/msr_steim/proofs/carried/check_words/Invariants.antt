-- The words so far gave samples, and the codes of the others stand in the highest bits.
use Rattle.std.proofs.Common.{◌≡◌, ◌≤◌, ◌+◌, ◌-◌, ◌*◌, ◌%◌, ◌^◌}
use Rattle.msr_steim.specs.Area.{whole_word}
use Rattle.msr_steim.proofs.Checking.{ArePassed}
use Rattle.msr_steim.proofs.carried.check_words.Given as goal

abbrev pub invariant-loop-slot : goal.invariant-loop-slot
invariant-loop-slot g l = record {
  passed : ArePassed l.version l.order l.area (16 * l.frame + l.slot) l.count l.left l.last;
  codes : l.codes ≡ whole_word l.order l.area (16 * l.frame) * 2 ^ (2 * l.slot) % 4294967296;
  some : 1 ≤ l.slot;
  late : 3 ≤ 16 * l.frame + l.slot;
  few : l.slot ≤ 16;
}

abbrev pub decreases-loop-slot : goal.decreases-loop-slot
decreases-loop-slot g l = 16 - l.slot

abbrev pub invariant-loop-frame : goal.invariant-loop-frame
invariant-loop-frame g l = ArePassed l.version l.order l.area (16 * l.frame) l.count l.left l.last
