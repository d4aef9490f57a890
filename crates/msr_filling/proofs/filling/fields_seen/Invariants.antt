-- The halves so far have room, and with the fields they are those of the differences that the window has there.
use Rattle.std.proofs.Common.{◌<◌, ◌*◌, ◌^◌, ℤ, List, take}
use Rattle.std.specs.List.{AllByRecursion}
use Rattle.msr_steim.specs.Word.{FitsBits}
use Rattle.msr_words.specs.Window.{Shows}
use Rattle.msr_filling.proofs.Offsets.{IsOffset}
use Rattle.msr_filling.proofs.filling.fields_seen.Given as goal

abbrev pub invariant-loop-next : goal.invariant-loop-next
invariant-loop-next l = record {
  few : l.halves < 2 ^ (l.next * l.width);
  same : (ds : List ℤ) → Shows l.window ds l.place
      → AllByRecursion (FitsBits l.width) (take l.size ds)
      → IsOffset l.width l.next l.fields l.halves (take l.next ds);
}
