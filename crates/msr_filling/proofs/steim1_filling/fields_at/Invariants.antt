-- The halves so far have room, and with the fields they are those of the differences from there on.
use Rattle.std.proofs.Common.{◌<◌, ◌*◌, ◌^◌, ℤ, Option, take, drop}
use Rattle.std.specs.List.{AllByRecursion}
use Rattle.msr_steim.specs.Word.{FitsBits}
use Rattle.msr_words.specs.Segment.{differences}
use Rattle.msr_filling.proofs.Offsets.{IsOffset}
use Rattle.msr_filling.proofs.steim1_filling.fields_at.Given as goal

abbrev pub invariant-loop-next : goal.invariant-loop-next
invariant-loop-next l = record {
  few : l.halves < 2 ^ (l.next * l.width);
  same : (before : Option ℤ)
      → AllByRecursion (FitsBits l.width) (take l.size (drop l.at (differences before l.run)))
      → IsOffset l.width l.next l.fields l.halves (take l.next (drop l.at (differences before l.run)));
}
