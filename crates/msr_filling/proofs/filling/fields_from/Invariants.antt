-- The fields of the differences so far.
use Rattle.std.proofs.Common.{◌≡◌, ◌-◌, take, drop}
use Rattle.msr_steim.specs.Word.{joined_fields}
use Rattle.msr_words.specs.Segment.{differences}
use Rattle.msr_filling.proofs.filling.fields_from.Given as goal

abbrev pub invariant-loop-next : goal.invariant-loop-next
invariant-loop-next l = l.fields ≡ joined_fields l.width (take (l.next - l.at) (drop l.at (differences l.before l.run)))
