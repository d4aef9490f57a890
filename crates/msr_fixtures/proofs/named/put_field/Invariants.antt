-- The texts of the numbers come one after another.
use Rattle.msr_fixtures.proofs.named.put_field.Given as goal

abbrev pub invariant-loop-field : goal.invariant-loop-field
invariant-loop-field l =
    (goal.iterator-loop-field).can_next l.texts × (goal.iterator-loop-field).is_finite l.texts
