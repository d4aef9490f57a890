use Rattle.std.specs.Prelude.{◌≡◌, ◌+◌, ◌-◌, ◌*◌, ◌≤◌, count_by, map}
use Rattle.msr_words.specs.Bounds.{is_very_wide, is_wide}
use Rattle.msr_words.specs.Segment.{run_points}
use Rattle.msr_words.proofs.widths.count_halves.Given as goal

abbrev pub invariant-loop-at : goal.invariant-loop-at
invariant-loop-at l = record {
  few : l.halves ≤ 2 * (l.at - l.start);
  sum : l.halves ≡ count_by is_wide (map (λ p. p.1) (run_points l.samples (l.start + 1) l.at))
      + count_by is_very_wide (map (λ p. p.1) (run_points l.samples (l.start + 1) l.at));
}
