-- What is known of a step that is not decided yet.
use Rattle.std.specs.Prelude.{ℕ, ◌+◌, ◌<◌, ◌≤◌, ℤ, List, length, map}
use Rattle.msr_words.specs.Fit.{Records, FitsIn}
use Rattle.msr_base.specs.declared.kinds.Kind.{Kind}
use Rattle.msr_base.specs.declared.kinds.Kind.TheVariants as kinds
use Rattle.msr_base.specs.RecordLength.{words_of}
use Rattle.msr_words.specs.Segment.{run_points}
use Rattle.msr_words.specs.Trackers.{FollowsIntegers, FollowsSteim1, FollowsSteim2}
use Rattle.msr_packer.specs.Steps.{IsFound}
use Rattle.msr_packer.specs.declared.growing.Tracker.{Tracker}
use Rattle.msr_packer.specs.declared.growing.Tracker.TheVariants.{Int16, Int24, Int32, Steim1, Steim2}
use Rattle.msr_packer.specs.declared.growing.GrowingRun.{GrowingRun}
use Rattle.msr_packer.specs.declared.step.StepWithEnds.{StepWithEnds}

-- the kind that a tracker follows
abbrev pub kind_of_tracker : Tracker → Kind
kind_of_tracker (Steim2 t) = kinds.Steim2
kind_of_tracker (Steim1 t) = kinds.Steim1
kind_of_tracker (Int16 t) = kinds.Int16
kind_of_tracker (Int24 t) = kinds.Int24
kind_of_tracker (Int32 t) = kinds.Int32

-- the run was pushed to the tracker
abbrev pub FollowsRun : ℕ → List (ℤ × ℤ) → Tracker → Type 0
FollowsRun bytes run (Steim2 t) = FollowsSteim2 bytes run t
FollowsRun bytes run (Steim1 t) = FollowsSteim1 (words_of bytes) (map (λ p. p.1) run) t
FollowsRun bytes run (Int16 t) = FollowsIntegers kinds.Int16 bytes run t
FollowsRun bytes run (Int24 t) = FollowsIntegers kinds.Int24 bytes run t
FollowsRun bytes run (Int32 t) = FollowsIntegers kinds.Int32 bytes run t

-- the samples `start` to n-1 were pushed to the tracker, and fit
pub record IsTracked (records : Records) (samples : List ℤ) (start n : ℕ) (tracker : Tracker) : Type 0 where
  pub follows : FollowsRun records.bytes (run_points samples start n) tracker
  pub fits : FitsIn (kind_of_tracker tracker) records (run_points samples start n)

-- a run that starts at the frontier g, or at the sample before it, goes on to the sample n-1 at least
pub record IsGrowing (records : Records) (samples : List ℤ) (g n : ℕ) (growing : GrowingRun) : Type 0 where
  pub before : growing.start ≤ g
  pub near : g ≤ growing.start + 1
  pub past : g ≤ n
  pub tracked : IsTracked records samples growing.start n growing.tracker

-- the step from the frontier g ends before the last sample, so that no further sample changes it; it is the first n of
-- the samples at least that it takes
pub record IsDecided (records : Records) (samples : List ℤ) (g n : ℕ) (found : StepWithEnds) : Type 0 where
  pub step : IsFound records samples g found
  pub before_last : found.step.end < length samples
  pub past : n ≤ found.step.end
