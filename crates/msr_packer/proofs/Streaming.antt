-- What a packer of a stream knows after each piece and each sample.
use Rattle.std.proofs.Common.{◌≡◌, ℕ, ◌+◌, ◌-◌, ◌<◌, ◌≤◌, ◌⊎◌, ℤ, List, [], ◌++◌, length, drop, Option, Some, None, ap, ◌∙◌, arith, inl, inr, length-drop}
use Rattle.std.proofs.lemmas.Bool.{cases_lt}
use Rattle.msr_words.specs.Fit.{Records, FitsAny, IsRun}
use Rattle.msr_base.specs.Kinds.{IsChosen}
use Rattle.msr_words.specs.Segment.{run_points}
use Rattle.msr_words.specs.Laws.{most_any}
use Rattle.msr_words.specs.Lemmas.KindLaws.{empty_kind}
use Rattle.msr_words.proofs.AnyKind.{back_step_any}
use Rattle.msr_words.specs.Packing.{IsStep}
use Rattle.msr_words.proofs.Runs.{run_points_none, run_points_stay}
use Rattle.msr_packer.specs.Growing.{FollowsRun, IsGrowing, IsTracked, kind_of_tracker}
use Rattle.msr_packer.specs.HeldSamples.{InsideIfAny, first_ungiven, frontier_of}
use Rattle.msr_packer.specs.declared.growing.Tracker.{Tracker}
use Rattle.msr_packer.specs.declared.growing.GrowingRun.{GrowingRun}
use Rattle.msr_packer.specs.declared.held.RunToCut.{RunToCut}
use Rattle.msr_packer.proofs.Holding.{run_size}
use Rattle.msr_words.proofs.LastSamples.{run_points_window}
use Rattle.msr_packer.proofs.Windows.{near_by_one}

-- ---- the run that takes the samples after the frontier

pub growing_run : (records : Records) (samples : List ℤ) (g n : ℕ) (growing : GrowingRun) → n ≤ length samples
    → IsGrowing records samples g n growing → IsRun (FitsAny records) samples growing.start n
growing_run records samples g n growing within is = let b = is.before in let p = is.past in
    (omega arith, within, (kind_of_tracker growing.tracker, is.tracked.fits))

-- so the step from there reaches the last sample
pub growing_reaches : (records : Records) (samples : List ℤ) (g n h a : ℕ) (growing : GrowingRun) → n ≤ length samples
    → IsGrowing records samples g n growing → IsStep (FitsAny records) samples g h a → n ≤ h
growing_reaches records samples g n h a growing within is step =
    step.furthest growing.start n is.before (growing_run records samples g n growing within is)

-- samples that follow change nothing of those before
pub growing_more : (records : Records) (samples more : List ℤ) (g n : ℕ) (growing : GrowingRun) → n ≤ length samples
    → IsGrowing records samples g n growing → IsGrowing records (samples ++ more) g n growing
growing_more records samples more g n growing within is =
    let b = is.before in
    let p = is.past in
    let same = run_points_stay samples more growing.start n (omega arith) within in
    record {
      before = is.before;
      near = is.near;
      past = is.past;
      tracked = record {
        follows = rw same is.tracked.follows;
        fits = rw same is.tracked.fits;
      };
    }

-- nor do samples that are taken away before its start
pub growing_less : (records : Records) (held : List ℤ) (g g' k : ℕ) (growing growing' : GrowingRun)
    → IsGrowing records held g (length held) growing → k < growing.start → g' + k ≡ g → growing'.start + k
    ≡ growing.start
    → growing'.tracker ≡ growing.tracker
    → IsGrowing records (drop k held) g' (length (drop k held)) growing'
growing_less records held g g' k growing growing' is small frontier start tracker =
    let b = is.before in
    let n = is.near in
    let p = is.past in
    let l = length-drop k held in
    let s : k + growing'.start ≡ growing.start = omega arith in
    let e : k + length (drop k held) ≡ length held = omega arith in
    let same : run_points (drop k held) growing'.start (length (drop k held))
    ≡ run_points held growing.start (length held) =
    run_points_window held k growing'.start (length (drop k held)) (inr (omega arith))
    ∙ ap (λ x. run_points held x (k + length (drop k held))) s ∙ ap (run_points held growing.start) e in
    record {
      before = omega arith;
      near = omega arith;
      past = omega arith;
      tracked = rw tracker (record {
        follows = rw same is.tracked.follows;
        fits = rw same is.tracked.fits;
      });
    }

-- before the first sample
pub begun : (records : Records) → 256 ≤ records.bytes → (samples : List ℤ) (start : ℕ) (tracker : Tracker)
    → IsChosen records.kinds (kind_of_tracker tracker) → FollowsRun records.bytes [] tracker
    → IsTracked records samples start start tracker
begun records enough samples start tracker chosen follows = record {
  follows = rw run_points_none follows;
  fits = (chosen, rw run_points_none (empty_kind (kind_of_tracker tracker) records.bytes (omega arith)));
}

-- when the step is found that ends with the samples
pub growing_of : (records : Records) (samples : List ℤ) (g h a : ℕ) (growing : GrowingRun) → g ≤ h
    → h ≡ length samples
    → IsStep (FitsAny records) samples g h a → growing.start ≡ a
    → IsTracked records samples a (length samples) growing.tracker
    → IsGrowing records samples g (length samples) growing
growing_of records samples g h a growing order all step start tracked =
    let near = near_by_one (FitsAny records) (back_step_any records) samples g h a order step in
    let before = step.before in
    record {
      before = omega arith;
      near = omega arith;
      past = omega arith;
      tracked = rw start tracked;
    }

-- so a longest run at most is held after the frontier
pub growing_few : (records : Records) (held : List ℤ) (g : ℕ) (growing : GrowingRun)
    → IsGrowing records held g (length held) growing
    → length held ≤ g + most_any records
growing_few records held g growing is =
    let b = is.before in
    let any = growing_run records held g (length held) growing (omega arith) is in
    let size = run_size records held growing.start (length held) (kind_of_tracker growing.tracker)
    (any.0, any.1, is.tracked.fits) in
    omega arith

-- samples that are taken away, if any
pub growing_forgets : (records : Records) (held : List ℤ) (g g' k : ℕ) (growing growing' : GrowingRun)
    → IsGrowing records held g (length held) growing → (k ≡ 0) ⊎ (k < growing.start) → g' + k ≡ g
    → growing'.start + k ≡ growing.start → growing'.tracker ≡ growing.tracker
    → IsGrowing records (drop k held) g' (length (drop k held)) growing'
growing_forgets records held g g' k growing growing' is (inr small) frontier start tracker =
    growing_less records held g g' k growing growing' is small frontier start tracker
growing_forgets records held g g' k growing growing' is (inl none) frontier start tracker =
    let here : g' ≡ g = omega arith in
    let from : growing'.start ≡ growing.start = omega arith in
    rw none (record {
      before = omega (arith, is.before);
      near = omega (arith, is.near);
      past = omega (arith, is.past);
      tracked = rw (from, tracker) is.tracked;
    })

pub may_forget : (records : Records) (number : ℕ) (current : Option RunToCut) (from : ℕ)
    → InsideIfAny records number current
    → frontier_of current ≤ from + 1 → (first_ungiven current - 1 ≡ 0) ⊎ (first_ungiven current - 1 < from)
may_forget records number None from inside near = inl (omega arith)
may_forget records number (Some c) from inside near = elim (cases_lt 1 c.start) [
  | inl some ↦ let before = inside.before in let on = inside.on in inr (omega arith)
  | inr none ↦ inl (omega arith)
]
