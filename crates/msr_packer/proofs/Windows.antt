-- Steps of samples that more follow, and of the last samples of a segment.
use Rattle.std.proofs.Common.{◌≡◌, ℕ, suc, ◌+◌, ◌-◌, ◌<◌, ◌≤◌, ◌⊎◌, ℤ, List, [], ◌∷◌, ◌++◌, length, drop, sym, subst, arith, inl, inr, length-append, length-drop}
use Rattle.std.proofs.lemmas.Bool.{cases_lt}
use Rattle.msr_base.specs.declared.kinds.Kind.{Kind}
use Rattle.msr_words.specs.declared.kinds.Run.{Run}
use Rattle.msr_words.specs.Fit.{Records, FitsIn, FitsAny, IsFirstKind}
use Rattle.msr_words.specs.Laws.{PrefixLaw, BackStepLaw}
use Rattle.msr_words.proofs.AnyKind.{prefix_any, back_step_any}
use Rattle.msr_words.specs.Packing.{Joins, IsStep, CanonicalTo}
use Rattle.msr_words.proofs.LastSamples.{run_in_window, run_of_window, run_stays, run_was}
use Rattle.msr_words.proofs.Runs.{back_step_run, prefix_run, run_points_stay}
use Rattle.msr_packer.proofs.PackingsExist.{HasRest, rest_of}
use Rattle.msr_packer.specs.SoFar.{IsSoFar}
use Rattle.msr_packer.proofs.Least.{goes_on}

-- ---- samples that more follow

module _ (fits : List (ℤ × ℤ) → Type 0) (samples more : List ℤ) where
  -- a step that ends before the last sample stays, whatever follows
  pub step_stays : PrefixLaw fits → (g h a : ℕ) → g ≤ h → h < length samples → IsStep fits samples g h a
      → IsStep fits (samples ++ more) g h a
  step_stays law g h a order decided step = record {
    before = step.before;
    reached = run_stays fits samples more a h step.reached;
    furthest = λ s b le r. elim (cases_lt h b) [
      | inl past ↦ let short = run_was fits samples more s (suc h) decided
          (prefix_run fits law (samples ++ more) s (suc h) b (omega arith) past r) in
          let far = step.furthest s (suc h) le short in absurd (omega arith)
      | inr not ↦ not
    ];
    last = λ s le r. step.last s le (run_was fits samples more s h (omega arith) r);
  }

-- the runs and separators up to a frontier before the last sample stay
ordered : (records : Records) → 256 ≤ records.bytes → (samples : List ℤ) (runs : List Run) (separators : List ℕ)
    (from g : ℕ)
    → CanonicalTo records samples from runs separators g → from ≤ g
ordered records enough samples [] [] from g chosen = let e : from ≡ g = chosen in omega arith
ordered records enough samples [] (s ∷ separators) from g chosen = absurd chosen
ordered records enough samples (run ∷ runs) [] from g chosen = absurd chosen
ordered records enough samples (run ∷ runs) (s ∷ separators) from g chosen =
    let on = goes_on records samples enough from chosen.0 run.start chosen.2 chosen.3 in
    let rest = ordered records enough samples runs separators chosen.0 g chosen.5 in
    omega arith

-- a run ends at or before the frontier after it
end_of : (records : Records) → 256 ≤ records.bytes → (samples : List ℤ) (runs : List Run) (separators : List ℕ)
    (from g e b : ℕ)
    → CanonicalTo records samples from runs separators g → Joins e runs b → b ≤ g → e ≤ g
end_of records enough samples [] separators from g e b chosen joined within = let same : e ≡ b = joined in omega arith
end_of records enough samples (run ∷ runs) [] from g e b chosen joined within = absurd chosen
end_of records enough samples (run ∷ runs) (s ∷ separators) from g e b chosen joined within =
    let before = chosen.3.before in
    let order = ordered records enough samples (run ∷ runs) (s ∷ separators) from g chosen in
    let start : run.start ≡ e = joined.0 in
    omega arith

-- a step of samples starts at most one before its frontier
pub near_by_one : (fits : List (ℤ × ℤ) → Type 0) → BackStepLaw 1 fits → (samples : List ℤ) (g h a : ℕ) → g ≤ h
    → IsStep fits samples g h a → g ≤ a + 1
near_by_one fits law samples g h a order step =
    let back = back_step_run fits 1 law samples a g h step.before order step.reached in
    let last = step.last back.0 back.2 back.4 in
    let near = back.3 in
    omega arith

-- runs that end at most one sample before their frontier begin at most one sample before theirs
start_of : (records : Records) → 256 ≤ records.bytes → (samples : List ℤ) (runs : List Run) (separators : List ℕ)
    (from g e b : ℕ)
    → CanonicalTo records samples from runs separators g → Joins e runs b → g ≤ b + 1 → from ≤ e + 1
start_of records enough samples [] [] from g e b chosen joined near = let same : e ≡ b = joined in
    let here : from ≡ g = chosen in omega arith
start_of records enough samples [] (s ∷ separators) from g e b chosen joined near = absurd chosen
start_of records enough samples (run ∷ runs) [] from g e b chosen joined near = absurd chosen
start_of records enough samples (run ∷ runs) (s ∷ separators) from g e b chosen joined near =
    let on = goes_on records samples enough from chosen.0 run.start chosen.2 chosen.3 in
    let one = near_by_one (FitsAny records) (back_step_any records) samples from chosen.0 run.start
    (omega arith) chosen.3 in
    let start : run.start ≡ e = joined.0 in
    omega arith

chosen_stays : (records : Records) → 256 ≤ records.bytes → (samples more : List ℤ) (runs : List Run)
    (separators : List ℕ)
    (from g a b : ℕ) → CanonicalTo records samples from runs separators g → Joins a runs b → b ≤ g → g ≤ b + 1
    → g < length samples → CanonicalTo records (samples ++ more) from runs separators g
chosen_stays records enough samples more [] [] from g a b chosen joined within near decided = chosen
chosen_stays records enough samples more [] (s ∷ separators) from g a b chosen joined within near decided =
    absurd chosen
chosen_stays records enough samples more (run ∷ runs) [] from g a b chosen joined within near decided = absurd chosen
chosen_stays records enough samples more (run ∷ runs) (s ∷ separators) from g a b chosen joined within near decided =
    let on = goes_on records samples enough from chosen.0 run.start chosen.2 chosen.3 in
    let rest = ordered records enough samples runs separators chosen.0 g chosen.5 in
    let end = end_of records enough samples runs separators chosen.0 g run.end b chosen.5 joined.1 within in
    let start = start_of records enough samples runs separators chosen.0 g run.end b chosen.5 joined.1 near in
    let before = chosen.3.before in (
      chosen.0,
      chosen.1,
      omega (arith, chosen.2, length-append samples more),
      step_stays (FitsAny records) samples more (prefix_any records) from chosen.0 run.start (omega arith)
          (omega arith) chosen.3,
      subst (λ p. IsFirstKind records p run.kind) (sym
          (run_points_stay samples more run.start run.end (omega arith) (omega arith))) chosen.4,
      chosen_stays records enough samples more runs separators chosen.0 g run.end b chosen.5 joined.1 within near
          decided,
    )

-- what was found up to a step that ends before the last sample stays
pub so_far_stays : (records : Records) → 256 ≤ records.bytes
    → (samples more : List ℤ) (runs : List Run) (separators : List ℕ) (g h a : ℕ) (kind : Kind)
    → h < length samples → IsSoFar records samples runs separators g h a kind
    → IsSoFar records (samples ++ more) runs separators g h a kind
so_far_stays records enough samples more runs separators g h a kind decided so_far =
    let on = goes_on records samples enough g h a so_far.within so_far.step in
    let near = near_by_one (FitsAny records) (back_step_any records) samples g h a (omega arith) so_far.step in
    record {
      chosen = chosen_stays records enough samples more runs separators 0 g 0 a so_far.chosen so_far.joined
          so_far.step.before near so_far.within;
      joined = so_far.joined;
      within = omega (arith, so_far.within, length-append samples more);
      step = step_stays (FitsAny records) samples more (prefix_any records) g h a (omega arith) decided so_far.step;
      reached = run_stays (FitsIn kind records) samples more a h so_far.reached;
    }

-- so the runs so far begin the packing of whatever samples follow
pub front_of_all : (records : Records) → 256 ≤ records.bytes
    → (samples : List ℤ) (runs : List Run) (separators : List ℕ) (g h a : ℕ) (kind : Kind) → h < length samples
    → IsSoFar records samples runs separators g h a kind → (more : List ℤ)
    → HasRest records (samples ++ more) runs separators
front_of_all records enough samples runs separators g h a kind decided so_far more =
    rest_of records (samples ++ more) enough (length (samples ++ more)) runs separators g h a kind
    (so_far_stays records enough samples more runs separators g h a kind decided so_far) (omega arith)

-- ---- the last samples of a segment

-- the step from a frontier in the last samples is the step of the segment, if two samples stand before the frontier, or
-- all do
pub step_of_window : (records : Records) → 256 ≤ records.bytes → (samples : List ℤ) (o g h a : ℕ) → o ≤ length samples
    → o + g < length samples → (o ≡ 0) ⊎ (2 ≤ g) → IsStep (FitsAny records) (drop o samples) g h a
    → IsStep (FitsAny records) samples (o + g) (o + h) (o + a)
step_of_window records enough samples o g h a within inside (inl e) step =
    let x : o + g ≡ g = omega arith in
    let y : o + h ≡ h = omega arith in
    let z : o + a ≡ a = omega arith in
    rw (x, y, z) (subst (λ k. IsStep (FitsAny records) (drop k samples) g h a) e step)
step_of_window records enough samples o g h a within inside (inr far) step =
    let on = goes_on records (drop o samples) enough g h a (omega (arith, length-drop o samples)) step in
    let near = near_by_one (FitsAny records) (back_step_any records) (drop o samples) g h a (omega arith) step in
    let before = step.before in
    record {
      before = omega arith;
      reached = run_of_window (FitsAny records) samples o within a h (inr (omega arith)) step.reached;
      furthest = λ s b le r. elim (cases_lt b (o + g)) [
        | inl small ↦ omega arith
        | inr large ↦
            let back = back_step_run (FitsAny records) 1 (back_step_any records) samples s (o + g) b le large r in
            let k = back.0 - o in
            let low = back.3 in
            let high = back.2 in
            let same : o + k ≡ back.0 = omega arith in
            let end : o + (b - o) ≡ b = omega arith in
            let most = step.furthest k (b - o) (omega arith)
            (run_in_window (FitsAny records) samples o within k (b - o) (inr (omega arith))
            (rw (same, end) back.4)) in
            omega arith
      ];
      last = λ s le r.
          let back = back_step_run (FitsAny records) 1 (back_step_any records) samples s (o + g) (o + h) le
          (omega arith) r in
          let k = back.0 - o in
          let low = back.3 in
          let high = back.2 in
          let later = back.1 in
          let same : o + k ≡ back.0 = omega arith in
          let most = step.last k (omega arith) (run_in_window (FitsAny records) samples o within k h
          (inr (omega arith)) (rw same back.4)) in
          omega arith;
    }
