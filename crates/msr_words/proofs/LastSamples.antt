-- Runs of samples that more follow, and of the last samples of a segment.
use Rattle.std.proofs.Common.{◌≡◌, ℕ, zero, suc, ◌+◌, ◌-◌, ◌<◌, ◌≤◌, ◌⊎◌, ℤ, pos, List, ◌++◌, length, take, drop, None, refl, sym, ap, ◌∙◌, subst, arith, inl, inr, length-append, length-drop}
use Rattle.std.specs.Prelude.{get_or}
use Rattle.std.proofs.lemmas.List.{drop-drop, get_or-drop}
use Rattle.msr_words.specs.Segment.{points, points_after, run_points}
use Rattle.msr_words.specs.Fit.{Records, FitsAny, IsRun}
use Rattle.msr_words.proofs.AnyKind.{prefix_any, back_step_any}
use Rattle.msr_words.specs.Packing.{NoneHolds}
use Rattle.msr_words.proofs.Runs.{back_step_run, points_drop, prefix_run, run_points_stay}

-- ---- samples that more follow

module _ (fits : List (ℤ × ℤ) → Type 0) (samples more : List ℤ) where
  pub run_stays : (a b : ℕ) → IsRun fits samples a b → IsRun fits (samples ++ more) a b
  run_stays a b run = (
    run.0,
    omega (arith, run.1, length-append samples more),
    subst fits
        (sym (run_points_stay samples more a b run.0 run.1)) run.2,
  )

  pub run_was : (a b : ℕ) → b ≤ length samples → IsRun fits (samples ++ more) a b → IsRun fits samples a b
  run_was a b within run = (run.0, within, subst fits (run_points_stay samples more a b run.0 within) run.2)

-- ---- the last samples of a segment

pub run_points_window : (samples : List ℤ) (o a b : ℕ) → (o ≡ 0) ⊎ (1 ≤ a)
    → run_points (drop o samples) a b ≡ run_points samples (o + a) (o + b)
run_points_window samples o a b (inl e) =
    let x : o + a ≡ a = omega arith in
    let y : o + b ≡ b = omega arith in
    rw (x, y) (subst (λ k. run_points (drop k samples) a b ≡ run_points samples a b) (sym e) refl)
run_points_window samples o zero b (inr h) = absurd (omega arith)
run_points_window samples o (suc a) b (inr h) =
    let width : (o + b) - (o + suc a) ≡ b - suc a = omega arith in
    let place : o + suc a ≡ suc (o + a) = omega arith in
    let back : a + o ≡ o + a = omega arith in
    let first : get_or (drop o samples) a (pos 0) ≡ get_or samples (o + a) (pos 0) = get_or-drop o samples a (pos 0) in
    let rest : drop (suc a) (drop o samples) ≡ drop (suc (o + a)) samples = drop-drop (suc a) o samples
    ∙ ap (λ n. drop n samples) place in
    let same : drop (suc a) (points None (drop o samples)) ≡ drop (o + suc a) (points None samples) =
    points_drop (drop o samples) a ∙ ap (λ x. points_after x (drop (suc a) (drop o samples))) first
    ∙ ap (points_after (get_or samples (o + a) (pos 0))) rest ∙ sym (points_drop samples (o + a))
    ∙ ap (λ n. drop n (points None samples)) (sym place) in
    ap (take (b - suc a)) same ∙ ap (λ n. take n (drop (o + suc a) (points None samples))) (sym width)

module _ (fits : List (ℤ × ℤ) → Type 0) (samples : List ℤ) (o : ℕ) (within : o ≤ length samples) where
  pub run_of_window : (a b : ℕ) → (o ≡ 0) ⊎ (1 ≤ a) → IsRun fits (drop o samples) a b
      → IsRun fits samples (o + a) (o + b)
  run_of_window a b at run = (
    omega (arith, run.0),
    omega (arith, run.1, length-drop o samples),
    subst fits
        (run_points_window samples o a b at) run.2,
  )

  pub run_in_window : (a b : ℕ) → (o ≡ 0) ⊎ (1 ≤ a) → IsRun fits samples (o + a) (o + b)
      → IsRun fits (drop o samples) a b
  run_in_window a b at run = (
    omega (arith, run.0),
    omega (arith, run.1, length-drop o samples),
    subst fits
        (sym (run_points_window samples o a b at)) run.2,
  )

-- ---- two samples that no run holds

module _ (records : Records) (samples : List ℤ) (p q : ℕ) (order : p < q) where
  -- samples that follow change nothing
  pub apart_stays : (more : List ℤ) → q < length samples → NoneHolds records samples p q
      → NoneHolds records (samples ++ more) p q
  apart_stays more within none = record {
    none = λ a b run h i j k. none.none a (q + 1)
        (run_was (FitsAny records) samples more a (q + 1) (omega arith)
        (prefix_run (FitsAny records) (prefix_any records) (samples ++ more) a (q + 1) b (omega arith) (omega arith) run))
        h (omega arith) (omega arith) (omega arith);
  }

  pub apart_was : (more : List ℤ) → NoneHolds records (samples ++ more) p q → NoneHolds records samples p q
  apart_was more none = record {
    none = λ a b run h i j k. none.none a b (run_stays (FitsAny records) samples more a b run) h i j k;
  }

-- nor the samples before the two that stand before the first of them
module _ (records : Records) (samples : List ℤ) (o : ℕ) (within : o ≤ length samples) (p q : ℕ) (order : p < q)
    (far : (o ≡ 0) ⊎ (2 ≤ p)) where
  -- a run that holds both can start at the sample before the first, or there
  near : (xs : List ℤ) (a b i : ℕ) → a ≤ i → i ≤ b → IsRun (FitsAny records) xs a b
      → (s : ℕ) × (a ≤ s) × (s ≤ i) × (i ≤ s + 1) × IsRun (FitsAny records) xs s b
  near xs a b i h k run = back_step_run (FitsAny records) 1 (back_step_any records) xs a i b h k run

  pub apart_of_window : NoneHolds records (drop o samples) p q → NoneHolds records samples (o + p) (o + q)
  apart_of_window none = record {
    none = λ a b run h i j k.
        let cut = near samples a b (o + p) h (omega arith) run in
        let low = cut.3 in
        let high = cut.2 in
        elim far [
          | inl zero_is ↦
              let same : o + cut.0 ≡ cut.0 = omega arith in
              let end : o + b ≡ b = omega arith in
              none.none cut.0 b (run_in_window (FitsAny records) samples o within cut.0 b (inl zero_is)
              (rw (same, end) cut.4)) (omega arith) (omega arith) (omega arith) (omega arith)
          | inr two ↦
              let start = cut.0 - o in
              let same : o + start ≡ cut.0 = omega arith in
              let end : o + (b - o) ≡ b = omega arith in
              none.none start (b - o) (run_in_window (FitsAny records) samples o within start (b - o) (inr (omega arith))
              (rw (same, end) cut.4)) (omega arith) (omega arith) (omega arith) (omega arith)
        ];
  }

  pub apart_in_window : NoneHolds records samples (o + p) (o + q) → NoneHolds records (drop o samples) p q
  apart_in_window none = record {
    none = λ a b run h i j k.
        let cut = near (drop o samples) a b p h (omega arith) run in
        let low = cut.3 in
        let high = cut.2 in
        elim far [
          | inl zero_is ↦ none.none (o + cut.0) (o + b) (run_of_window (FitsAny records) samples o within cut.0 b
              (inl zero_is) cut.4) (omega arith) (omega arith) (omega arith) (omega arith)
          | inr two ↦ none.none (o + cut.0) (o + b) (run_of_window (FitsAny records) samples o within cut.0 b
              (inr (omega arith)) cut.4) (omega arith) (omega arith) (omega arith) (omega arith)
        ];
  }
