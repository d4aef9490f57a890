-- The search for a step, over the starts at and before a frontier.
use Rattle.std.proofs.Common.{◌≡◌, ℕ, ◌+◌, ◌<◌, ◌≤◌, min, ℤ, List, arith, subst, inl, inr}
use Rattle.std.proofs.lemmas.Bool.{cases_lt}
use Rattle.msr_words.specs.Fit.{IsRun}
use Rattle.msr_words.specs.Laws.{BackStepLaw}
use Rattle.msr_words.proofs.Runs.{back_step_run}
use Rattle.msr_words.specs.Packing.{IsStep}

module _ (fits : List (ℤ × ℤ) → Type 0) (samples : List ℤ) (frontier : ℕ) where
  -- of the starts in the last `back` places up to the frontier, h is the greatest end and a the last start that reaches
  -- it
  pub record IsBest (back h a : ℕ) : Type 0 where
    pub before : a ≤ frontier
    pub among : frontier < a + back
    pub past : frontier ≤ h
    pub reached : IsRun fits samples a h
    pub furthest : (s b : ℕ) → s ≤ frontier → frontier < s + back → IsRun fits samples s b → b ≤ h
    pub last : (s : ℕ) → s ≤ frontier → frontier < s + back → IsRun fits samples s h → s ≤ a

  pub best_first : (h : ℕ) → IsRun fits samples frontier h → ((b : ℕ) → IsRun fits samples frontier b → b ≤ h)
      → IsBest 1 h frontier
  best_first h run most = record {
    before = omega arith;
    among = omega arith;
    past = run.0;
    reached = run;
    furthest = λ s b le lt r. most b (subst (λ x. IsRun fits samples x b) (omega arith) r);
    last = λ s le lt r. le;
  }

  module _ (back : ℕ) (h a : ℕ) (best : IsBest back h a) (start end : ℕ) (place : start + back ≡ frontier)
      (run : IsRun fits samples start end) (most : (b : ℕ) → IsRun fits samples start b → b ≤ end) where
    pub best_kept : end ≤ h → IsBest (back + 1) h a
    best_kept less = record {
      before = best.before;
      among = let m = best.among in omega arith;
      past = best.past;
      reached = best.reached;
      furthest = λ s b le lt r. elim (cases_lt frontier (s + back)) [
        | inl in' ↦ best.furthest s b le in' r
        | inr here ↦ let m = most b (subst (λ x. IsRun fits samples x b) (omega arith) r) in omega arith
      ];
      last = λ s le lt r. elim (cases_lt frontier (s + back)) [
        | inl in' ↦ best.last s le in' r
        | inr here ↦ let m = best.among in omega arith
      ];
    }

    pub best_new : h < end → IsBest (back + 1) end start
    best_new more = record {
      before = omega arith;
      among = omega arith;
      past = let p = best.past in omega arith;
      reached = run;
      furthest = λ s b le lt r. elim (cases_lt frontier (s + back)) [
        | inl in' ↦ let f = best.furthest s b le in' r in omega arith
        | inr here ↦ most b (subst (λ x. IsRun fits samples x b) (omega arith) r)
      ];
      last = λ s le lt r. elim (cases_lt frontier (s + back)) [
        | inl in' ↦ absurd (let f = best.furthest s end le in' r in omega arith)
        | inr here ↦ omega arith
      ];
    }

  -- no run from further back reaches further, by the back-step law
  pub step_found : (places : ℕ) → BackStepLaw places fits → (back h a : ℕ) → min frontier places < back
      → IsBest back h a → IsStep fits samples frontier h a
  step_found places law back h a all best = record {
    before = best.before;
    reached = best.reached;
    furthest = λ s b le r. elim (cases_lt frontier b) [
      | inl past ↦
          let cut = back_step_run fits places law samples s frontier b le (omega arith) r in
          best.furthest cut.0 b cut.2 (omega arith) cut.4
      | inr not ↦ let p = best.past in omega arith
    ];
    last = λ s le r. elim (cases_lt frontier (s + back)) [
      | inl in' ↦ best.last s le in' r
      | inr far ↦ let m = best.among in omega arith
    ];
  }
