-- Samples of that many bits, and the runs of integers that they make.
use Rattle.std.proofs.Common.{◌≡◌, ℕ, ◌+◌, ◌-◌, ◌<◌, ◌≤◌, min, ℤ, pos, List, [], ◌∷◌, ◌++◌, length, take, drop, get_or, arith, sym, ap, ◌∙◌, subst, inl, inr}
use Rattle.std.specs.Prelude.{All, slice_index_or, slice_range}
use Rattle.std.proofs.lemmas.Bool.{cases_lt}
use Rattle.std.proofs.lemmas.List.{get_or-drop, get_or-take, length-drop, length-take-le, take-take}
use Rattle.std.proofs.lemmas.List.Elements.{All-contains, Contains-push}
use Rattle.msr_base.specs.declared.kinds.Kind.{Kind}
use Rattle.msr_words.specs.Bounds.{AreIntegers, AreLeading, IsEnd}
use Rattle.msr_words.specs.Fit.{Fits, IsRun}
use Rattle.msr_words.specs.Laws.{most_of}
use Rattle.msr_words.specs.Segment.{difference_at, run_points}
use Rattle.msr_words.specs.Lemmas.KindLaws.{prefix_kind, size_kind}
use Rattle.msr_words.proofs.Runs.{all_of_run, length-run_points, prefix_run, run_points_more}
use Rattle.msr_steim.specs.Word.{FitsBits}

module _ (kind : Kind) (bits bytes : ℕ) (are : AreIntegers kind bits bytes) (samples : List ℤ) (a end : ℕ) where
  no_longer : (b : ℕ) → end ≡ a + min (most_of kind bytes) (length samples - a)
      → IsRun (Fits kind bytes) samples a b → b ≤ end
  no_longer b is run =
      let size = size_kind kind bytes (run_points samples a b) run.2 in
      let l = length-run_points samples a b run.0 run.1 in
      let up = run.0 in
      let in' = run.1 in
      omega arith

  none_beyond : (at b : ℕ) → a ≤ at → at < length samples
      → (FitsBits bits (slice_index_or samples at (pos 0)) → ⊥) → IsRun (Fits kind bytes) samples a b → b ≤ at
  none_beyond at b le less wider run = elim (cases_lt at b) [
    | inl past ↦
        let shorter = prefix_run (Fits kind bytes) (prefix_kind kind bytes) samples a (at + 1) b (omega arith)
        (omega arith) run in
        let p : ℤ × ℤ = (slice_index_or samples at (pos 0), difference_at samples at) in
        let all = subst (λ run. (k : ℕ) (d : ℤ × ℤ) → k < length run → FitsBits bits (get_or run k d).0)
        (run_points_more samples a at le less) (are.needs (run_points samples a (at + 1)) shorter.2) in
        absurd (wider (All-contains (λ (p : ℤ × ℤ). FitsBits bits p.0) (run_points samples a at ++ p ∷ []) p all
        (Contains-push (run_points samples a at) p)))
    | inr not ↦ not
  ]

  -- the samples of that many bits, of as many as a record has, are the longest run
  pub leading_end : (count : ℕ) → a ≤ length samples → end ≡ a + min (most_of kind bytes) (length samples - a)
      → AreLeading bits (slice_range samples a end) count → IsEnd kind bytes samples a (a + count)
  leading_end count within end_is is =
      let d = length-drop a samples in
      let long : length (slice_range samples a end) ≡ end - a =
      length-take-le (end - a) (drop a samples) (omega arith) in
      let short = is.within in
      let part : slice_range samples a (a + count) ≡ take count (slice_range samples a end) =
      ap (λ n. take n (drop a samples)) (omega arith)
      ∙ sym (take-take count (end - a) (drop a samples) (omega arith)) in
      let all = all_of_run (FitsBits bits) samples a (a + count)
      (subst (All (FitsBits bits)) (sym part) is.all) in
      let size = length-run_points samples a (a + count) (omega arith) (omega arith) in
      record {
        fits = (omega arith, omega arith, are.takes (run_points samples a (a + count)) all (omega arith));
        furthest = λ b run. elim (cases_lt count (end - a)) [
          | inl less ↦
              let same : get_or (slice_range samples a end) count (pos 0) ≡ get_or samples (a + count) (pos 0) =
              get_or-take (end - a) (drop a samples) count (pos 0) less ∙ get_or-drop a samples count (pos 0) in
              none_beyond (a + count) b (omega arith) (omega arith)
              (subst (λ z. FitsBits bits z → ⊥) same (is.no_more (omega arith))) run
          | inr none ↦ let far = no_longer b end_is run in omega arith
        ];
      }
