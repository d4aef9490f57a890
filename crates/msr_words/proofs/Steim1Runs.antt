-- A walk of Steim-1 words over a segment.
use Rattle.std.proofs.Common.{◌≡◌, ℕ, ◌+◌, ◌-◌, ◌*◌, ◌≤◌, ℤ, false, List, length, map, take, drop, None, arith, sym, ap, ◌∙◌, subst}
use Rattle.std.proofs.lemmas.List.{drop-drop, length-drop}
use Rattle.msr_base.specs.declared.storage.Version.TheVariants.{One}
use Rattle.msr_base.specs.declared.kinds.Kind.TheVariants.{Steim1}
use Rattle.msr_words.specs.Bounds.{IsEnd}
use Rattle.msr_words.specs.Division.{CanDivide}
use Rattle.msr_words.specs.Fit.{Fits, IsRun, most_counted}
use Rattle.msr_words.specs.Lemmas.KindLaws.{size_steim}
use Rattle.msr_base.specs.RecordLength.{words_of}
use Rattle.msr_words.specs.Segment.{differences, run_points}
use Rattle.msr_words.specs.Steim1Reach.{IsSteim1End, IsSteim1Reach}
use Rattle.msr_words.proofs.GreedyReach.{differences_from, differences_to}
use Rattle.msr_words.proofs.Plain.{length-differences}
use Rattle.msr_words.proofs.Steim1Words.{nothing_reached}

-- the differences of the samples from `start` on
abbrev pub behind : List ℤ → ℕ → List ℤ
behind samples start = drop start (differences None samples)

pub length-behind : (samples : List ℤ) (start : ℕ) → length (behind samples start) ≡ length samples - start
length-behind samples start = length-drop start (differences None samples)
    ∙ ap (λ n. n - start) (length-differences None samples)

-- no words hold nothing
pub none_reached : (samples : List ℤ) (start : ℕ) → IsSteim1Reach 0 (behind samples start) (start - start) false
none_reached samples start =
    let zero_is : 0 ≡ start - start = omega arith in
    subst (λ m. IsSteim1Reach 0 (behind samples start) m false) zero_is (nothing_reached (behind samples start))

-- the differences that are left
pub left_behind : (samples : List ℤ) (start at : ℕ) → start ≤ at
    → drop at (differences None samples) ≡ drop (at - start) (behind samples start)
left_behind samples start at le =
    let e : start + (at - start) ≡ at = omega arith in
    sym (drop-drop (at - start) start (differences None samples)
    ∙ ap (λ n. drop n (differences None samples)) (omega arith))

module _ (bytes : ℕ) (few : 4 * words_of bytes ≤ most_counted) (samples : List ℤ) (start reach end : ℕ)
    (le : start ≤ length samples) (is : IsSteim1End (words_of bytes) (behind samples start) reach)
    (same : end ≡ start + reach) where
  taken : (n : ℕ) → start + n ≤ length samples
      → map (λ p. p.1) (run_points samples start (start + n)) ≡ take n (behind samples start)
  taken n within = differences_to samples start n (length samples) within (omega arith)
      ∙ ap (take n) (differences_from samples start le)

  -- the end of the walk is the end of the run
  pub walk_ends : IsEnd Steim1 bytes samples start end
  walk_ends =
      let l = length-behind samples start in
      let w = is.within in
      let inside : start + reach ≤ length samples = omega arith in
      let can = subst (CanDivide One (words_of bytes)) (sym (taken reach inside)) is.fits in
      let size = size_steim One bytes (run_points samples start (start + reach)) can in
      let whole : IsRun (Fits Steim1 bytes) samples start (start + reach) = (omega arith, inside, (omega arith, can)) in
      record {
        fits = subst (IsRun (Fits Steim1 bytes) samples start) (sym same) whole;
        furthest = λ b run.
            let up = run.0 in
            let in' = run.1 in
            let e : b ≡ start + (b - start) = omega arith in
            let within : start + (b - start) ≤ length samples = omega arith in
            let can : CanDivide One (words_of bytes) (take (b - start) (behind samples start)) =
            subst (CanDivide One (words_of bytes)) (taken (b - start) within)
            (subst (λ x. Fits Steim1 bytes (run_points samples start x)) e run.2).1 in
            let most = is.furthest (b - start) (omega arith) can in
            omega arith;
      }
