-- Samples of that many bits, by the bits that are set in the size of any of them.
use Rattle.std.proofs.Common.{◌≡◌, ◌↔◌, ℕ, ◌+◌, ◌-◌, ◌<◌, ◌≤◌, ◌^◌, ℤ, pos, List, [], ◌∷◌, ◌++◌, length, take, drop, get_or, bit_or, arith, refl, sym, ◌∙◌, subst, inl, inr}
use Rattle.std.specs.Prelude.{All, slice_range}
use Rattle.std.proofs.Math.Seq.{take-add}
use Rattle.std.proofs.lemmas.Nat.{le_or_l, le_or_r, or_lt, pow_pos}
use Rattle.std.proofs.lemmas.Bool.{cases_lt}
use Rattle.std.proofs.lemmas.List.{get_or-drop, get_or-take, length-drop, length-take-le, take-take, take_all, take_at, take_more}
use Rattle.std.proofs.lemmas.List.Elements.{All-append, All-contains, All-nil, All-push, All-take, Contains-push}
use Rattle.msr_steim.specs.Word.{FitsBits}
use Rattle.msr_words.specs.Bounds.{AreLeading}
use Rattle.msr_words.specs.Window.{IsSize}

module _ (bits : ℕ) (run : List ℤ) where
  -- the bits that are set in the size of any of the first `at` tell whether these are of that many bits
  pub record AreTogether (at sizes : ℕ) : Type 0 where
    pub are : sizes < 2 ^ (bits - 1) ↔ All (FitsBits bits) (take at run)

  pub none_together : AreTogether 0 0
  none_together = record { are = (λ below. All-nil (FitsBits bits), λ all. pow_pos (bits - 1)) }

  pub one_together : (at sizes size : ℕ) → at < length run → IsSize (get_or run at (pos 0)) size
      → AreTogether at sizes → AreTogether (at + 1) (bit_or sizes size)
  one_together at sizes size less is before =
      let x = get_or run at (pos 0) in
      let more : take (at + 1) run ≡ take at run ++ get_or run at (pos 0) ∷ [] = take_more run at (pos 0) less in
      record {
        are = (
          λ below.
              let l = le_or_l sizes size in
              let r = le_or_r sizes size in
              rw more (All-push (FitsBits bits) (take at run) x (before.are.0 (omega arith))
              ((is bits).1 (omega arith))),
          λ all.
              let whole = rw more at all in
              or_lt (bits - 1) sizes size
              (before.are.1 (subst (All (FitsBits bits)) (take_at (take at run) (x ∷ []) (length (take at run)) refl)
              (All-take (FitsBits bits) (length (take at run)) (take at run ++ x ∷ []) whole)))
              ((is bits).0 (All-contains (FitsBits bits) (take at run ++ x ∷ []) x whole
              (Contains-push (take at run) x))),
        );
      }

  -- all are, up to `at`
  pub record AreAll (at : ℕ) : Type 0 where
    pub within : at ≤ length run
    pub all : All (FitsBits bits) (take at run)

  pub none_of_all : AreAll 0
  none_of_all = record { within = omega arith; all = All-nil (FitsBits bits) }

  pub more_of_all : (at next : ℕ) → at ≤ next → next ≤ length run → All (FitsBits bits) (slice_range run at next)
      → AreAll at → AreAll next
  more_of_all at next le within part before = record {
    within = within;
    all =
        let sum : at + (next - at) ≡ next = omega arith in
        subst (λ n. All (FitsBits bits) (take n run)) sum
        (subst (All (FitsBits bits)) (sym (take-add at (next - at) run))
        (All-append (FitsBits bits) (take at run) (take (next - at) (drop at run)) before.all part));
  }

  pub one_of_all : (at : ℕ) → at < length run → FitsBits bits (get_or run at (pos 0)) → AreAll at → AreAll (at + 1)
  one_of_all at less here before = record {
    within = omega arith;
    all = rw (take_more run at (pos 0) less)
        (All-push (FitsBits bits) (take at run) (get_or run at (pos 0)) before.all here);
  }

  pub all_of_all : (at : ℕ) → length run ≤ at → All (FitsBits bits) (take at run) → All (FitsBits bits) run
  all_of_all at end all = subst (All (FitsBits bits)) (take_all at run end) all

  -- ---- as many as are

  pub leading_there : (at : ℕ) → AreAll at → (at < length run → FitsBits bits (get_or run at (pos 0)) → ⊥)
      → AreLeading bits run at
  leading_there at are wider = record { within = are.within; all = are.all; no_more = wider }

  pub leading_all : (count : ℕ) → AreLeading bits run count → length run ≤ count → All (FitsBits bits) run
  leading_all count is end = all_of_all count end is.all

  pub all_leading : (count : ℕ) → AreLeading bits run count → All (FitsBits bits) run → count ≡ length run
  all_leading count is all = elim (cases_lt count (length run)) [
    | inl less ↦ absurd (is.no_more less (all count (pos 0) less))
    | inr not ↦ let within = is.within in omega arith
  ]

-- those of a part that follows others of that many bits, and that are not all of it
pub leading_of_part : (bits : ℕ) (run : List ℤ) (at next count : ℕ) → at ≤ next → next ≤ length run → AreAll bits run at
    → AreLeading bits (slice_range run at next) count → (All (FitsBits bits) (slice_range run at next) → ⊥)
    → AreLeading bits run (at + count)
leading_of_part bits run at next count le within before is not =
    let d = length-drop at run in
    let long : length (slice_range run at next) ≡ next - at = length-take-le (next - at) (drop at run) (omega arith) in
    let least = is.within in
    let short : count < next - at = (elim (cases_lt count (next - at)) [
      | inl less ↦ less
      | inr none ↦ absurd (not (leading_all bits (slice_range run at next) count is (omega arith)))
    ]) in
    record {
      within = omega arith;
      all = subst (All (FitsBits bits)) (sym (take-add at count run))
          (All-append (FitsBits bits) (take at run) (take count (drop at run)) before.all
          (subst (All (FitsBits bits)) (take-take count (next - at) (drop at run) (omega arith)) is.all));
      no_more = λ less fits.
          let same : get_or (slice_range run at next) count (pos 0) ≡ get_or run (at + count) (pos 0) =
          get_or-take (next - at) (drop at run) count (pos 0) short ∙ get_or-drop at run count (pos 0) in
          is.no_more (omega arith) (subst (FitsBits bits) (sym same) fits);
    }
