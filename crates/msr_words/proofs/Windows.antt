-- The differences that a window has, with their sizes.
use Rattle.std.proofs.Common.{◌≡◌, ◌<◌, ◌≤◌, ◌<ℤ◌, ℕ, zero, suc, ◌+◌, ◌-◌, ◌^◌, ℤ, pos, negsuc, ◌+ℤ◌, ◌-ℤ◌, nat_abs, get_or, slice_set, drop, List, ◌∷◌, length, Option, None, lit<, sym, ap, ◌∙◌, subst, arith, bit_or, inl, inr}
use Rattle.std.specs.Prelude.{set}
use Rattle.std.proofs.lemmas.Bool.{cases_eq}
use Rattle.std.proofs.lemmas.Int.{ints}
use Rattle.std.proofs.Math.Nat.{pow-le-pow_right}
use Rattle.std.proofs.lemmas.List.{get_or-set_other, get_or-set_same, length-drop}
use Rattle.msr_steim.specs.Word.{FitsBits}
use Rattle.msr_words.specs.FirstGroup.{IsSizeAt}
use Rattle.msr_words.specs.Groups.{IsLongestGroup}
use Rattle.msr_words.specs.Segment.{difference_at, differences}
use Rattle.msr_words.specs.Window.{AreSeen, AreTaken, IsSize, IsTaken, IsWindow, Stretch}
use Rattle.msr_words.proofs.FillSizes.{from_inside, longest_0, longest_1, longest_2, longest_3, longest_4, longest_5, longest_6, longest_7, seven_of, there}
use Rattle.msr_words.proofs.Plain.{length-differences}

-- ---- one difference

pub size_below : (z : ℤ) → z <ℤ pos 0 → IsSize z (nat_abs (pos 0 -ℤ (z +ℤ pos 1)))
size_below (pos n) less = absurd (omega (arith, ints, less))
size_below (negsuc zero) less = λ width. (λ f. f, λ f. f)
size_below (negsuc (suc n)) less =
    let one : negsuc (suc n) +ℤ pos 1 ≡ negsuc n = omega (arith, ints) in
    subst (λ y. IsSize (negsuc (suc n)) (nat_abs (pos 0 -ℤ y))) (sym one) same
  where
    same : IsSize (negsuc (suc n)) (0 + suc n)
    same width = (
      (λ f. let g : suc n < 2 ^ (width - 1) = f in omega arith),
      (λ f. let g : suc n < 2 ^ (width - 1) = omega (arith, f) in g),
    )

-- ---- place by place

module _ (samples : List ℤ) (first i : ℕ) (sizes : List ℕ) (kept : List ℤ) (size : ℕ) (difference : ℤ)
    (room : i < length sizes) (room' : i < length kept)
    (here : IsTaken (difference_at samples (first + i)) size difference) where
  pub taken_more : AreTaken samples first i sizes kept
      → AreTaken samples first (i + 1) (slice_set sizes i size) (slice_set kept i difference)
  taken_more is = record {
    each = λ k less. elim (cases_eq k i) [
      | inl e ↦ subst (λ n. IsTaken (difference_at samples (first + n)) (get_or (set sizes i size) n 0)
          (get_or (set kept i difference) n (pos 0))) (sym e)
          (rw (get_or-set_same sizes i size 0 room, get_or-set_same kept i difference (pos 0) room') here)
      | inr other ↦ rw (
        get_or-set_other sizes i k size 0 other,
        get_or-set_other kept i k difference (pos 0) other,
      ) (is.each k (omega (arith, other)))
    ];
  }

-- ---- from the samples on

pub window_on : (samples : List ℤ) (at at' : ℕ) (window : Stretch) → at ≤ at' → IsWindow samples at window
    → IsWindow samples at' window
window_on samples at at' window le is = record {
  before = (let b = is.before in omega arith);
  within = is.within;
  most = is.most;
  whole = is.whole;
  until = is.until;
  later = is.later;
  taken = is.taken;
}

pub window_seen : (samples : List ℤ) (at : ℕ) (window : Stretch) (before : Option ℤ) → IsWindow samples at window
    → at + 7 ≤ window.end
    → AreSeen (drop at (differences before samples)) window.sizes window.kept (at - window.first)
window_seen samples at window before is seven =
    let b = is.before in
    let w = is.within in
    let l = length-drop at (differences before samples) in
    let n = length-differences before samples in
    let later : 0 < at = (let f = is.later (omega arith) in omega arith) in
    record {
      long = omega arith;
      each = λ k less.
          let place : window.first + (at - window.first + k) ≡ at + k = omega arith in
          let same : difference_at samples (window.first + (at - window.first + k))
          ≡ get_or (drop at (differences before samples)) k (pos 0) =
          ap (difference_at samples) place ∙ from_inside before samples (at + k) (omega arith)
          ∙ sym (there before samples at k (omega arith)) in
          subst (λ d. IsTaken d (get_or window.sizes (at - window.first + k) 0)
          (get_or window.kept (at - window.first + k) (pos 0))) same (is.taken.each (at - window.first + k)
          (omega arith));
    }

-- ---- the longest group of seven

module _ (ds : List ℤ) (sizes : List ℕ) (kept : List ℤ) (place : ℕ) (seen : AreSeen ds sizes kept place) where
  abbrev pub d : ℕ → ℤ
  d k = get_or ds k (pos 0)

  abbrev pub m : ℕ → ℕ
  m zero = get_or sizes place 0
  m (suc k) = get_or sizes (place + suc k) 0

  h : (k : ℕ) → k < 7 → IsSize (d k) (m k)
  h zero less = (let none : place + 0 ≡ place = omega arith in
      subst (λ n. IsSize (d 0) (get_or sizes n 0)) none (seen.each 0 less).size_is)
  h (suc k) less = (seen.each (suc k) less).size_is

  whole : d 0 ∷ d 1 ∷ d 2 ∷ d 3 ∷ d 4 ∷ d 5 ∷ d 6 ∷ drop 7 ds ≡ ds
  whole = sym (seven_of ds seen.long)

  abbrev pub two : ℕ
  two = bit_or (m 0) (m 1)

  abbrev pub three : ℕ
  three = bit_or two (m 2)

  abbrev pub four : ℕ
  four = bit_or three (m 3)

  abbrev pub five : ℕ
  five = bit_or four (m 4)

  abbrev pub six : ℕ
  six = bit_or five (m 5)

  abbrev pub seven : ℕ
  seven = bit_or six (m 6)

  pub seen_0 : 536870912 ≤ m 0 → IsLongestGroup ds 0
  seen_0 p = subst (λ xs. IsLongestGroup xs 0) whole
      (longest_0 (d 0) (d 1 ∷ d 2 ∷ d 3 ∷ d 4 ∷ d 5 ∷ d 6 ∷ drop 7 ds) (m 0) (h 0 (omega arith)) p)

  pub seen_1 : m 0 < 536870912 → 16384 ≤ two → IsLongestGroup ds 1
  seen_1 p q = subst (λ xs. IsLongestGroup xs 1) whole
      (longest_1 (d 0) (d 1) (d 2 ∷ d 3 ∷ d 4 ∷ d 5 ∷ d 6 ∷ drop 7 ds) (m 0) (m 1) (h 0 (omega arith))
      (h 1 (omega arith)) p q)

  pub seen_2 : two < 16384 → 512 ≤ three → IsLongestGroup ds 2
  seen_2 p q = subst (λ xs. IsLongestGroup xs 2) whole
      (longest_2 (d 0) (d 1) (d 2) (d 3 ∷ d 4 ∷ d 5 ∷ d 6 ∷ drop 7 ds) (m 0) (m 1) (m 2) (h 0 (omega arith))
      (h 1 (omega arith)) (h 2 (omega arith)) p q)

  pub seen_3 : three < 512 → 128 ≤ four → IsLongestGroup ds 3
  seen_3 p q = subst (λ xs. IsLongestGroup xs 3) whole
      (longest_3 (d 0) (d 1) (d 2) (d 3) (d 4 ∷ d 5 ∷ d 6 ∷ drop 7 ds) (m 0) (m 1) (m 2) (m 3) (h 0 (omega arith))
      (h 1 (omega arith)) (h 2 (omega arith)) (h 3 (omega arith)) p q)

  pub seen_4 : four < 128 → 32 ≤ five → IsLongestGroup ds 4
  seen_4 p q = subst (λ xs. IsLongestGroup xs 4) whole
      (longest_4 (d 0) (d 1) (d 2) (d 3) (d 4) (d 5 ∷ d 6 ∷ drop 7 ds) (m 0) (m 1) (m 2) (m 3) (m 4)
      (h 0 (omega arith)) (h 1 (omega arith)) (h 2 (omega arith)) (h 3 (omega arith)) (h 4 (omega arith)) p q)

  pub seen_5 : five < 32 → 16 ≤ six → IsLongestGroup ds 5
  seen_5 p q = subst (λ xs. IsLongestGroup xs 5) whole
      (longest_5 (d 0) (d 1) (d 2) (d 3) (d 4) (d 5) (d 6 ∷ drop 7 ds) (m 0) (m 1) (m 2) (m 3) (m 4) (m 5)
      (h 0 (omega arith)) (h 1 (omega arith)) (h 2 (omega arith)) (h 3 (omega arith)) (h 4 (omega arith))
      (h 5 (omega arith)) p q)

  pub seen_6 : six < 16 → 8 ≤ seven → IsLongestGroup ds 6
  seen_6 p q = subst (λ xs. IsLongestGroup xs 6) whole
      (longest_6 (d 0) (d 1) (d 2) (d 3) (d 4) (d 5) (d 6) (drop 7 ds) (m 0) (m 1) (m 2) (m 3) (m 4) (m 5) (m 6)
      (h 0 (omega arith)) (h 1 (omega arith)) (h 2 (omega arith)) (h 3 (omega arith)) (h 4 (omega arith))
      (h 5 (omega arith)) (h 6 (omega arith)) p q)

  pub seen_7 : seven < 8 → IsLongestGroup ds 7
  seen_7 p = subst (λ xs. IsLongestGroup xs 7) whole
      (longest_7 (d 0) (d 1) (d 2) (d 3) (d 4) (d 5) (d 6) (drop 7 ds) (m 0) (m 1) (m 2) (m 3) (m 4) (m 5) (m 6)
      (h 0 (omega arith)) (h 1 (omega arith)) (h 2 (omega arith)) (h 3 (omega arith)) (h 4 (omega arith))
      (h 5 (omega arith)) (h 6 (omega arith)) p)

-- ---- the size at a place

pub size_seen : (ds : List ℤ) (sizes : List ℕ) (kept : List ℤ) (place k i : ℕ) → i ≡ place + k
    → AreSeen ds sizes kept place → k < 7 → IsSizeAt ds k (get_or sizes i 0)
size_seen ds sizes kept place k i e seen less width small =
    let l = seen.long in
    let is = subst (λ n. IsSize (get_or ds k (pos 0)) (get_or sizes n 0)) (sym e) (seen.each k less).size_is in
    (λ below. (omega arith, (is width).1 below), λ fits. (is width).0 fits.1)

pub size_there : (samples : List ℤ) (at size : ℕ) → at < length samples → IsSize (difference_at samples at) size
    → IsSizeAt (drop at (differences None samples)) 0 size
size_there samples at size less is width small =
    let l = length-drop at (differences None samples) in
    let n = length-differences None samples in
    let one : at + 0 ≡ at = omega arith in
    let e : get_or (drop at (differences None samples)) 0 (pos 0) ≡ difference_at samples at =
    there None samples at 0 (omega arith) ∙ ap (difference_at samples) one in (
      λ below. (omega arith, subst (FitsBits width) (sym e) ((is width).1 below)),
      λ fits. (is width).0
          (subst (FitsBits width) e fits.1),
    )

pub size_past : (samples : List ℤ) (at size : ℕ) → length samples ≤ at → 2147483648 ≤ size
    → IsSizeAt (drop at (differences None samples)) 0 size
size_past samples at size past large width small =
    let l = length-drop at (differences None samples) in
    let n = length-differences None samples in
    let most : 2 ^ (width - 1) ≤ 2 ^ 31 = pow-le-pow_right {n = 2} (lit< tt) {i = width - 1} {j = 31} (omega arith) in
    (λ below. absurd (omega arith), λ fits. let h = fits.0 in absurd (omega arith))
