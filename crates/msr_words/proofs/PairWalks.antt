-- A walk over Steim-1 words of two differences or one.
use Rattle.std.proofs.Common.{◌≡◌, ◌<◌, ◌≤◌, ℕ, suc, ◌+◌, ◌-◌, ℤ, Bool, true, false, List, drop, get_or, None, refl, sym, ap, subst, arith, bit_or, inl, inr, ⊎_elim}
use Rattle.std.specs.Prelude.{◌↔◌, nat_lt, IsTrue}
use Rattle.std.specs.Int.{bit_at}
use Rattle.std.proofs.lemmas.Bool.{cases_lt}
use Rattle.std.proofs.lemmas.Bool.Decides.{nat_tests}
use Rattle.std.proofs.lemmas.Nat.{le_or_l, le_or_r, or_lt}
use Rattle.std.proofs.lemmas.Nat.Bits.{bit_at-lt}
use Rattle.msr_words.specs.FirstGroup.{IsSizeAt}
use Rattle.msr_words.specs.Pairs.{ArePairs, HasWalked}
use Rattle.msr_words.specs.Segment.{differences}
use Rattle.msr_words.specs.Steim1Reach.{IsSteim1Reach, IsSteim1Word}
use Rattle.msr_words.specs.Window.{AreSeen, IsWindow, Stretch}
use Rattle.msr_words.specs.declared.pairs.Pairs.{Pairs}
use Rattle.msr_words.specs.declared.pairs.Walk.{Walk}
use Rattle.msr_words.proofs.Steim1Runs.{behind, left_behind, length-behind}
use Rattle.msr_words.proofs.Steim1Sizes.{single_next, two_next}
use Rattle.msr_words.proofs.Steim1Words.{word_law}
use Rattle.msr_words.proofs.Windows.{size_seen, window_on, window_seen}

same_answer : (b c : Bool) → (IsTrue b → IsTrue c) → (IsTrue c → IsTrue b) → b ≡ c
same_answer true true f g = refl
same_answer true false f g = sym (f refl)
same_answer false true f g = g refl
same_answer false false f g = refl

-- the answer by a bit is the answer by the size
by_bit : (spare : Bool) (bit size : ℕ) → (IsTrue spare → bit ≡ 1) → (bit ≡ 1 → IsTrue spare) → ((bit ≡ 1) ↔ size < 128)
    → nat_lt size 128 ≡ spare
by_bit spare bit size to from is = same_answer (nat_lt size 128) spare
    (λ t. let h : IsTrue (nat_lt size 128) = t in from (is.1 (grind (arith, nat_tests))))
    (λ t. let less : size < 128 = is.0 (to t) in grind (arith, nat_tests))

module _ (ds : List ℤ) (sizes : List ℕ) (pairs : Pairs) (place : ℕ) (old : Bool) (inside : place < 58)
    (are : ArePairs sizes pairs) (s : (k : ℕ) → k < 7 → IsSizeAt ds k (get_or sizes (place + k) 0)) where
  abbrev size : ℕ → ℕ
  size k = get_or sizes (place + k) 0

  -- three that follow one another are not all small
  mixed_here : bit_or (bit_or (size 0) (size 1)) (size 2) < 128 → ⊥
  mixed_here small =
      let l = le_or_l (size 0) (size 1) in
      let r = le_or_r (size 0) (size 1) in
      let l' = le_or_l (bit_or (size 0) (size 1)) (size 2) in
      let r' = le_or_r (bit_or (size 0) (size 1)) (size 2) in
      let none : place + 0 ≡ place = omega arith in
      let first : get_or sizes place 0 < 128 = subst (λ n. get_or sizes n 0 < 128) none (omega arith) in
      are.mixed place (omega arith) first (omega arith) (omega arith)

  -- the next word, by its bit
  pub next_pair : (after : Bool) → nat_lt (get_or sizes (place + bit_at pairs.both place) 0) 128 ≡ after
      → IsSteim1Word ds old (1 + bit_at pairs.both place) after
  next_pair after is =
      let none : place + 0 ≡ place = omega arith in
      let zeroth : size 0 ≡ get_or sizes place 0 = ap (λ n. get_or sizes n 0) none in
      let both = are.both place (omega arith) in
      let l = le_or_l (size 0) (size 1) in
      let r = le_or_r (size 0) (size 1) in
      let few = bit_at-lt pairs.both place in
      let fits = are.fit place (omega arith) in
      elim (cases_lt (bit_at pairs.both place) 1) [
        | inl less ↦
            let zero_is : bit_at pairs.both place ≡ 0 = omega arith in
            let large : 32768 ≤ bit_or (size 0) (size 1) =
            ⊎_elim (λ (under : bit_or (size 0) (size 1) < 32768). let bad : bit_at pairs.both place ≡ 1 =
            both.1 (omega (arith, zeroth, l, under), omega (arith, r, under)) in absurd (omega (arith, bad)))
            (λ (le : 32768 ≤ bit_or (size 0) (size 1)). le) (cases_lt (bit_or (size 0) (size 1)) 32768) in
            subst (λ b. IsSteim1Word ds old (1 + b) after) (sym zero_is)
            (subst (IsSteim1Word ds old 1) (subst (λ b. nat_lt (get_or sizes (place + b) 0) 128 ≡ after) zero_is is)
            (single_next ds (size 0) (size 1) (size 2) (size 3) (s 0 (omega arith)) (s 1 (omega arith))
            (s 2 (omega arith)) (s 3 (omega arith)) old large (omega arith)))
        | inr more ↦
            let one_is : bit_at pairs.both place ≡ 1 = omega arith in
            let two = both.0 one_is in
            subst (λ b. IsSteim1Word ds old (1 + b) after) (sym one_is)
            (subst (IsSteim1Word ds old 2) (subst (λ b. nat_lt (get_or sizes (place + b) 0) 128 ≡ after) one_is is)
            (two_next ds (size 0) (size 1) (size 2) (size 3) (s 0 (omega arith)) (s 1 (omega arith))
            (s 2 (omega arith)) (s 3 (omega arith)) old (or_lt 15 (size 0) (size 1) (omega (arith, zeroth, two.0)) two.1)
            (λ small. absurd (mixed_here small))))
      ]

-- a walk goes on by the next word
pub walk_on : (samples : List ℤ) (start : ℕ) (walk : Walk) (size : ℕ) (after : Bool) → HasWalked samples start walk
    → IsSteim1Word (drop walk.at (differences None samples)) walk.spare size after → 0 < size
    → HasWalked samples start (record { at = walk.at + size; words = walk.words + 1; spare = after })
walk_on samples start walk size after walked next some =
    let from = walked.from in
    let within = walked.within in
    let here : IsSteim1Word (drop (walk.at - start) (behind samples start)) walk.spare size after =
    subst (λ ds. IsSteim1Word ds walk.spare size after) (left_behind samples start walk.at from) next in
    let more = word_law walk.words (behind samples start) (walk.at - start) size walk.spare after walked.reach here some in
    let one : suc walk.words ≡ walk.words + 1 = omega arith in
    let sum : walk.at - start + size ≡ walk.at + size - start = omega arith in
    let l = length-behind samples start in
    let w = more.within in
    record {
      from = omega arith;
      within = omega arith;
      reach = subst (λ k. IsSteim1Reach k (behind samples start) (walk.at + size - start) after) one
          (subst (λ m. IsSteim1Reach (suc walk.words) (behind samples start) m after) sum more);
    }

-- a walk goes on inside a window
pub pass_on : (samples : List ℤ) (window : Stretch) (pairs : Pairs) (at : ℕ) (start : ℕ) (walk : Walk) (after : Bool)
    → IsWindow samples at window → at ≤ walk.at → walk.at < window.until → ArePairs window.sizes pairs
    → (IsTrue after ↔ (bit_at pairs.small (walk.at + (1 + bit_at pairs.both (walk.at - window.first)) - window.first - 1) ≡ 1))
    → HasWalked samples start walk
    → HasWalked samples start (record {
      at = walk.at + (1 + bit_at pairs.both (walk.at - window.first));
      words = walk.words + 1;
      spare = after;
    })
pass_on samples window pairs at start walk after is le early are told walked =
    let b = is.before in
    let u = is.until in
    let m = is.most in
    let place = walk.at - window.first in
    let ds = drop walk.at (differences None samples) in
    let bit = bit_at-lt pairs.both place in
    let on : IsWindow samples walk.at window = window_on samples at walk.at window le is in
    let seen : AreSeen ds window.sizes window.kept place =
    window_seen samples walk.at window None on (omega arith) in
    let last : walk.at + (1 + bit_at pairs.both place) - window.first - 1 ≡ place + bit_at pairs.both place =
    omega arith in
    let small = are.small.each (place + bit_at pairs.both place) (omega arith) in
    let told' = subst (λ n. IsTrue after ↔ (bit_at pairs.small n ≡ 1)) last told in
    walk_on samples start walk (1 + bit_at pairs.both place) after walked
    (next_pair ds window.sizes pairs place walk.spare (omega arith) are
    (λ k less. size_seen ds window.sizes window.kept place k (place + k) refl seen less) after
    (by_bit after _ _ told'.0 told'.1 small)) (omega arith)
