-- A walk of the longest Steim-2 groups over a segment.
use Rattle.std.proofs.Common.{◌≡◌, ℕ, zero, suc, ◌+◌, ◌-◌, ◌<◌, ◌≤◌, min, ℤ, Bool, IsTrue, List, length, map, take, drop, None, arith, refl, sym, ap, ◌∙◌, subst, inl, inr}
use Rattle.std.specs.Prelude.{All}
use Rattle.std.proofs.lemmas.Bool.{cases_lt}
use Rattle.std.proofs.lemmas.List.{drop-drop, drop-map, length-drop, length-take-le, take-append-drop}
use Rattle.msr_base.specs.declared.kinds.Kind.TheVariants.{Steim2}
use Rattle.msr_words.specs.Bounds.{AreNarrow, AreNarrowThrough, GreedyLaw, IsEnd, IsGreedyReach, latest_end}
use Rattle.msr_words.specs.Fit.{Fits, IsRun}
use Rattle.msr_words.specs.Groups.{IsLongestGroup}
use Rattle.msr_words.specs.Laws.{IsNarrow}
use Rattle.msr_base.specs.RecordLength.{words_of}
use Rattle.msr_words.specs.Segment.{difference_at, differences, points, run_points}
use Rattle.msr_words.proofs.GreedyReach.{narrow_in_group}
use Rattle.msr_words.proofs.Plain.{length-differences}
use Rattle.msr_words.proofs.Runs.{by_front, run_points_stay}
use Rattle.msr_words.proofs.Stretches.{one_narrow}

-- all but `left` of the words were filled from `start` to `at`: how far the others reach, all of them reach
pub record IsWalked (words left : ℕ) (samples : List ℤ) (start at : ℕ) : Type 0 where
  pub from : start ≤ at
  pub within : at ≤ length samples
  pub reach : (rest : ℕ) → IsGreedyReach left (drop at (differences None samples)) rest
      → IsGreedyReach words (drop start (differences None samples)) (at - start + rest)

pub walk_begins : (words : ℕ) (samples : List ℤ) (start : ℕ) → start ≤ length samples
    → IsWalked words words samples start start
walk_begins words samples start le = record {
  from = omega arith;
  within = le;
  reach = λ rest is. let none : rest ≡ start - start + rest = omega arith in
      subst (IsGreedyReach words (drop start (differences None samples))) none is;
}

pub walk_more : (words left : ℕ) (samples : List ℤ) (start at size : ℕ)
    → IsLongestGroup (drop at (differences None samples)) size
    → IsWalked words (suc left) samples start at → IsWalked words left samples start (at + size)
walk_more words left samples start at size longest is =
    let l = length-drop at (differences None samples) in
    let n = length-differences None samples in
    let w = longest.within in
    let from' = is.from in
    let within' = is.within in
    record {
      from = omega arith;
      within = omega arith;
      reach = λ rest there.
          let behind : IsGreedyReach left (drop size (drop at (differences None samples))) rest =
          subst (λ xs. IsGreedyReach left xs rest) (sym (drop-drop size at (differences None samples))) there in
          let here : IsGreedyReach (suc left) (drop at (differences None samples)) (size + rest) =
          (size, rest, longest, behind, refl) in
          let sum : at - start + (size + rest) ≡ at + size - start + rest = omega arith in
          subst (IsGreedyReach words (drop start (differences None samples))) sum (is.reach (size + rest) here);
    }

-- the differences from g up to an end
differences_up_to : (samples : List ℤ) (g end : ℕ) → g ≤ end
    → map (λ p. p.1) (run_points samples g end) ≡ drop g (differences None (take end samples))
differences_up_to samples g end order = ap (map (λ (p : ℤ × ℤ). p.1)) (by_front samples g end order)
    ∙ sym (drop-map (λ (p : ℤ × ℤ). p.1) g (points None (take end samples)))

-- ---- narrow differences

narrow_more : (samples : List ℤ) (start at n : ℕ) → start ≤ at → at + n ≤ length samples
    → ((k : ℕ) → k < n → IsNarrow (difference_at samples (at + k))) → AreNarrow samples start at
    → AreNarrow samples start (at + n)
narrow_more samples start at zero le within each all = let none : at ≡ at + 0 = omega arith in
    subst (AreNarrow samples start) none all
narrow_more samples start at (suc n) le within each all =
    let one : at + n + 1 ≡ at + suc n = omega arith in
    subst (AreNarrow samples start) one
    (one_narrow samples start (at + n) (omega arith) (omega arith) (each n (omega arith))
    (narrow_more samples start at n le (omega arith) (λ k less. each k (omega arith)) all))

pub group_narrow : (samples : List ℤ) (start at size : ℕ) → start ≤ at → at ≤ length samples
    → IsLongestGroup (drop at (differences None samples)) size
    → 1 < size → AreNarrow samples start at → AreNarrow samples start (at + size)
group_narrow samples start at size le within longest some all =
    let l = length-drop at (differences None samples) in
    let n = length-differences None samples in
    let w = longest.within in
    narrow_more samples start at size le (omega arith)
    (λ k less. narrow_in_group samples at size k longest some less) all

-- the run is the same in the first samples
pub run_points_seen : (samples : List ℤ) (start at latest : ℕ) → start ≤ at → at ≤ latest → latest ≤ length samples
    → run_points samples start at ≡ run_points (take latest samples) start at
run_points_seen samples start at latest order within inside =
    let long = length-take-le latest samples inside in
    ap (λ xs. run_points xs start at) (sym (take-append-drop latest samples))
    ∙ run_points_stay (take latest samples) (drop latest samples) start at order (omega arith)

narrow_seen : (samples : List ℤ) (start at latest : ℕ) → start ≤ at → at ≤ latest → latest ≤ length samples
    → AreNarrow (take latest samples) start at → AreNarrow samples start at
narrow_seen samples start at latest order within inside narrow = record {
  all = subst (λ run. All (λ (p : ℤ × ℤ). IsNarrow p.1) run)
      (sym (run_points_seen samples start at latest order within inside)) narrow.all;
}

narrow_through : (samples : List ℤ) (start at : ℕ) → start ≤ at → at ≤ length samples → AreNarrow samples start at
    → (at < length samples → IsNarrow (difference_at samples at)) → AreNarrowThrough samples start at
narrow_through samples start at le within all there = elim (cases_lt at (length samples)) [
  | inl less ↦
      let one : at + 1 ≡ min (at + 1) (length samples) = omega arith in
      subst (AreNarrow samples start) one (one_narrow samples start at le less (there less) all)
  | inr none ↦
      let end : at ≡ min (at + 1) (length samples) = omega arith in
      subst (AreNarrow samples start) end all
]

-- ---- where the walk ends

-- the walk ends at the greatest end of a run; and, if that is told, all its differences and the one after it are narrow
pub record IsWalkedOut (bytes : ℕ) (samples : List ℤ) (start end : ℕ) (told : Bool) : Type 0 where
  pub end_is : IsEnd Steim2 bytes samples start end
  pub narrow : IsTrue told → AreNarrowThrough samples start end

-- What follows if no more is reached of the samples up to the latest end of a record.
module _ (bytes words left : ℕ) (samples : List ℤ) (start latest at : ℕ) (le : start ≤ length samples)
    (law : GreedyLaw) (words_is : words ≡ words_of bytes)
    (latest_is : latest ≡ latest_end Steim2 bytes samples start)
    (is : IsWalked words left (take latest samples) start at)
    (none : IsGreedyReach left (drop at (differences None (take latest samples))) 0) where
  seen : (latest ≤ length samples) × (start ≤ at) × (at ≤ latest)
  seen =
      let from' = is.from in
      let within' = is.within in
      let short : latest ≤ length samples = omega arith in
      let long = length-take-le latest samples short in
      (short, from', omega arith)

  reached : IsRun (Fits Steim2 bytes) samples start (start + (at - start))
      × ((s b : ℕ) → s ≤ start → IsRun (Fits Steim2 bytes) samples s b → b ≤ start + (at - start))
  reached =
      let from' = is.from in
      let sum : at - start + 0 ≡ at - start = omega arith in
      law bytes samples start (at - start) le
      (subst (λ n. IsGreedyReach (words_of bytes) (map (λ p. p.1) (run_points samples start n)) (at - start)) latest_is
      (subst (λ xs. IsGreedyReach (words_of bytes) xs (at - start))
      (sym (differences_up_to samples start latest (omega arith)))
      (subst (λ w. IsGreedyReach w (drop start (differences None (take latest samples))) (at - start)) words_is
      (subst (IsGreedyReach words (drop start (differences None (take latest samples)))) sum (is.reach 0 none)))))

  pub walked_out : (end : ℕ) (told : Bool) → end ≡ at → (IsTrue told → AreNarrow (take latest samples) start at)
      → (IsTrue told → at < length samples → IsNarrow (difference_at samples at))
      → IsWalkedOut bytes samples start end told
  walked_out end told same small behind =
      let s = seen in
      let whole : start + (at - start) ≡ at = omega arith in
      subst (λ e. IsWalkedOut bytes samples start e told) (sym same) (record {
        end_is = record {
          fits = subst (IsRun (Fits Steim2 bytes) samples start) whole reached.0;
          furthest = λ b run. let most = reached.1 start b (omega arith) run in omega arith;
        };
        narrow = λ t. narrow_through samples start at s.1 (omega arith)
            (narrow_seen samples start at latest s.1 s.2 s.0 (small t)) (behind t);
      })
