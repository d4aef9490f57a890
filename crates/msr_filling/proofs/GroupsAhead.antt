-- The words of groups that a walk of Steim-2 told with their sizes, one after another.
use Rattle.std.proofs.Common.{◌≡◌, ℕ, ◌+◌, ◌-◌, ◌<◌, ◌≤◌, ◌≢◌, ℤ, List, length, map, take, drop, get_or, None, arith, sym, ap, ◌∙◌, subst, inl, inr}
use Rattle.std.specs.Prelude.{set, slice_set, slice_index, sum}
use Rattle.std.proofs.lemmas.Bool.{cases_lt}
use Rattle.std.proofs.lemmas.List.{drop-drop, drop-take, get_or-set_other, get_or-set_same, get_or-take, length-take-le, take-set-le, take-take}
use Rattle.std.proofs.lemmas.List.Sums.{sum_by_more_le}
use Rattle.msr_base.specs.declared.storage.Version.TheVariants.{Two}
use Rattle.msr_steim.specs.Word.{group_word}
use Rattle.msr_words.specs.Segment.{differences, run_points}
use Rattle.msr_filling.proofs.SizesAhead.{AreTold, differences_of_run}
use Rattle.msr_filling.specs.GroupWords.{AreGroupWords}

-- the first `number` places have the words of the groups of these sizes
pub record AreWritten (ds : List ℤ) (number : ℕ) (sizes words : List ℕ) : Type 0 where
  pub each : (n : ℕ) → n < number
      → slice_index words n ≡ group_word Two (take (slice_index sizes n) (drop (sum (take n sizes)) ds))

pub none_written : (ds : List ℤ) (sizes words : List ℕ) → AreWritten ds 0 sizes words
none_written ds sizes words = record { each = λ n less. absurd (omega arith) }

one_written : (ds : List ℤ) (reach number size word : ℕ) (sizes words : List ℕ) → number < length sizes
    → number < length words → sum (take number sizes) ≡ reach → word ≡ group_word Two (take size (drop reach ds))
    → AreWritten ds number sizes words
    → AreWritten ds (number + 1) (slice_set sizes number size) (slice_set words number word)
one_written ds reach number size word sizes words room room' all is written = record {
  each = λ n less. elim (cases_lt n number) [
    | inl before ↦
        let other : n ≢ number = omega arith in
        rw (
          take-set-le n sizes number size (omega arith),
          get_or-set_other sizes number n size 0 other,
          get_or-set_other words number n word 0 other,
        ) (written.each n before)
    | inr not ↦
        let here : get_or (set words number word) number 0
        ≡ group_word Two (take (get_or (set sizes number size) number 0)
        (drop (sum (take number (set sizes number size))) ds)) =
        rw (
          take-set-le number sizes number size (omega arith),
          all,
          get_or-set_same sizes number size 0 room,
          get_or-set_same words number word 0 room',
        ) is in
        let same : number ≡ n = omega arith in
        subst (λ k. get_or (set words number word) k 0 ≡ group_word Two (take (get_or (set sizes number size) k 0)
        (drop (sum (take k (set sizes number size))) ds))) same here
  ];
}

pub walk_written : (samples : List ℤ) (start at number size word : ℕ) (sizes words : List ℕ) → start ≤ at
    → number < length sizes → number < length words
    → word ≡ group_word Two (take size (drop at (differences None samples)))
    → AreTold (drop start (differences None samples)) (at - start) number sizes
    → AreWritten (drop start (differences None samples)) number sizes words
    → AreWritten (drop start (differences None samples)) (number + 1) (slice_set sizes number size)
    (slice_set words number word)
walk_written samples start at number size word sizes words order room room' is told written =
    let there : start + (at - start) ≡ at = omega arith in
    let same : drop at (differences None samples) ≡ drop (at - start) (drop start (differences None samples)) =
    ap (λ n. drop n (differences None samples)) (sym there)
    ∙ sym (drop-drop (at - start) start (differences None samples)) in
    one_written (drop start (differences None samples)) (at - start) number size word sizes words room room' told.all
    (is ∙ ap (λ xs. group_word Two (take size xs)) same) written

-- each of the groups is in the first `reach` of these differences
words_written : (ds : List ℤ) (reach number : ℕ) (sizes words : List ℕ) → number ≤ length sizes
    → number ≤ length words → AreTold ds reach number sizes → AreWritten ds number sizes words
    → AreGroupWords (take reach ds) (take number sizes) (take number words)
words_written ds reach number sizes words room room' told written =
    let long = length-take-le number sizes room in
    let long' = length-take-le number words room' in
    record {
      number = omega arith;
      each = λ n less.
          let s = sum (take n sizes) in
          let before = take-take n number sizes (omega arith) in
          let here = get_or-take number sizes n 0 (omega arith) in
          let here' = get_or-take number words n 0 (omega arith) in
          let most = sum_by_more_le (λ (k : ℕ). k) (take number sizes) n 0 less in
          let all = told.all in
          let upto : sum (take n sizes) + get_or sizes n 0 ≤ reach = (rw (before, here, all) at most) in
          let whole : sum (take n sizes) + (reach - sum (take n sizes)) ≡ reach = omega arith in
          let rest : drop s (take reach ds) ≡ take (reach - s) (drop s ds) =
          ap (λ k. drop s (take k ds)) (sym whole) ∙ drop-take s (reach - s) ds in
          let group : take (get_or sizes n 0) (drop s (take reach ds)) ≡ take (get_or sizes n 0) (drop s ds) =
          ap (take (get_or sizes n 0)) rest
          ∙ take-take (get_or sizes n 0) (reach - s) (drop s ds) (omega arith) in
          rw (before, here, here', group) (written.each n (omega arith));
    }

-- what a walk over the first samples wrote are the words of the groups of the run to where it ended
pub walked_words : (samples : List ℤ) (start at latest number : ℕ) (sizes words : List ℕ) → start ≤ at → at ≤ latest
    → latest ≤ length samples → number ≤ length sizes → number ≤ length words
    → AreTold (drop start (differences None (take latest samples))) (at - start) number sizes
    → AreWritten (drop start (differences None (take latest samples))) number sizes words
    → AreGroupWords (map (λ p. p.1) (run_points samples start at)) (take number sizes) (take number words)
walked_words samples start at latest number sizes words order within inside room room' told written =
    subst (λ ds. AreGroupWords ds (take number sizes) (take number words))
    (sym (differences_of_run samples start at latest order within inside))
    (words_written (drop start (differences None (take latest samples))) (at - start) number sizes words room room'
    told written)
