-- The sizes of groups that a walk of Steim-2 told, one after another.
use Rattle.std.proofs.Common.{◌≡◌, ℕ, suc, ◌+◌, ◌-◌, ◌<◌, ◌≤◌, ◌≢◌, ℤ, List, length, map, take, drop, get_or, None, arith, refl, sym, ap, ◌∙◌, subst, inl, inr}
use Rattle.std.specs.Prelude.{set, slice_set, slice_index, sum}
use Rattle.std.proofs.Math.Seq.{take-suc-set}
use Rattle.std.proofs.lemmas.Bool.{cases_lt}
use Rattle.std.proofs.lemmas.List.{drop-drop, drop-map, drop-take, get_or-set_other, get_or-set_same, get_or-take, length-drop, length-take-le, take-map, take-set-le, take-take}
use Rattle.std.proofs.lemmas.List.Sums.{sum_by_more_le, sum_by_push}
use Rattle.msr_words.specs.Groups.{AreGroupSizes, IsLongestGroup}
use Rattle.msr_words.specs.Segment.{differences, points, run_points}
use Rattle.msr_words.proofs.Plain.{length-differences}
use Rattle.msr_words.proofs.Steim2Runs.{run_points_seen}

-- the first `number` places have the sizes of the longest groups of which the first `reach` of these differences are
pub record AreTold (ds : List ℤ) (reach number : ℕ) (sizes : List ℕ) : Type 0 where
  pub all : sum (take number sizes) ≡ reach
  pub each : (n : ℕ) → n < number → IsLongestGroup (drop (sum (take n sizes)) ds) (slice_index sizes n)
  pub some : (n : ℕ) → n < number → 0 < slice_index sizes n

pub none_told : (ds : List ℤ) (sizes : List ℕ) → AreTold ds 0 0 sizes
none_told ds sizes = record {
  all = refl;
  each = λ n less. absurd (omega arith);
  some = λ n less. absurd (omega arith);
}

pub one_told : (ds : List ℤ) (reach number size : ℕ) (sizes : List ℕ) → number < length sizes
    → IsLongestGroup (drop reach ds) size → 0 < size → AreTold ds reach number sizes
    → AreTold ds (reach + size) (number + 1) (slice_set sizes number size)
one_told ds reach number size sizes room longest some told = record {
  all =
      let next : number + 1 ≡ suc number = omega arith in
      ap (λ n. sum (take n (set sizes number size))) next ∙ ap sum (take-suc-set sizes number size room)
      ∙ sum_by_push (λ (n : ℕ). n) (take number sizes) size ∙ ap (λ n. n + size) told.all;
  each = λ n less. elim (cases_lt n number) [
    | inl before ↦
        let other : n ≢ number = omega arith in
        rw (take-set-le n sizes number size (omega arith), get_or-set_other sizes number n size 0 other)
        (told.each n before)
    | inr not ↦
        let here : IsLongestGroup (drop (sum (take number (set sizes number size))) ds)
        (get_or (set sizes number size) number 0) =
        rw (take-set-le number sizes number size (omega arith), told.all, get_or-set_same sizes number size 0 room)
        longest in
        let same : number ≡ n = omega arith in
        subst (λ k. IsLongestGroup (drop (sum (take k (set sizes number size))) ds)
        (get_or (set sizes number size) k 0)) same here
  ];
  some = λ n less. elim (cases_lt n number) [
    | inl before ↦
        let other : n ≢ number = omega arith in
        rw (get_or-set_other sizes number n size 0 other) (told.some n before)
    | inr not ↦
        let here : 0 < get_or (set sizes number size) number 0 =
        rw (get_or-set_same sizes number size 0 room) some in
        let same : number ≡ n = omega arith in
        subst (λ k. 0 < get_or (set sizes number size) k 0) same here
  ];
}

pub walk_told : (samples : List ℤ) (start at number size : ℕ) (sizes : List ℕ) → start ≤ at → number < length sizes
    → IsLongestGroup (drop at (differences None samples)) size → 0 < size
    → AreTold (drop start (differences None samples)) (at - start) number sizes
    → AreTold (drop start (differences None samples)) (at + size - start) (number + 1) (slice_set sizes number size)
walk_told samples start at number size sizes order room longest some told =
    let there : start + (at - start) ≡ at = omega arith in
    let same : drop at (differences None samples) ≡ drop (at - start) (drop start (differences None samples)) =
    ap (λ n. drop n (differences None samples)) (sym there)
    ∙ sym (drop-drop (at - start) start (differences None samples)) in
    let sum : at - start + size ≡ at + size - start = omega arith in
    subst (λ n. AreTold (drop start (differences None samples)) n (number + 1) (slice_set sizes number size)) sum
    (one_told (drop start (differences None samples)) (at - start) number size sizes room
    (subst (λ xs. IsLongestGroup xs size) same longest) some told)

-- a group that is the longest of some differences is the longest of as many of them as have it
longest_in : (ds : List ℤ) (m count : ℕ) → count ≤ m → m ≤ length ds → IsLongestGroup ds count
    → IsLongestGroup (take m ds) count
longest_in ds m count few within is =
    let long = length-take-le m ds within in
    record {
      within = omega arith;
      group = λ some. rw (take-take count m ds few) (is.group some);
      no_more = λ less group. is.no_more (omega arith) (rw (take-take (count + 1) m ds (omega arith)) at group);
    }

pub sizes_told : (ds : List ℤ) (reach number : ℕ) (sizes : List ℕ) → reach ≤ length ds → number ≤ length sizes
    → AreTold ds reach number sizes → AreGroupSizes (take reach ds) (take number sizes)
sizes_told ds reach number sizes within room told =
    let long = length-take-le number sizes room in
    record {
      all = told.all ∙ sym (length-take-le reach ds within);
      each = λ n less.
          let s = sum (take n sizes) in
          let before = take-take n number sizes (omega arith) in
          let here = get_or-take number sizes n 0 (omega arith) in
          let most = sum_by_more_le (λ (k : ℕ). k) (take number sizes) n 0 less in
          let all = told.all in
          let upto : sum (take n sizes) + get_or sizes n 0 ≤ reach = (rw (before, here, all) at most) in
          let whole : sum (take n sizes) + (reach - sum (take n sizes)) ≡ reach = omega arith in
          let rest : drop s (take reach ds) ≡ take (reach - s) (drop s ds) =
          ap (λ k. drop s (take k ds)) (sym whole) ∙ drop-take s (reach - s) ds in
          let l = length-drop s ds in
          rw (before, here) (subst (λ xs. IsLongestGroup xs (get_or sizes n 0)) (sym rest)
          (longest_in (drop s ds) (reach - s) (get_or sizes n 0) (omega arith) (omega arith)
          (told.each n (omega arith))));
      some = λ n less. rw (get_or-take number sizes n 0 (omega arith)) (told.some n (omega arith));
    }

-- the differences of a run, of the first samples alone
pub differences_of_run : (samples : List ℤ) (a b latest : ℕ) → a ≤ b → b ≤ latest → latest ≤ length samples
    → map (λ p. p.1) (run_points samples a b) ≡ take (b - a) (drop a (differences None (take latest samples)))
differences_of_run samples a b latest order within inside =
    ap (map (λ (p : ℤ × ℤ). p.1)) (run_points_seen samples a b latest order within inside)
    ∙ sym (take-map (λ (p : ℤ × ℤ). p.1) (b - a) (drop a (points None (take latest samples))))
    ∙ ap (take (b - a)) (sym (drop-map (λ (p : ℤ × ℤ). p.1) a (points None (take latest samples))))

-- what a walk over the first samples told are the sizes of the groups of the run to where it ended
pub walked_sizes : (samples : List ℤ) (start at latest number : ℕ) (sizes : List ℕ) → start ≤ at → at ≤ latest
    → latest ≤ length samples → number ≤ length sizes
    → AreTold (drop start (differences None (take latest samples))) (at - start) number sizes
    → AreGroupSizes (map (λ p. p.1) (run_points samples start at)) (take number sizes)
walked_sizes samples start at latest number sizes order within inside room told =
    let long = length-take-le latest samples inside in
    let l = length-drop start (differences None (take latest samples)) in
    let n = length-differences None (take latest samples) in
    subst (λ ds. AreGroupSizes ds (take number sizes))
    (sym (differences_of_run samples start at latest order within inside))
    (sizes_told (drop start (differences None (take latest samples))) (at - start) number sizes (omega arith) room told)
