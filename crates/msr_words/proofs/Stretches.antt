-- How wide the differences of a stretch are, and one difference more at its end.
use Rattle.std.proofs.Common.{◌≡◌, ℕ, zero, suc, ◌+◌, ◌-◌, ◌*◌, ◌<◌, ◌≤◌, min, ℤ, pos, ◌-ℤ◌, Bool, List, [], ◌∷◌, ◌++◌, length, map, get_or, arith, refl, sym, ap, ◌∙◌, subst, inl, inr}
use Rattle.std.specs.Prelude.{slice_index_or, cond, count_by}
use Rattle.std.proofs.lemmas.Bool.{cases_lt}
use Rattle.std.proofs.lemmas.List.{map-append}
use Rattle.std.proofs.lemmas.List.Elements.{All-append, All-nil, All-push}
use Rattle.std.proofs.lemmas.List.Sums.{sum_by-append, sum_by_push}
use Rattle.msr_base.specs.declared.kinds.Kind.{Kind}
use Rattle.msr_base.specs.declared.kinds.Kind.TheVariants.{Steim1, Steim2}
use Rattle.msr_base.specs.RecordLength.{words_of}
use Rattle.msr_words.specs.Bounds.{AreNarrow, AreNarrowThrough, IsEnd, is_very_wide, is_wide}
use Rattle.msr_words.specs.Fit.{Fits, IsRun}
use Rattle.msr_words.specs.Laws.{IsNarrow}
use Rattle.msr_words.specs.Segment.{difference_at, run_points}
use Rattle.msr_words.specs.Lemmas.KindLaws.{prefix_kind}
use Rattle.msr_words.specs.Window.{IsSize}
use Rattle.msr_words.proofs.Dominance.{narrow_yes, steim2_dominates}
use Rattle.msr_words.proofs.WordRoom.{halves_of_steim2}
use Rattle.msr_words.proofs.Runs.{prefix_run, run_points_cut, run_points_more, run_points_none}

-- ---- one difference

-- of a sample that is not the first, by the sample before it
pub difference_between : (samples : List ℤ) (at : ℕ) → 0 < at
    → slice_index_or samples at (pos 0) -ℤ slice_index_or samples (at - 1) (pos 0) ≡ difference_at samples at
difference_between samples zero some = absurd (omega arith)
difference_between samples (suc i) some = let e : suc i - 1 ≡ i = omega arith in rw e refl

pub narrow_of_size : (d : ℤ) (size : ℕ) → IsSize d size → size < 16384 → IsNarrow d
narrow_of_size d size is less = narrow_yes d size is (inl less) (omega arith)

-- ---- wide ones, counted

-- one sample more at the end of a stretch
count_more : (test : ℤ → Bool) (samples : List ℤ) (a i : ℕ) → a ≤ i → i < length samples →
    count_by test (map (λ p. p.1) (run_points samples a (i + 1)))
    ≡ count_by test (map (λ p. p.1) (run_points samples a i)) + cond (test (difference_at samples i)) 1 0
count_more test samples a i le less =
    let p : ℤ × ℤ = (slice_index_or samples i (pos 0), difference_at samples i) in
    let parts : map (λ (q : ℤ × ℤ). q.1) (run_points samples a (i + 1)) ≡ map (λ q. q.1) (run_points samples a i)
    ++ p.1 ∷ [] =
    ap (map (λ (q : ℤ × ℤ). q.1)) (run_points_more samples a i le less)
    ∙ map-append (λ (q : ℤ × ℤ). q.1) (run_points samples a i) (p ∷ []) in
    ap (count_by test) parts ∙ sum_by_push (λ d. cond (test d) 1 0) (map (λ q. q.1) (run_points samples a i)) p.1

-- a stretch in two parts
count_cut : (test : ℤ → Bool) (samples : List ℤ) (s g e : ℕ) → s ≤ g → g ≤ e →
    count_by test (map (λ p. p.1) (run_points samples s e))
    ≡ count_by test (map (λ p. p.1) (run_points samples s g)) + count_by test (map (λ p. p.1) (run_points samples g e))
count_cut test samples s g e le order =
    let parts : map (λ p. p.1) (run_points samples s e) ≡ map (λ p. p.1) (run_points samples s g)
    ++ map (λ p. p.1) (run_points samples g e) =
    ap (map (λ (p : ℤ × ℤ). p.1)) (sym (run_points_cut samples s g e le order))
    ∙ map-append (λ (p : ℤ × ℤ). p.1) (run_points samples s g) (run_points samples g e) in
    ap (count_by test) parts ∙ sum_by-append (λ d. cond (test d) 1 0)
    (map (λ p. p.1) (run_points samples s g)) (map (λ p. p.1) (run_points samples g e))

pub no_wide : (samples : List ℤ) (a : ℕ) → 0 ≡ count_by is_wide (map (λ p. p.1) (run_points samples a a))
no_wide samples a = rw run_points_none refl

pub wide_more : (samples : List ℤ) (a i : ℕ) → a ≤ i → i < length samples →
    count_by is_wide (map (λ p. p.1) (run_points samples a (i + 1)))
    ≡ count_by is_wide (map (λ p. p.1) (run_points samples a i)) + cond (is_wide (difference_at samples i)) 1 0
wide_more = count_more is_wide

pub no_halves : (samples : List ℤ) (a : ℕ) →
    0 ≡ count_by is_wide (map (λ p. p.1) (run_points samples a a))
    + count_by is_very_wide (map (λ p. p.1) (run_points samples a a))
no_halves samples a = rw run_points_none refl

pub very_wide_more : (samples : List ℤ) (a i : ℕ) → a ≤ i → i < length samples →
    count_by is_very_wide (map (λ p. p.1) (run_points samples a (i + 1)))
    ≡ count_by is_very_wide (map (λ p. p.1) (run_points samples a i))
    + cond (is_very_wide (difference_at samples i)) 1 0
very_wide_more = count_more is_very_wide

-- a kind whose records hold no more than two a word has none that holds all of a stretch with more
pub none_with_wide : (bytes : ℕ) (samples : List ℤ) (kind : Kind)
    → ((run : List (ℤ × ℤ)) → Fits kind bytes run → count_by is_wide (map (λ p. p.1) run) ≤ 2 * words_of bytes)
    → (g e : ℕ) → g ≤ e → 2 * words_of bytes < count_by is_wide (map (λ p. p.1) (run_points samples g e)) → (s b : ℕ)
    → s ≤ g → IsRun (Fits kind bytes) samples s b → b < e
none_with_wide bytes samples kind two g e order more s b le run = elim (cases_lt b e) [
  | inl less ↦ less
  | inr not ↦
      let shorter = prefix_run (Fits kind bytes) (prefix_kind kind bytes) samples s e b (omega arith) not run in
      let all = two (run_points samples s e) shorter.2 in
      let sum = count_cut is_wide samples s g e le order in
      absurd (omega arith)
]

-- no record of Steim-2 holds all of a stretch whose differences take more halves than its words have
pub none_with_halves : (bytes : ℕ) (samples : List ℤ) (g e : ℕ) → g ≤ e → 2 * words_of bytes
    < count_by is_wide (map (λ p. p.1) (run_points samples g e))
    + count_by is_very_wide (map (λ p. p.1) (run_points samples g e)) → (s b : ℕ)
    → s ≤ g → IsRun (Fits Steim2 bytes) samples s b → b < e
none_with_halves bytes samples g e order more s b le run = elim (cases_lt b e) [
  | inl less ↦ less
  | inr not ↦
      let shorter = prefix_run (Fits Steim2 bytes) (prefix_kind Steim2 bytes) samples s e b (omega arith) not run in
      let all = halves_of_steim2 bytes (run_points samples s e) shorter.2 in
      let wide = count_cut is_wide samples s g e le order in
      let very_wide = count_cut is_very_wide samples s g e le order in
      absurd (omega arith)
]

-- ---- narrow ones

pub none_narrow : (samples : List ℤ) (a : ℕ) → AreNarrow samples a a
none_narrow samples a = record { all = rw run_points_none (All-nil (λ (p : ℤ × ℤ). IsNarrow p.1)) }

pub one_narrow : (samples : List ℤ) (a i : ℕ) → a ≤ i → i < length samples → IsNarrow (difference_at samples i)
    → AreNarrow samples a i → AreNarrow samples a (i + 1)
one_narrow samples a i le less here narrow = record {
  all = subst (λ run. (k : ℕ) (d : ℤ × ℤ) → k < length run → IsNarrow (get_or run k d).1)
      (sym (run_points_more samples a i le less))
      (All-push (λ (p : ℤ × ℤ). IsNarrow p.1) (run_points samples a i)
      (slice_index_or samples i (pos 0), difference_at samples i) narrow.all here);
}

pub first_narrow : (samples : List ℤ) (a b : ℕ) → a < b → a < length samples → IsNarrow (difference_at samples a)
    → AreNarrow samples (a + 1) b → AreNarrow samples a b
first_narrow samples a b order less here rest =
    let one = one_narrow samples a a (omega arith) less here (none_narrow samples a) in record {
      all = subst (λ run. (k : ℕ) (d : ℤ × ℤ) → k < length run → IsNarrow (get_or run k d).1)
          (run_points_cut samples a (a + 1) b (omega arith) (omega arith))
          (All-append (λ (p : ℤ × ℤ). IsNarrow p.1) (run_points samples a (a + 1)) (run_points samples (a + 1) b)
          one.all rest.all);
    }

-- no run of Steim-1 that starts at g or before reaches past the end of Steim-2 from g, if the differences up to there
-- are narrow
pub no_further : (bytes : ℕ) (samples : List ℤ) (g h : ℕ) → IsEnd Steim2 bytes samples g h
    → AreNarrowThrough samples g h → (s b : ℕ) → s ≤ g → IsRun (Fits Steim1 bytes) samples s b → b ≤ h
no_further bytes samples g h is narrow s b le one = elim (cases_lt h b) [
  | inl less ↦
      let past = is.fits.0 in
      let within = one.1 in
      let shorter = prefix_run (Fits Steim1 bytes) (prefix_kind Steim1 bytes) samples s (h + 1) b (omega arith)
      (omega arith) one in
      let cut = subst (Fits Steim1 bytes) (sym (run_points_cut samples s g (h + 1) le (omega arith))) shorter.2 in
      let all : min (h + 1) (length samples) ≡ h + 1 = omega arith in
      let two = steim2_dominates bytes (run_points samples s g) (run_points samples g (h + 1))
      (subst (AreNarrow samples g) all narrow).all cut in
      let m = is.furthest (h + 1) (omega arith, omega arith, two) in
      absurd (omega arith)
  | inr not ↦ not
]
