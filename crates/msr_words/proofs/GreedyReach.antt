-- How far the longest groups reach.
use Rattle.std.specs.Prelude.{◌≡◌, ℕ, zero, suc, ◌+◌, ◌-◌, ◌<◌, ◌≤◌, ℤ, List, [], ◌∷◌, ◌++◌, length, map, take, drop, get_or, pos, negsuc, None}
use Rattle.std.specs.List.{AllByRecursion}
use Rattle.std.proofs.Common.{true, arith, lit≤, refl, sym, ap, ◌∙◌, subst, inl, inr, length-drop}
use Rattle.std.proofs.Math.Seq.{take-add}
use Rattle.std.proofs.lemmas.Bool.{cases_lt}
use Rattle.std.proofs.lemmas.List.{drop-map, get_or-drop, get_or-take, length-map, length-take, map-append, take-take, take_all, take_at}
use Rattle.msr_steim.specs.Word.{FitsBits, IsGroup}
use Rattle.msr_base.specs.declared.storage.Version.TheVariants.{Two}
use Rattle.msr_base.specs.declared.kinds.Kind.TheVariants.{Steim2}
use Rattle.msr_words.specs.Bounds.{GreedyLaw, IsGreedyReach, latest_end}
use Rattle.msr_words.specs.Division.{CanDivide}
use Rattle.msr_words.specs.Fit.{Fits, IsRun}
use Rattle.msr_words.specs.Groups.{IsLongestGroup}
use Rattle.msr_base.specs.RecordLength.{words_of}
use Rattle.msr_words.specs.Laws.{IsNarrow}
use Rattle.msr_words.specs.Segment.{difference_at, differences, points, run_points}
use Rattle.msr_words.specs.Lemmas.KindLaws.{back_step_kind, size_kind}
use Rattle.msr_words.specs.Lemmas.LeastCounts.{a_group_has_few}
use Rattle.msr_words.specs.Lemmas.SteimLaws.{all_more}
use Rattle.msr_words.proofs.Plain.{difference_of, length-differences}
use Rattle.msr_words.proofs.Parts.{HasDivision, division_rest, first_fits, more_groups, no_groups, none_left, one_group}
use Rattle.msr_words.proofs.Runs.{back_step_run, length-points, length-run_points, run_points_cut}
use Rattle.msr_words.proofs.Steim2Groups.{IsSteim2Group, division_from, division_to, group_from, group_to, steim2_parts}

-- ---- the differences from the start on

take_two : (count n : ℕ) (ds : List ℤ) → count ≤ n → take n ds ≡ take count ds ++ take (n - count) (drop count ds)
take_two count n ds le =
    let m : n ≡ count + (n - count) = omega arith in
    subst (λ k. take k ds ≡ take count ds ++ take (n - count) (drop count ds)) (sym m) (take-add count (n - count) ds)

pub reach_within : (words : ℕ) (ds : List ℤ) (reach : ℕ) → IsGreedyReach words ds reach → reach ≤ length ds
reach_within zero ds reach is = let e : reach ≡ 0 = is in omega arith
reach_within (suc words) ds reach is =
    let rest = reach_within words (drop is.0 ds) is.1 is.3 in
    let l = length-drop is.0 ds in
    let w = is.2.within in
    let e = is.4 in
    omega arith

reach_fits : (words : ℕ) (ds : List ℤ) (reach : ℕ) → IsGreedyReach words ds reach
    → HasDivision IsSteim2Group words (take reach ds)
reach_fits zero ds reach is = let e : reach ≡ 0 = is in rw e (no_groups IsSteim2Group 0)
reach_fits (suc words) ds reach is =
    let whole : take reach ds ≡ take is.0 ds ++ take is.1 (drop is.0 ds) = ap (λ n. take n ds) is.4
    ∙ take-add is.0 is.1 ds in
    let rest = reach_fits words (drop is.0 ds) is.1 is.3 in
    rw whole (elim (cases_lt 0 is.0) [
      | inl some ↦ one_group IsSteim2Group words (take is.0 ds) (take is.1 (drop is.0 ds))
          (group_to (take is.0 ds) (is.2.group some)) rest
      | inr none ↦ nothing is.0 (omega arith) (take is.1 (drop is.0 ds)) rest
    ])
  where
    nothing : (count : ℕ) → 0 ≡ count → (rest : List ℤ) → HasDivision IsSteim2Group words rest
        → HasDivision IsSteim2Group (suc words) (take count ds ++ rest)
    nothing count e rest h = subst (λ k. HasDivision IsSteim2Group (suc words) (take k ds ++ rest)) e
        (more_groups IsSteim2Group words (suc words) rest (omega arith) h)

alone : (most n : ℕ) (ds : List ℤ) → 0 < n → n ≤ length ds → HasDivision IsSteim2Group most (take n ds)
    → IsSteim2Group (take 1 ds)
alone most zero ds some within h = absurd (omega arith)
alone most (suc n) [] some within h = absurd (omega arith)
alone most (suc n) (d ∷ ds) some within h = first_fits IsSteim2Group steim2_parts most d (take n ds) h

none_within : (n : ℕ) (ds : List ℤ) → n ≤ length ds → HasDivision IsSteim2Group 0 (take n ds) → n ≤ 0
none_within zero ds within h = omega arith
none_within (suc n) [] within h = omega arith
none_within (suc n) (d ∷ ds) within h = absurd (none_left IsSteim2Group steim2_parts d (take n ds) h)

reach_most : (words : ℕ) (ds : List ℤ) (reach n : ℕ) → IsGreedyReach words ds reach → n ≤ length ds
    → HasDivision IsSteim2Group words (take n ds) → n ≤ reach
reach_most zero ds reach n is within h = let e : reach ≡ 0 = is in let none = none_within n ds within h in omega arith
reach_most (suc words) ds reach n is within h = elim (cases_lt is.0 n) [
  | inl more ↦ further is.0 is.1 is.2 (λ m within' h'. reach_most words (drop is.0 ds) is.1 m is.3 within' h') is.4 more
  | inr not ↦ let e = is.4 in omega arith
]
  where
    no_more : (count : ℕ) → IsLongestGroup ds count → count < length ds → (y : ℤ) (ys : List ℤ)
        → take (n - count) (drop count ds) ≡ y ∷ ys → count < n → IsSteim2Group (take count ds ++ y ∷ []) → ⊥
    no_more count is less y ys e more group =
        let one : take 1 (drop count ds) ≡ y ∷ [] = sym (take-take 1 (n - count) (drop count ds) (omega arith))
        ∙ ap (take 1) e in
        let next : take (count + 1) ds ≡ take count ds ++ y ∷ [] = take-add count 1 ds
        ∙ ap (λ l. take count ds ++ l) one in
        is.no_more less (subst (IsGroup Two) (sym next) (group_from (take count ds ++ y ∷ []) group))

    further : (count rest : ℕ) → IsLongestGroup ds count
        → ((m : ℕ) → m ≤ length (drop count ds) → HasDivision IsSteim2Group words (take m (drop count ds))
        → m ≤ rest) → reach ≡ count + rest → count < n → n ≤ reach
    further zero rest is most e more = absurd (is.no_more (omega arith)
        (group_from (take 1 ds) (alone (suc words) n ds more within h)))
    further (suc count) rest is most e more =
        let l = length-drop (suc count) ds in
        let behind = division_rest IsSteim2Group steim2_parts words (take (suc count) ds)
        (take (n - suc count) (drop (suc count) ds)) (group_to (take (suc count) ds) (is.group (omega arith)))
        (λ y ys f group. no_more (suc count) is (omega arith) y ys f more group)
        (subst (HasDivision IsSteim2Group (suc words)) (take_two (suc count) n ds (omega arith)) h) in
        let m = most (n - suc count) (omega arith) behind in
        omega arith

-- ---- the runs of a segment

pub differences_to : (samples : List ℤ) (g n end : ℕ) → g + n ≤ end → end ≤ length samples
    → map (λ p. p.1) (run_points samples g (g + n)) ≡ take n (map (λ p. p.1) (run_points samples g end))
differences_to samples g n end within inside =
    let long : length (map (λ (p : ℤ × ℤ). p.1) (run_points samples g (g + n))) ≡ n =
    length-map (run_points samples g (g + n)) (λ (p : ℤ × ℤ). p.1)
    ∙ length-run_points samples g (g + n) (omega arith) (omega arith) ∙ omega arith in
    let whole : map (λ (p : ℤ × ℤ). p.1) (run_points samples g end) ≡ map (λ p. p.1) (run_points samples g (g + n))
    ++ map (λ p. p.1) (run_points samples (g + n) end) =
    ap (map (λ (p : ℤ × ℤ). p.1)) (sym (run_points_cut samples g (g + n) end (omega arith) within))
    ∙ map-append (λ (p : ℤ × ℤ). p.1) (run_points samples g (g + n)) (run_points samples (g + n) end) in
    sym (ap (take n) whole ∙ take_at (map (λ p. p.1) (run_points samples g (g + n)))
    (map (λ p. p.1) (run_points samples (g + n) end)) n long)

-- the differences from g up to an end
abbrev between : List ℤ → ℕ → ℕ → List ℤ
between samples g end = map (λ p. p.1) (run_points samples g end)

length-between : (samples : List ℤ) (g end : ℕ) → g ≤ end → end ≤ length samples
    → length (between samples g end) ≡ end - g
length-between samples g end order within = length-map (run_points samples g end) (λ (p : ℤ × ℤ). p.1)
    ∙ length-run_points samples g end order within

pub greedy_law : GreedyLaw
greedy_law bytes samples g reach le is =
    let end = latest_end Steim2 bytes samples g in
    let ds = between samples g (latest_end Steim2 bytes samples g) in
    let l = length-between samples g (latest_end Steim2 bytes samples g) (omega arith) (omega arith) in
    let w = reach_within (words_of bytes) (between samples g (latest_end Steim2 bytes samples g)) reach is in
    let inside : g + reach ≤ latest_end Steim2 bytes samples g = omega arith in
    let long = length-run_points samples g (g + reach) (omega arith) (omega arith) in (
      (
        omega arith,
        omega arith,
        (
          omega arith,
          subst (CanDivide Two (words_of bytes)) (sym (differences_to samples g reach end inside (omega arith)))
              (division_from (words_of bytes) (take reach ds) (reach_fits (words_of bytes) ds reach is)),
        ),
      ),
      λ s b before run. elim (cases_lt g b) [
        | inl past ↦ furthest s b before run past
        | inr not ↦ omega arith
      ],
    )
  where
    furthest : (s b : ℕ) → s ≤ g → IsRun (Fits Steim2 bytes) samples s b → g < b → b ≤ g + reach
    furthest s b before run past =
        let cut = back_step_run (Fits Steim2 bytes) 0 (back_step_kind Steim2 bytes) samples s g b before
        (omega arith) run in
        let high = cut.3 in
        let low = cut.2 in
        let same : cut.0 ≡ g = omega arith in
        let here : IsRun (Fits Steim2 bytes) samples g b =
        subst (λ x. IsRun (Fits Steim2 bytes) samples x b) same cut.4 in
        let in' = here.1 in
        let long = length-run_points samples g b here.0 here.1 in
        let few = size_kind Steim2 bytes (run_points samples g b) here.2 in
        let ds = between samples g (latest_end Steim2 bytes samples g) in
        let l = length-between samples g (latest_end Steim2 bytes samples g) (omega arith) (omega arith) in
        let e : b ≡ g + (b - g) = omega arith in
        let can : CanDivide Two (words_of bytes) (take (b - g)
        (between samples g (latest_end Steim2 bytes samples g))) =
        subst (CanDivide Two (words_of bytes)) (differences_to samples g (b - g)
        (latest_end Steim2 bytes samples g) (omega arith) (omega arith)) (subst
        (λ x. Fits Steim2 bytes (run_points samples g x)) e here.2).1 in
        let most = reach_most (words_of bytes) ds reach (b - g) is (omega arith)
        (division_to (words_of bytes) (take (b - g) ds) can) in
        omega arith

-- ---- word after word

-- if no group begins, no word is filled
pub none_reached : (words : ℕ) (ds : List ℤ) → IsLongestGroup ds 0 → IsGreedyReach words ds 0
none_reached zero ds is = refl
none_reached (suc words) ds is = (0, 0, is, none_reached words ds is, refl)

-- the differences from g on, of the runs and of the whole segment
pub differences_from : (samples : List ℤ) (g : ℕ) → g ≤ length samples
    → map (λ p. p.1) (run_points samples g (length samples)) ≡ drop g (differences None samples)
differences_from samples g le =
    let rest = drop g (points None samples) in
    let size : length (drop g (points None samples)) ≤ length samples - g =
    simp (length-drop, length-points) (omega arith) in
    ap (map (λ (p : ℤ × ℤ). p.1)) (take_all (length samples - g) rest size)
    ∙ sym (drop-map (λ (p : ℤ × ℤ). p.1) g (points None samples))

-- ---- a word of more than one difference

-- its differences are of 15 bits
pair_small : (group : List ℤ) → 1 < length group → IsGroup Two group → AllByRecursion (FitsBits 15) group
pair_small [] some is = absurd is
pair_small (a ∷ []) some is = absurd (omega arith)
pair_small (a ∷ b ∷ []) some is = is
pair_small (a ∷ b ∷ c ∷ []) some is = all_more 10 15 (a ∷ b ∷ c ∷ []) (lit≤ tt) is
pair_small (a ∷ b ∷ c ∷ d ∷ []) some is = all_more 8 15 (a ∷ b ∷ c ∷ d ∷ []) (lit≤ tt) is
pair_small (a ∷ b ∷ c ∷ d ∷ e ∷ []) some is = all_more 6 15 (a ∷ b ∷ c ∷ d ∷ e ∷ []) (lit≤ tt) is
pair_small (a ∷ b ∷ c ∷ d ∷ e ∷ f ∷ []) some is = all_more 5 15 (a ∷ b ∷ c ∷ d ∷ e ∷ f ∷ []) (lit≤ tt) is
pair_small (a ∷ b ∷ c ∷ d ∷ e ∷ f ∷ g ∷ []) some is = all_more 4 15 (a ∷ b ∷ c ∷ d ∷ e ∷ f ∷ g ∷ []) (lit≤ tt) is
pair_small (a ∷ b ∷ c ∷ d ∷ e ∷ f ∷ g ∷ h ∷ zs) some is = let few =
    (a_group_has_few Two true (a ∷ b ∷ c ∷ d ∷ e ∷ f ∷ g ∷ h ∷ zs) is).1 in absurd (omega arith)

each_small : (ds : List ℤ) (k : ℕ) → AllByRecursion (FitsBits 15) ds → k < length ds → FitsBits 15 (get_or ds k (pos 0))
each_small [] k all less = absurd (omega arith)
each_small (d ∷ ds) zero all less = all.0
each_small (d ∷ ds) (suc k) all less = each_small ds k all.1 (omega arith)

fifteen_narrow : (d : ℤ) → FitsBits 15 d → IsNarrow d
fifteen_narrow (pos n) fits = (λ more. fits, omega arith)
fifteen_narrow (negsuc n) fits = (λ more. fits, omega arith)

pub narrow_in_group : (samples : List ℤ) (at size k : ℕ) → IsLongestGroup (drop at (differences None samples)) size
    → 1 < size → k < size → IsNarrow (difference_at samples (at + k))
narrow_in_group samples at size k longest some less =
    let ds = differences None samples in
    let xs = drop at (differences None samples) in
    let l = length-drop at (differences None samples) in
    let n = length-differences None samples in
    let w = longest.within in
    let m = length-take size (drop at (differences None samples)) in
    let small = each_small (take size xs) k (pair_small (take size xs) (omega arith) (longest.group (omega arith)))
    (omega arith) in
    let here : get_or (take size xs) k (pos 0) ≡ difference_at samples (at + k) =
    get_or-take size xs k (pos 0) less ∙ get_or-drop at ds k (pos 0)
    ∙ difference_of None samples (at + k) (omega arith) in
    fifteen_narrow (difference_at samples (at + k)) (subst (FitsBits 15) here small)
