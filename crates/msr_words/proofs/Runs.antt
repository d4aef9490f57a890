-- The samples of a run, one more at the end, and a run that is cut.
use Rattle.std.specs.Prelude.{◌≡◌, ℕ, zero, suc, ◌+◌, ◌-◌, ◌<◌, ◌≤◌, ℤ, pos, ◌-ℤ◌, List, [], ◌∷◌, ◌++◌, length, take, drop, Some, None, slice_range, slice_index_or, get_or, map, Option, ◌↔◌, All}
use Rattle.std.proofs.Common.{refl, arith, sym, ◌∙◌, ap, subst}
use Rattle.std.proofs.lemmas.List.{take-append-drop, take-append-le, take-take, drop-take, drop-drop, take_more, get_or-drop, length-take, length-drop, drop_at, drop-map, take-map, length-map}
use Rattle.msr_words.specs.Segment.{points, points_after, run_points, difference_at, difference_from}
use Rattle.msr_base.specs.declared.storage.Width.{Width}
use Rattle.msr_words.specs.Fit.{IsInteger, IsRun}
use Rattle.std.proofs.lemmas.List.Elements.{All-map}
use Rattle.msr_words.specs.Laws.{PrefixLaw, BackStepLaw}
use Rattle.msr_base.specs.declared.kinds.Kind.{Kind}
use Rattle.msr_words.specs.declared.kinds.Run.{Run}

pub length-points_after : (before : ℤ) (samples : List ℤ) → length (points_after before samples) ≡ length samples
length-points_after before [] = refl
length-points_after before (x ∷ xs) = ap suc (length-points_after x xs)

pub length-points : (samples : List ℤ) → length (points None samples) ≡ length samples
length-points [] = refl
length-points (x ∷ xs) = ap suc (length-points_after x xs)

pub length-points_before : (before : Option ℤ) (samples : List ℤ) → length (points before samples) ≡ length samples
length-points_before None samples = length-points samples
length-points_before (Some before) samples = length-points_after before samples

points_after_at : (before : ℤ) (samples : List ℤ) (i : ℕ) (d : ℤ × ℤ) → i < length samples →
    get_or (points_after before samples) i d ≡ (
      get_or samples i (pos 0),
      get_or samples i (pos 0) -ℤ get_or
          (before ∷ samples) i (pos 0),
    )
points_after_at before [] i d h = absurd (omega arith)
points_after_at before (x ∷ xs) zero d h = refl
points_after_at before (x ∷ xs) (suc i) d h = points_after_at x xs i d (omega arith)

pub points_at : (samples : List ℤ) (i : ℕ) (d : ℤ × ℤ) → i < length samples →
    get_or (points None samples) i d ≡ (get_or samples i (pos 0), difference_at samples i)
points_at [] i d h = absurd (omega arith)
points_at (x ∷ xs) zero d h = refl
points_at (x ∷ xs) (suc i) d h = points_after_at x xs i d (omega arith)

take_add : {X : Type 0} (m n : ℕ) (xs : List X) → take m xs ++ take n (drop m xs) ≡ take (m + n) xs
take_add m n xs = let le : m ≤ m + n = omega arith in
    rw (← take-take m (m + n) xs le, ← drop-take m n xs) (take-append-drop m (take (m + n) xs))

-- a run that is cut at c
pub run_points_cut : (samples : List ℤ) (a c b : ℕ) → a ≤ c → c ≤ b
    → run_points samples a c ++ run_points samples c b ≡ run_points samples a b
run_points_cut samples a c b h k =
    let seam : drop c (points None samples) ≡ drop (c - a) (drop a (points None samples)) =
    sym (drop-drop (c - a) a (points None samples) ∙ ap (λ n. drop n (points None samples)) (omega arith)) in
    let width : b - a ≡ (c - a) + (b - c) = omega arith in
    rw (seam, width) (take_add (c - a) (b - c) (drop a (points None samples)))

pub run_points_none : (samples : List ℤ) (a : ℕ) → run_points samples a a ≡ []
run_points_none samples a = let e : a - a ≡ 0 = omega arith in rw e refl

pub run_points_more : (samples : List ℤ) (a i : ℕ) → a ≤ i → i < length samples →
    run_points samples a (i + 1) ≡ run_points samples a i
    ++ (slice_index_or samples i (pos 0), difference_at samples i) ∷ []
run_points_more samples a i h k =
    let width : i + 1 - a ≡ (i - a) + 1 = omega arith in
    let d : ℤ × ℤ = (pos 0, pos 0) in
    let there : i - a < length (drop a (points None samples)) = simp (length-drop, length-points) (omega arith) in
    let last : get_or (drop a (points None samples)) (i - a) d ≡ (get_or samples i (pos 0), difference_at samples i) =
    get_or-drop a (points None samples) (i - a) d ∙ ap (λ n. get_or (points None samples) n d) (omega arith)
    ∙ points_at samples i d k in
    rw width (take_more (drop a (points None samples)) (i - a) d there
    ∙ ap (λ p. run_points samples a i ++ p ∷ []) last)

pub length-run_points : (samples : List ℤ) (a b : ℕ) → a ≤ b → b ≤ length samples
    → length (run_points samples a b) ≡ b - a
length-run_points samples a b h k = simp (length-take, length-drop, length-points) (omega arith)

run_points_drop : (samples : List ℤ) (a n g : ℕ) → a + n ≤ g → g ≤ length samples
    → drop n (run_points samples a g) ≡ run_points samples (a + n) g
run_points_drop samples a n g h k =
    let front : length (run_points samples a (a + n)) ≡ n =
    length-run_points samples a (a + n) (omega arith) (omega arith) ∙ omega arith in
    rw (← run_points_cut samples a (a + n) g (omega arith) h)
    (drop_at (run_points samples a (a + n)) (run_points samples (a + n) g) n front)

-- the two laws, for the runs of a segment
pub prefix_run : (fits : List (ℤ × ℤ) → Type 0) → PrefixLaw fits → (samples : List ℤ) (a c b : ℕ) → a ≤ c → c ≤ b
    → IsRun fits samples a b → IsRun fits samples a c
prefix_run fits law samples a c b h k run = (
  h,
  omega arith,
  law (run_points samples a c) (run_points samples c b)
      (subst fits (sym (run_points_cut samples a c b h k)) run.2),
)

pub back_step_run : (fits : List (ℤ × ℤ) → Type 0) (places : ℕ) → BackStepLaw places fits
    → (samples : List ℤ) (a g b : ℕ) → a ≤ g → g ≤ b → IsRun fits samples a b →
    (s : ℕ) × (a ≤ s) × (s ≤ g) × (g ≤ s + places) × IsRun fits samples s b
back_step_run fits places law samples a g b h k run =
    let step = law (run_points samples a g) (run_points samples g b)
    (subst fits (sym (run_points_cut samples a g b h k)) run.2) in
    let wide : length (run_points samples a g) ≡ g - a = length-run_points samples a g h (omega arith) in
    let joined : drop step.0 (run_points samples a g) ++ run_points samples g b ≡ run_points samples (a + step.0) b =
    ap (λ p. p ++ run_points samples g b) (run_points_drop samples a step.0 g (omega arith) (omega arith))
    ∙ run_points_cut samples (a + step.0) g b (omega arith) k in
    (a + step.0, omega arith, omega arith, omega arith, (omega arith, run.1, subst fits joined step.3))

-- the samples of a run with the sample before it have the differences that they have in the segment
points_after_drop : (before : ℤ) (samples : List ℤ) (a : ℕ)
    → drop a (points_after before samples) ≡ points_after (get_or (before ∷ samples) a (pos 0)) (drop a samples)
points_after_drop before samples zero = refl
points_after_drop before [] (suc a) = refl
points_after_drop before (x ∷ xs) (suc a) = points_after_drop x xs a

points_after_take : (before : ℤ) (samples : List ℤ) (n : ℕ)
    → take n (points_after before samples) ≡ points_after before (take n samples)
points_after_take before samples zero = refl
points_after_take before [] (suc n) = refl
points_after_take before (x ∷ xs) (suc n) = ap (λ r. (x, x -ℤ before) ∷ r) (points_after_take x xs n)

pub points_drop : (samples : List ℤ) (a : ℕ)
    → drop (suc a) (points None samples) ≡ points_after (get_or samples a (pos 0)) (drop (suc a) samples)
points_drop [] a = refl
points_drop (x ∷ xs) a = points_after_drop x xs a

pub points_take : (samples : List ℤ) (b : ℕ) → take b (points None samples) ≡ points None (take b samples)
points_take samples zero = refl
points_take [] (suc b) = refl
points_take (x ∷ xs) (suc b) = ap (λ r. (x, pos 0) ∷ r) (points_after_take x xs b)

pub by_front : (samples : List ℤ) (a b : ℕ) → a ≤ b → run_points samples a b ≡ drop a (points None (take b samples))
by_front samples a b order =
    let e : a + (b - a) ≡ b = omega arith in
    sym (drop-take a (b - a) (points None samples)) ∙ ap (λ n. drop a (take n (points None samples))) e
    ∙ ap (drop a) (points_take samples b)

pub run_points_stay : (samples more : List ℤ) (a b : ℕ) → a ≤ b → b ≤ length samples
    → run_points (samples ++ more) a b ≡ run_points samples a b
run_points_stay samples more a b order within =
    by_front (samples ++ more) a b order ∙ ap (λ xs. drop a (points None xs))
    (take-append-le b samples more within) ∙ sym (by_front samples a b order)

pub run_from_start : (samples : List ℤ) (b : ℕ) → points None (take b samples) ≡ run_points samples 0 b
run_from_start samples b = let e : b - 0 ≡ b = omega arith in rw e (sym (points_take samples b))

pub run_from : (samples : List ℤ) (a b : ℕ) → 0 < a
    → points (Some (slice_index_or samples (a - 1) (pos 0))) (slice_range samples a b) ≡ run_points samples a b
run_from samples zero b h = absurd (omega arith)
run_from samples (suc a) b h =
    let e : suc a - 1 ≡ a = omega arith in
    rw (points_drop samples a, points_after_take (get_or samples a (pos 0)) (drop (suc a) samples) (b - suc a), e) refl

-- the samples of the points
pub samples_of_points : (before : Option ℤ) (samples : List ℤ) → map (λ p. p.0) (points before samples) ≡ samples
samples_of_points None [] = refl
samples_of_points None (x ∷ xs) = ap (λ r. x ∷ r) (after x xs)
  where
    after : (before : ℤ) (samples : List ℤ) → map (λ (p : ℤ × ℤ). p.0) (points_after before samples) ≡ samples
    after before [] = refl
    after before (x ∷ xs) = ap (λ r. x ∷ r) (after x xs)
samples_of_points (Some before) [] = refl
samples_of_points (Some before) (x ∷ xs) = ap (λ r. x ∷ r) (samples_of_points (Some x) xs)

get_or_first : (run : List (ℤ × ℤ)) (k : ℕ) (d : ℤ × ℤ) → get_or (map (λ p. p.0) run) k d.0 ≡ (get_or run k d).0
get_or_first [] k d = refl
get_or_first (p ∷ run) zero d = refl
get_or_first (p ∷ run) (suc k) d = get_or_first run k d

all_unmap : (P : ℤ → Type 0) (run : List (ℤ × ℤ)) → All P (map (λ p. p.0) run) → All (λ p. P p.0) run
all_unmap P run h k d in' =
    let e : get_or (map (λ (p : ℤ × ℤ). p.0) run) k d.0 ≡ (get_or run k d).0 = get_or_first run k d in
    subst P e (h k d.0 (rw length-map in'))

-- what holds of the samples of a run holds of its points
pub all_of_run : (P : ℤ → Type 0) (samples : List ℤ) (a b : ℕ) → All P (slice_range samples a b)
    → All (λ p. P p.0) (run_points samples a b)
all_of_run P samples a b all =
    let same : slice_range samples a b ≡ map (λ p. p.0) (run_points samples a b) =
    ap (λ xs. take (b - a) (drop a xs)) (sym (samples_of_points None samples))
    ∙ ap (take (b - a)) (drop-map (λ (p : ℤ × ℤ). p.0) a (points None samples))
    ∙ take-map (λ (p : ℤ × ℤ). p.0) (b - a) (drop a (points None samples)) in
    all_unmap P (run_points samples a b) (subst (All P) same all)

-- so it depends on the samples alone whether they are such integers
pub integers_points : (width : Width) (before : Option ℤ) (run : List ℤ)
    → All (IsInteger width) run ↔ All (λ p. IsInteger width p.0) (points before run)
integers_points width before run = (
  λ h. all_unmap (IsInteger width) (points before run) (subst (All (IsInteger width)) (sym (samples_of_points before run)) h),
  λ h. subst (All (IsInteger width)) (samples_of_points before run)
      (All-map (IsInteger width) (λ (p : ℤ × ℤ). p.0) (points before run) h),
)

pub points_from_at : (before : Option ℤ) (samples : List ℤ) (i : ℕ) (d : ℤ × ℤ) → i < length samples →
    get_or (points before samples) i d ≡ (get_or samples i (pos 0), difference_from before samples i)
points_from_at None samples i d h = points_at samples i d h
points_from_at (Some before) samples zero d h = points_after_at before samples zero d h
points_from_at (Some before) samples (suc i) d h = points_after_at before samples (suc i) d h

-- a run is its start, its end and its kind
pub same_run : (a b : Run) → a.start ≡ b.start → a.end ≡ b.end → a.kind ≡ b.kind → a ≡ b
same_run a b start end kind =
    ap (λ (n : ℕ). record { start = n; end = a.end; kind = a.kind }) start
    ∙ ap (λ (n : ℕ). record { start = b.start; end = n; kind = a.kind }) end
    ∙ ap (λ (k : Kind). record { start = b.start; end = b.end; kind = k }) kind
