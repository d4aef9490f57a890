-- Runs and separators that follow the frontiers are a packing and a separating list, by the two laws alone.
use Rattle.std.proofs.Common.{◌≡◌, ℕ, zero, suc, ◌+◌, ◌<◌, ◌≤◌, min, ℤ, List, [], ◌∷◌, length, ◌++◌, refl, sym, ap, subst, arith}
use Rattle.std.specs.Prelude.{slice_index}
use Rattle.std.specs.List.{All}
use Rattle.std.proofs.lemmas.List.Elements.{All-cons, All-nil, All-weaker}
use Rattle.msr_base.specs.declared.kinds.Kind.{Kind}
use Rattle.msr_words.specs.declared.kinds.Run.{Run}
use Rattle.msr_words.specs.Segment.{run_points}
use Rattle.msr_words.specs.Fit.{Records, FitsIn, FitsAny, IsRun, IsFirstKind}
use Rattle.msr_words.specs.Laws.{BackStepLaw}
use Rattle.msr_words.proofs.AnyKind.{FitsShort, back_step_any, prefix_in, short_any}
use Rattle.msr_words.proofs.Runs.{prefix_run, back_step_run, length-run_points}
use Rattle.msr_words.specs.Packing.{Joins, IsPacking, IsLeast, NoneHolds, IsSeparating, IsStep, CanonicalTo, IsCanonical}
use Rattle.msr_packer.specs.SoFar.{IsSoFar}
use Rattle.msr_words.proofs.Certificate.{joins_more, least_by_separators}

module _ (records : Records) (samples : List ℤ) where
  same_size : (runs : List Run) (separators : List ℕ) (g end : ℕ) → CanonicalTo records samples g runs separators end
      → length runs ≡ length separators
  same_size [] [] g end chosen = refl
  same_size [] (s ∷ separators) g end chosen = absurd chosen
  same_size (run ∷ runs) [] g end chosen = absurd chosen
  same_size (run ∷ runs) (s ∷ separators) g end chosen = ap suc (same_size runs separators chosen.0 end chosen.5)

  -- whatever fits from g on, the frontier passes
  module _ (short : FitsShort (FitsAny records)) where
    pub forth : (g h a : ℕ) → g < length samples → IsStep (FitsAny records) samples g h a
        → min (g + 4) (length samples) ≤ h
    forth g h a in' step =
        step.furthest g (min (g + 4) (length samples)) (omega arith) (
          omega arith,
          omega arith,
          short (run_points samples g (min (g + 4) (length samples)))
              (let e = length-run_points samples g (min (g + 4) (length samples)) (omega arith) (omega arith) in
              omega arith),
        )

    near : BackStepLaw 1 (FitsAny records) → (g h a : ℕ) → g < length samples → IsStep (FitsAny records) samples g h a
        → g ≤ a + 1
    near law g h a in' step =
        let f = forth g h a in' step in
        let back = back_step_run (FitsAny records) 1 law samples a g h step.before (omega arith) step.reached in
        let l = step.last back.0 back.2 back.4 in
        omega arith

    from_here : (runs : List Run) (separators : List ℕ) (g end : ℕ) → CanonicalTo records samples g runs separators end
        → (i : ℕ) → i < length separators → g ≤ slice_index separators i
    from_here [] [] g end chosen i h = absurd (omega arith)
    from_here [] (s ∷ separators) g end chosen i h = absurd chosen
    from_here (run ∷ runs) [] g end chosen i h = absurd chosen
    from_here (run ∷ runs) (s ∷ separators) g end chosen zero h = let e = chosen.1 in omega arith
    from_here (run ∷ runs) (s ∷ separators) g end chosen (suc i) h =
        let f = forth g chosen.0 run.start chosen.2 chosen.3 in
        let r = from_here runs separators chosen.0 end chosen.5 i (omega arith) in
        let in' = chosen.2 in
        omega arith

    apart_from : (runs : List Run) (separators : List ℕ) (g end : ℕ)
        → CanonicalTo records samples g runs separators end →
        (i j : ℕ) → i < j → j < length separators →
        (slice_index separators i < slice_index separators j)
        × NoneHolds records samples (slice_index separators i) (slice_index separators j)
    apart_from [] [] g end chosen i j h k = absurd (omega arith)
    apart_from [] (s ∷ separators) g end chosen i j h k = absurd chosen
    apart_from (run ∷ runs) [] g end chosen i j h k = absurd chosen
    apart_from (run ∷ runs) (s ∷ separators) g end chosen i zero h k = absurd (omega arith)
    apart_from (run ∷ runs) (s ∷ separators) g end chosen zero (suc j) h k =
        let e : s ≡ g = chosen.1 in
        let in' : g < length samples = chosen.2 in
        let f = forth g chosen.0 run.start chosen.2 chosen.3 in
        let later = from_here runs separators chosen.0 end chosen.5 j (omega arith) in (
          omega arith,
          record {
            none = λ a b fits p q r t. let most = chosen.3.furthest a b (omega arith) fits in
                omega arith;
          },
        )
    apart_from (run ∷ runs) (s ∷ separators) g end chosen (suc i) (suc j) h k =
        apart_from runs separators chosen.0 end chosen.5 i j (omega arith) (omega arith)

    within_from : (runs : List Run) (separators : List ℕ) (g end : ℕ)
        → CanonicalTo records samples g runs separators end → All (λ s. s < length samples) separators
    within_from [] [] g end chosen = All-nil (λ s. s < length samples)
    within_from [] (s ∷ separators) g end chosen = absurd chosen
    within_from (run ∷ runs) [] g end chosen = absurd chosen
    within_from (run ∷ runs) (s ∷ separators) g end chosen =
        All-cons (λ s. s < length samples) s separators (let e = chosen.1 in let in' = chosen.2 in omega arith)
        (within_from runs separators chosen.0 end chosen.5)

    pub separating : (runs : List Run) (separators : List ℕ) → IsCanonical records samples runs separators
        → IsSeparating records samples separators
    separating runs separators chosen = record {
      rising = λ i j h k. (apart_from runs separators 0 (length samples) chosen.0 i j h k).0;
      within = within_from runs separators 0 (length samples) chosen.0;
      apart = λ i j h k. (apart_from runs separators 0 (length samples) chosen.0 i j h k).1;
    }

    Sound : Run → Type 0
    Sound run = (run.start < run.end) × IsRun (FitsIn run.kind records) samples run.start run.end

    -- each run is in the segment and not empty: the next one starts after the start of this one
    sound_from : BackStepLaw 1 (FitsAny records) → (runs : List Run) (separators : List ℕ) (g a : ℕ) →
        CanonicalTo records samples g runs separators (length samples) → Joins a runs (length samples) → All Sound runs
    unfolding Sound
    sound_from law [] separators g a chosen joined = All-nil Sound
    sound_from law (run ∷ runs) [] g a chosen joined = absurd chosen
    sound_from law (run ∷ []) (s ∷ separators) g a chosen joined =
        let e : run.end ≡ length samples = joined.1 in
        let in' = chosen.2 in
        let b = chosen.3.before in
        All-cons Sound run [] (omega arith, (omega arith, omega arith, chosen.4.0)) (All-nil Sound)
    sound_from law (run ∷ (next ∷ runs)) (s ∷ []) g a chosen joined = absurd chosen.5
    sound_from law (run ∷ (next ∷ runs)) (s ∷ (t ∷ separators)) g a chosen joined =
        let e : next.start ≡ run.end = joined.1.0 in
        let in' : g < length samples = chosen.2 in
        let b = chosen.3.before in
        let f = forth g chosen.0 run.start chosen.2 chosen.3 in
        let in'' : chosen.0 < length samples = chosen.5.2 in
        let n = near law chosen.0 chosen.5.0 next.start chosen.5.2 chosen.5.3 in
        let b' = chosen.5.3.before in
        All-cons Sound run (next ∷ runs) (omega arith, (omega arith, omega arith, chosen.4.0))
        (sound_from law (next ∷ runs) (t ∷ separators) chosen.0 run.end chosen.5 joined.1)

    pub packing : BackStepLaw 1 (FitsAny records) → (runs : List Run) (separators : List ℕ)
        → IsCanonical records samples runs separators → IsPacking records samples runs
    unfolding Sound
    packing law runs separators chosen =
        let sound = sound_from law runs separators 0 0 chosen.0 chosen.1 in
        record {
          none_empty = All-weaker Sound (λ run. run.start < run.end) (λ run s. s.0) runs sound;
          each_fits = All-weaker Sound (λ run. IsRun (FitsIn run.kind records) samples run.start run.end)
              (λ run s. s.1) runs sound;
          joined = chosen.1;
        }

  pub as_many : (runs : List Run) (separators : List ℕ) → IsCanonical records samples runs separators
      → length runs ≡ length separators
  as_many runs separators chosen = same_size runs separators 0 (length samples) chosen.0

  pub least : FitsShort (FitsAny records) → (runs : List Run) (separators : List ℕ)
      → IsCanonical records samples runs separators → IsLeast records samples runs
  least short runs separators chosen = least_by_separators records samples runs separators
      (separating short runs separators chosen) (as_many runs separators chosen)

chosen_more : (records : Records) (samples : List ℤ) (runs : List Run) (separators : List ℕ) (from g h : ℕ) (run : Run)
    → CanonicalTo records samples from runs separators g → g < length samples
    → IsStep (FitsAny records) samples g h run.start →
    IsFirstKind records (run_points samples run.start run.end) run.kind →
    CanonicalTo records samples from (runs ++ run ∷ []) (separators ++ g ∷ []) h
chosen_more records samples [] [] from g h run chosen in' step kind = (
  h,
  sym chosen,
  (let e : from ≡ g = chosen in omega arith),
  subst
      (λ x. IsStep (FitsAny records) samples x h run.start) (sym chosen) step,
  kind,
  refl,
)
chosen_more records samples [] (s ∷ separators) from g h run chosen in' step kind = absurd chosen
chosen_more records samples (first ∷ runs) [] from g h run chosen in' step kind = absurd chosen
chosen_more records samples (first ∷ runs) (s ∷ separators) from g h run chosen in' step kind = (
  chosen.0,
  chosen.1,
  chosen.2,
  chosen.3,
  chosen.4,
  chosen_more records samples runs separators chosen.0 g h run
      chosen.5 in' step kind,
)

module _ (records : Records) (samples : List ℤ) (enough : 256 ≤ records.bytes) (g h a : ℕ) (within : g < length samples)
    (step : IsStep (FitsAny records) samples g h a) where
  pub goes_on : g < h
  goes_on = let f = forth records samples (short_any records enough) g h a within step in omega arith

  -- the run up to the start of the next one fits
  pub cut_fits : (kind : Kind) → IsRun (FitsIn kind records) samples a h → (h' a' : ℕ) → h < length samples
      → IsStep (FitsAny records) samples h h' a' → IsRun (FitsIn kind records) samples a a'
  cut_fits kind reached h' a' more next =
      let f = forth records samples (short_any records enough) g h a within step in
      let n = near records samples (short_any records enough) (back_step_any records) h h' a' more next in
      let b = step.before in
      prefix_run (FitsIn kind records) (prefix_in kind records) samples a a' h (omega arith) next.before reached

  -- so does the last run, to the end of the segment
  pub all_fits : (kind : Kind) → IsRun (FitsIn kind records) samples a h → length samples ≤ h
      → IsRun (FitsIn kind records) samples a (length samples)
  all_fits kind reached done =
      let in' = reached.1 in
      let e : h ≡ length samples = omega arith in
      subst (λ b. IsRun (FitsIn kind records) samples a b) e reached

first_at : (records : Records) (samples : List ℤ) (a b : ℕ) (run : Run) → run.start ≡ a → run.end ≡ b →
    IsFirstKind records (run_points samples a b) run.kind
    → IsFirstKind records (run_points samples run.start run.end) run.kind
first_at records samples a b run e f kind = rw (e, f) kind

module _ (records : Records) (samples : List ℤ) (runs : List Run) (separators : List ℕ) (g h a : ℕ) (kind : Kind)
    (so_far : IsSoFar records samples runs separators g h a kind) (run : Run) (e : run.start ≡ a) where
  pub one_more : (h' a' : ℕ) (kind' : Kind) → h < length samples → IsStep (FitsAny records) samples h h' a'
      → IsRun (FitsIn kind' records) samples a' h' → run.end ≡ a' →
      IsFirstKind records (run_points samples a a') run.kind
      → IsSoFar records samples (runs ++ run ∷ []) (separators ++ g ∷ []) h h' a' kind'
  one_more h' a' kind' more next reached f first = record {
    chosen = chosen_more records samples runs separators 0 g h run so_far.chosen so_far.within
        (subst (IsStep (FitsAny records) samples g h) (sym e) so_far.step)
        (first_at records samples a a' run e f first);
    joined = subst (Joins 0 (runs ++ run ∷ [])) f (joins_more runs 0 a run so_far.joined e);
    within = more;
    step = next;
    reached = reached;
  }

  pub last_one : length samples ≤ h → run.end ≡ length samples →
      IsFirstKind records (run_points samples a (length samples)) run.kind
      → IsCanonical records samples (runs ++ run ∷ []) (separators ++ g ∷ [])
  last_one done f first =
      let all : h ≡ length samples = let w = so_far.step.reached.1 in omega arith in (
        subst (CanonicalTo records samples 0 (runs ++ run ∷ []) (separators ++ g ∷ [])) all
            (chosen_more records samples runs separators 0 g h run so_far.chosen so_far.within
            (subst (IsStep (FitsAny records) samples g h) (sym e) so_far.step)
            (first_at records samples a (length samples) run e f first)),
        subst (Joins 0 (runs ++ run ∷ [])) f (joins_more runs 0 a run so_far.joined e),
      )

-- what the packing is
pub record IsFound (records : Records) (samples : List ℤ) (runs : List Run) (separators : List ℕ) : Type 0 where
  pub packing : IsPacking records samples runs
  pub least : IsLeast records samples runs
  pub separating : IsSeparating records samples separators
  pub as_many : length runs ≡ length separators
  pub canonical : IsCanonical records samples runs separators

pub found : (records : Records) (samples : List ℤ) → 256 ≤ records.bytes → (runs : List Run) (separators : List ℕ)
    → IsCanonical records samples runs separators → IsFound records samples runs separators
found records samples enough runs separators chosen =
    let short = short_any records enough in
    record {
      packing = packing records samples short (back_step_any records) runs separators chosen;
      least = least records samples short runs separators chosen;
      separating = separating records samples short runs separators chosen;
      as_many = as_many records samples runs separators chosen;
      canonical = chosen;
    }
