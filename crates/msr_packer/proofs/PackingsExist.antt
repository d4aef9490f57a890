-- Each list of samples has a canonical packing, and each first part of one has its rest.
use Rattle.std.proofs.Common.{◌≡◌, ℕ, zero, suc, ◌+◌, ◌≤◌, ◌⊎◌, ℤ, List, [], ◌∷◌, ◌++◌, length, append_assoc, refl, sym, subst, arith, inl, inr}
use Rattle.std.proofs.lemmas.Bool.{cases_lt}
use Rattle.msr_base.specs.declared.kinds.Kind.{Kind}
use Rattle.msr_words.specs.declared.kinds.Run.{Run}
use Rattle.msr_words.specs.Segment.{run_points}
use Rattle.msr_words.specs.Fit.{Records, FitsAny, IsRun}
use Rattle.msr_words.proofs.AnyKind.{empty_any}
use Rattle.msr_words.specs.Packing.{IsStep, IsCanonical}
use Rattle.msr_words.proofs.Runs.{run_points_none}
use Rattle.msr_words.specs.Existence.{Decided}
use Rattle.msr_words.proofs.DecidedStatements.{Last, last_of, most_decided}
use Rattle.msr_words.proofs.DivisionsExist.{any_decided, has_first_kind}
use Rattle.msr_packer.specs.SoFar.{IsSoFar}
use Rattle.msr_packer.proofs.Least.{goes_on, cut_fits, all_fits, one_more, last_one}

-- ---- the step from a frontier

module _ (records : Records) (samples : List ℤ) where
  run_decided : (a b : ℕ) → Decided (IsRun (FitsAny records) samples a b)
  run_decided a b = elim (most_decided a b) [
    | inl order ↦ elim (most_decided b (length samples)) [
      | inl within ↦ elim (any_decided records (run_points samples a b)) [
        | inl fits ↦ inl (order, within, fits)
        | inr never ↦ inr (λ r. never r.2)
      ]
      | inr never ↦ inr (λ r. never r.1)
    ]
    | inr never ↦ inr (λ r. never r.0)
  ]

  pub record HasStep (g : ℕ) : Type 0 where
    pub h : ℕ
    pub a : ℕ
    pub step : IsStep (FitsAny records) samples g h a

  Reaches : ℕ → ℕ → Type 0
  Reaches g h = Last (λ s. IsRun (FitsAny records) samples s h) g

  reaches_decided : (g h : ℕ) → Reaches g h ⊎ ((s : ℕ) → s ≤ g → IsRun (FitsAny records) samples s h → ⊥)
  unfolding Reaches
  reaches_decided g h = last_of (λ s. IsRun (FitsAny records) samples s h) (λ s. run_decided s h) g

  reached_or_not : (g h : ℕ) → Decided (Reaches g h)
  unfolding Reaches
  reached_or_not g h = elim (reaches_decided g h) [
    | inl l ↦ inl l
    | inr nowhere ↦ inr (λ l. nowhere l.place l.within l.holds)
  ]

  step_at : (g : ℕ) → Last (Reaches g) (length samples) → HasStep g
  unfolding Reaches
  step_at g l = record {
    h = l.place;
    a = l.holds.place;
    step = record {
      before = l.holds.within;
      reached = l.holds.holds;
      furthest = λ s b le r. elim (reaches_decided g b) [
        | inl k ↦ l.last b r.1 k
        | inr nowhere ↦ absurd (nowhere s le r)
      ];
      last = λ s le r. l.holds.last s le r;
    };
  }

  pub has_step : 64 ≤ records.bytes → (g : ℕ) → g ≤ length samples → HasStep g
  has_step room g within = elim (last_of (Reaches g) (reached_or_not g) (length samples)) [
    | inl l ↦ step_at g l
    | inr nowhere ↦ elim (reaches_decided g g) [
      | inl l ↦ absurd (nowhere g within l)
      | inr never ↦ absurd (never g (omega arith) (
        omega arith,
        within,
        subst (FitsAny records)
            (sym (run_points_none samples g)) (empty_any records room),
      ))
    ]
  ]

  -- ---- the rest of a packing

  pub record HasRest (runs : List Run) (separators : List ℕ) : Type 0 where
    pub others : List Run
    pub places : List ℕ
    pub canonical : IsCanonical records samples (runs ++ others) (separators ++ places)

  longer : (runs : List Run) (separators : List ℕ) (run : Run) (g : ℕ)
      → HasRest (runs ++ run ∷ []) (separators ++ g ∷ []) → HasRest runs separators
  longer runs separators run g rest = record {
    others = run ∷ rest.others;
    places = g ∷ rest.places;
    canonical = rw (
      ← append_assoc runs (run ∷ []) rest.others,
      ← append_assoc separators
          (g ∷ []) rest.places,
    ) rest.canonical;
  }

  rest_last : 256 ≤ records.bytes → (runs : List Run) (separators : List ℕ) (g h a : ℕ) (kind : Kind)
      → IsSoFar records samples runs separators g h a kind → length samples ≤ h → HasRest runs separators
  rest_last enough runs separators g h a kind so_far done =
      let fits = all_fits records samples enough g h a so_far.within so_far.step kind so_far.reached done in
      let first = has_first_kind records (run_points samples a (length samples)) (kind, fits.2) in
      let run : Run = record { start = a; end = length samples; kind = first.kind } in
      record {
        others = run ∷ [];
        places = g ∷ [];
        canonical = last_one records samples runs separators g h a kind so_far run refl done refl first.first;
      }

  pub rest_of : 256 ≤ records.bytes → (fuel : ℕ) (runs : List Run) (separators : List ℕ) (g h a : ℕ) (kind : Kind)
      → IsSoFar records samples runs separators g h a kind → length samples ≤ h + fuel → HasRest runs separators
  rest_of enough zero runs separators g h a kind so_far few =
      rest_last enough runs separators g h a kind so_far (omega arith)
  rest_of enough (suc fuel) runs separators g h a kind so_far few = elim (cases_lt h (length samples)) [
    | inr done ↦ rest_last enough runs separators g h a kind so_far done
    | inl more ↦
        let next = has_step (omega arith) h (omega arith) in
        let on = goes_on records samples enough h next.h next.a more next.step in
        let fits = cut_fits records samples enough g h a so_far.within so_far.step kind so_far.reached next.h next.a
        more next.step in
        let first = has_first_kind records (run_points samples a next.a) (kind, fits.2) in
        let any = next.step.reached in
        let run : Run = record { start = a; end = next.a; kind = first.kind } in
        longer runs separators run g
        (rest_of enough fuel (runs ++ run ∷ []) (separators ++ g ∷ []) h next.h next.a any.2.0
        (one_more records samples runs separators g h a kind so_far run refl next.h next.a any.2.0 more next.step
        (any.0, any.1, any.2.1) refl first.first) (omega arith))
  ]

  pub has_packing : 256 ≤ records.bytes → HasRest [] []
  has_packing enough = elim (cases_lt 0 (length samples)) [
    | inr none ↦ let e : 0 ≡ length samples = omega arith in record { others = []; places = []; canonical = (e, e) }
    | inl some ↦
        let first = has_step (omega arith) 0 (omega arith) in
        let any = first.step.reached in
        let low = first.step.before in
        let at : first.a ≡ 0 = omega arith in
        rest_of enough (length samples) [] [] 0 first.h first.a any.2.0
        (record {
          chosen = refl;
          joined = sym at;
          within = some;
          step = first.step;
          reached = (any.0, any.1, any.2.1);
        }) (omega arith)
  ]
