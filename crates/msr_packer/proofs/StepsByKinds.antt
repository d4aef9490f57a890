-- Steps with records of one kind, of one kind more, and of all kinds.
use Rattle.std.proofs.Common.{◌≡◌, ℕ, ◌<◌, ◌≤◌, ◌⊎◌, ℤ, List, [], ◌∷◌, arith, refl, sym, subst, inl, inr}
use Rattle.std.proofs.lemmas.Bool.{cases_lt}
use Rattle.msr_words.specs.Fit.{Records, Fits, FitsAny, FitsIn, IsRun}
use Rattle.msr_base.specs.declared.kinds.Kind.{Kind}
use Rattle.msr_base.specs.declared.kinds.Kind.TheVariants.{Int16, Int24, Int32, Steim1, Steim2}
use Rattle.msr_base.specs.Kinds.{IsChosen}
use Rattle.msr_words.specs.Packing.{IsStep}
use Rattle.msr_packer.specs.declared.step.StepRun.{StepRun}
use Rattle.msr_packer.specs.Steps.{Among, IsBetter, IsStepAmong, NotLess, every_kind}

pub not_shorter : (result than : StepRun) → NotLess result than → than.end ≤ result.end
not_shorter result than not = elim not.further [
  | inl more ↦ omega arith
  | inr same ↦ let e = same.0 in omega arith
]

pub each_kind : (kind : Kind) → Among every_kind kind
each_kind Int32 = inl refl
each_kind Int24 = inr (inl refl)
each_kind Steim1 = inr (inr (inl refl))
each_kind Int16 = inr (inr (inr (inl refl)))
each_kind Steim2 = inr (inr (inr (inr (inl refl))))

-- of two steps that reach as far, the better one starts no earlier
not_later : (result than : StepRun) → NotLess result than → result.end ≤ than.end → (s : ℕ)
    → (result.end ≡ than.end → s ≤ than.start) → s ≤ result.start
not_later result than not le s late = elim not.further [
  | inl more ↦ absurd (omega arith)
  | inr same ↦ let l = late (sym same.0) in let up = same.1 in omega arith
]

pub starts_here : (step other result : StepRun) (g : ℕ) → step.start ≡ g → other.start ≡ g
    → (result ≡ step) ⊎ ((result ≡ other) × IsBetter other step) → result.start ≡ g
starts_here step other result g here there either = elim either [
  | inl e ↦ subst (λ r. r.start ≡ g) (sym e) here
  | inr e ↦ subst (λ r. r.start ≡ g) (sym e.0) there
]

module _ (records : Records) (samples : List ℤ) (g : ℕ) where
  -- a run that fits one of the records of its kind
  without_choice : (kind : Kind) (s b : ℕ) → IsRun (FitsIn kind records) samples s b
      → IsRun (Fits kind records.bytes) samples s b
  without_choice kind s b run = (run.0, run.1, run.2.1)

  -- the step with records of one kind
  pub one_kind : (kind : Kind) (h a : ℕ) → IsChosen records.kinds kind → g ≤ h → (h ≡ g → a ≡ g)
      → IsStep (Fits kind records.bytes) samples g h a
      → IsStepAmong (kind ∷ []) records samples g (record { start = a; end = h; kind = kind })
  one_kind kind h a chosen past still step = record {
    before = step.before;
    past = past;
    reached = (step.reached.0, step.reached.1, (chosen, step.reached.2));
    still = still;
    furthest = λ k among s b le run. elim among [
      | inl e ↦ step.furthest s b le (without_choice kind s b (subst (λ k. IsRun (FitsIn k records) samples s b) e run))
      | inr none ↦ absurd none
    ];
    last = λ k among s le run. elim among [
      | inl e ↦ step.last s le (without_choice kind s h (subst (λ k. IsRun (FitsIn k records) samples s h) e run))
      | inr none ↦ absurd none
    ];
  }

  -- the better of a step and the step of one kind more
  pub one_more : (kind : Kind) (tried : List Kind) (step other result : StepRun)
      → IsStepAmong tried records samples g step → IsStepAmong (kind ∷ []) records samples g other →
      (result ≡ step) ⊎ ((result ≡ other) × IsBetter other step) → NotLess result step → NotLess result other
      → IsStepAmong (kind ∷ tried) records samples g result
  one_more kind tried step other result is one either first second = record {
    before = elim either [
      | inl e ↦ subst (λ r. r.start ≤ g) (sym e) is.before
      | inr e ↦ subst (λ r. r.start ≤ g) (sym e.0) one.before
    ];
    past = elim either [
      | inl e ↦ subst (λ r. g ≤ r.end) (sym e) is.past
      | inr e ↦ subst (λ r. g ≤ r.end) (sym e.0) one.past
    ];
    reached = elim either [
      | inl e ↦ subst (λ r. IsRun (FitsIn r.kind records) samples r.start r.end) (sym e) is.reached
      | inr e ↦ subst (λ r. IsRun (FitsIn r.kind records) samples r.start r.end) (sym e.0) one.reached
    ];
    still = elim either [
      | inl e ↦ subst (λ r. r.end ≡ g → r.start ≡ g) (sym e) is.still
      | inr e ↦ subst (λ r. r.end ≡ g → r.start ≡ g) (sym e.0) one.still
    ];
    furthest = λ k among s b le run. elim among [
      | inl e ↦ let f = one.furthest k (inl e) s b le run in let m = not_shorter result other second in omega arith
      | inr old ↦ let f = is.furthest k old s b le run in let m = not_shorter result step first in omega arith
    ];
    last = λ k among s le run. elim among [
      | inl e ↦ not_later result other second (one.furthest k (inl e) s result.end le run) s
          (λ same. one.last k (inl e) s le (subst (λ b. IsRun (FitsIn k records) samples s b) same run))
      | inr old ↦ not_later result step first (is.furthest k old s result.end le run) s
          (λ same. is.last k old s le (subst (λ b. IsRun (FitsIn k records) samples s b) same run))
    ];
  }

  -- The better of a step and one from the frontier itself, if each run of one kind more ends no later than that one, or
  -- than a run from the frontier that the step's kinds know.
  pub one_covered : (kind : Kind) (tried : List Kind) (step other result : StepRun) (known : Kind) (e : ℕ)
      → other.start ≡ g → IsStepAmong tried records samples g step
      → IsRun (Fits other.kind records.bytes) samples other.start other.end
      → (g < other.end → IsChosen records.kinds other.kind) →
      Among tried known → IsRun (FitsIn known records) samples g e ⊎ (e ≡ g)
      → ((s b : ℕ) → s ≤ g → IsRun (FitsIn kind records) samples s b → (b ≤ other.end) ⊎ (b ≤ e)) →
      (result ≡ step) ⊎ ((result ≡ other) × IsBetter other step) → NotLess result step → NotLess result other
      → IsStepAmong (kind ∷ tried) records samples g result
  one_covered kind tried step other result known e there is reached chosen among_known run_known cover either first
      second = record {
        before = elim either [
          | inl same ↦ subst (λ r. r.start ≤ g) (sym same) is.before
          | inr same ↦ let at : result.start ≡ g = subst (λ r. r.start ≡ g) (sym same.0) there in omega arith
        ];
        past = (let p = is.past in let m = not_shorter result step first in omega arith);
        reached = elim either [
          | inl same ↦ subst (λ r. IsRun (FitsIn r.kind records) samples r.start r.end) (sym same) is.reached
          | inr same ↦ subst (λ r. IsRun (FitsIn r.kind records) samples r.start r.end) (sym same.0)
              (reached.0, reached.1, (chosen (past_frontier same.1), reached.2))
        ];
        still = elim either [
          | inl same ↦ subst (λ r. r.end ≡ g → r.start ≡ g) (sym same) is.still
          | inr same ↦ λ _. subst (λ r. r.start ≡ g) (sym same.0) there
        ];
        furthest = λ k among s b le run. elim among [
          | inl same ↦ further b (cover s b le (subst (λ k. IsRun (FitsIn k records) samples s b) same run))
          | inr old ↦ let f = is.furthest k old s b le run in let m = not_shorter result step first in omega arith
        ];
        last = λ k among s le run. elim among [
          | inl same ↦ later s le (cover s result.end le
              (subst (λ k. IsRun (FitsIn k records) samples s result.end) same run))
          | inr old ↦
              let f = is.furthest k old s result.end le run in
              not_later result step first (omega arith) s (λ same. is.last k old s le
              (subst (λ b. IsRun (FitsIn k records) samples s b) same run))
        ];
      }
    where
      -- the other one is better only if it has samples
      past_frontier : IsBetter other step → g < other.end
      past_frontier better =
          let p = is.past in
          elim better.further [
            | inl more ↦ omega arith
            | inr later ↦ elim (cases_lt g other.end) [
              | inl on ↦ on
              | inr not ↦
                  let same = later.0 in
                  let late = later.1 in
                  let here = is.still (omega arith) in
                  absurd (omega arith)
            ]
          ]

      within : e ≤ step.end
      within = elim run_known [
        | inl run ↦ is.furthest known among_known g e (omega arith) run
        | inr none ↦ let p = is.past in omega arith
      ]

      further : (b : ℕ) → (b ≤ other.end) ⊎ (b ≤ e) → b ≤ result.end
      further b (inl c) = let m = not_shorter result other second in omega arith
      further b (inr c) = let m = not_shorter result step first in let w = within in omega arith

      -- the step starts at the frontier if it reaches no further than what is known
      from_there : step.end ≡ e → g ≤ step.start
      from_there same = elim run_known [
        | inl run ↦ is.last known among_known g (omega arith)
            (subst (λ b. IsRun (FitsIn known records) samples g b) (sym same) run)
        | inr none ↦ let here = is.still (omega arith) in omega arith
      ]

      later : (s : ℕ) → s ≤ g → (result.end ≤ other.end) ⊎ (result.end ≤ e) → s ≤ result.start
      later s le (inl c) = not_later result other second c s (λ same. omega arith)
      later s le (inr c) =
          let w = within in
          let m = not_shorter result step first in
          not_later result step first (omega arith) s (λ same. let l = from_there (omega arith) in omega arith)

  -- a step from the frontier itself that is no shorter than any run of one kind more
  pub skipped : (kind : Kind) (tried : List Kind) (step : StepRun) → step.start ≡ g
      → IsStepAmong tried records samples g step →
      ((s b : ℕ) → s ≤ g → IsRun (FitsIn kind records) samples s b → b ≤ step.end)
      → IsStepAmong (kind ∷ tried) records samples g step
  skipped kind tried step here is none = record {
    before = is.before;
    past = is.past;
    reached = is.reached;
    still = is.still;
    furthest = λ k among s b le run. elim among [
      | inl e ↦ none s b le (subst (λ k. IsRun (FitsIn k records) samples s b) e run)
      | inr old ↦ is.furthest k old s b le run
    ];
    last = λ k among s le run. omega arith;
  }

  -- a step that is longer than any run of one kind more
  pub outrun : (kind : Kind) (tried : List Kind) (step : StepRun) → IsStepAmong tried records samples g step →
      ((s b : ℕ) → s ≤ g → IsRun (FitsIn kind records) samples s b → b < step.end)
      → IsStepAmong (kind ∷ tried) records samples g step
  outrun kind tried step is short = record {
    before = is.before;
    past = is.past;
    reached = is.reached;
    still = is.still;
    furthest = λ k among s b le run. elim among [
      | inl e ↦ let less = short s b le (subst (λ k. IsRun (FitsIn k records) samples s b) e run) in omega arith
      | inr old ↦ is.furthest k old s b le run
    ];
    last = λ k among s le run. elim among [
      | inl e ↦
          let less = short s step.end le (subst (λ k. IsRun (FitsIn k records) samples s step.end) e run) in
          absurd (omega arith)
      | inr old ↦ is.last k old s le run
    ];
  }

  -- the same kinds in another order
  pub reordered : (kinds tried : List Kind) → ((kind : Kind) → Among kinds kind → Among tried kind) → (step : StepRun)
      → IsStepAmong tried records samples g step → IsStepAmong kinds records samples g step
  reordered kinds tried each step is = record {
    before = is.before;
    past = is.past;
    reached = is.reached;
    still = is.still;
    furthest = λ kind among. is.furthest kind (each kind among);
    last = λ kind among. is.last kind (each kind among);
  }

  -- with all of the records
  pub of_form : (step : StepRun) → IsStepAmong every_kind records samples g step
      → IsStep (FitsAny records) samples g step.end step.start
  of_form step is = record {
    before = is.before;
    reached = let run = is.reached in (run.0, run.1, (step.kind, run.2));
    furthest = λ s b le run. is.furthest run.2.0 (each_kind run.2.0) s b le (run.0, run.1, run.2.1);
    last = λ s le run. is.last run.2.0 (each_kind run.2.0) s le (run.0, run.1, run.2.1);
  }
