-- The ends of runs from a frontier, by kind.
use Rattle.std.proofs.Common.{◌≡◌, ℕ, ◌+◌, ◌-◌, ◌<◌, ◌≤◌, ◌⊎◌, max, min, ℤ, pos, List, [], ◌∷◌, ◌++◌, length, map, arith, refl, sym, ap, ◌∙◌, subst, inl, inr}
use Rattle.std.specs.Prelude.{slice_index_or}
use Rattle.std.proofs.lemmas.Bool.{cases_lt}
use Rattle.msr_words.specs.Fit.{Records, Fits, FitsIn, IsRun, IsFirstKind, rank}
use Rattle.msr_base.specs.declared.kinds.Kind.{Kind}
use Rattle.msr_base.specs.declared.kinds.Kind.TheVariants.{Int16, Int24, Int32, Steim1, Steim2}
use Rattle.msr_words.specs.Bounds.{BeginsWithFour, IsEnd}
use Rattle.msr_base.specs.Kinds.{IsChosen}
use Rattle.msr_base.proofs.KindLemmas.{int32_is_chosen}
use Rattle.msr_words.specs.Laws.{BackStepLaw, look_back_of, most_of}
use Rattle.msr_words.specs.Segment.{difference_at, run_points}
use Rattle.msr_words.specs.Lemmas.KindLaws.{back_step_kind, empty_kind, prefix_kind, size_kind}
use Rattle.msr_words.proofs.AnyKind.{back_step_in}
use Rattle.msr_words.proofs.Runs.{back_step_run, length-run_points, prefix_run, run_points_cut, run_points_more, run_points_none}
use Rattle.msr_words.proofs.DivisionsExist.{few_kinds, rank_same}
use Rattle.msr_words.proofs.WordRoom.{rest_of_run}
use Rattle.msr_packer.specs.declared.step.Ends.{Ends}
use Rattle.msr_packer.specs.Steps.{Among, AreEnds, AreEndsAmong, IsEndIn, IsStepAmong, NonePast, end_of, every_kind, longer_kinds}
use Rattle.msr_packer.proofs.StepsByKinds.{each_kind, one_kind}
use Rattle.msr_packer.proofs.Search.{IsBest, best_first, step_found}

module _ (bytes : ℕ) (samples : List ℤ) (g : ℕ) where
  -- no samples
  pub empty_run : (kind : Kind) → 64 ≤ bytes → g ≤ length samples → IsRun (Fits kind bytes) samples g g
  empty_run kind header within = (omega arith, within, rw run_points_none (empty_kind kind bytes header))

  -- no run is longer than the longest of its kind
  pub none_longer : (kind : Kind) (most end : ℕ) → most ≡ most_of kind bytes → g ≤ end → most ≤ end - g → (s b : ℕ)
      → s ≤ g → IsRun (Fits kind bytes) samples s b → b ≤ end
  none_longer kind most end is order long s b le run =
      let size = size_kind kind bytes (run_points samples s b) run.2 in
      let l = length-run_points samples s b run.0 run.1 in
      let up = run.0 in
      omega arith

  pub int32_is_end : (left : ℕ) → 64 ≤ bytes → g ≤ length samples
      → left ≡ min (length samples - g) (most_of Int32 bytes) → IsEnd Int32 bytes samples g (g + left)
  int32_is_end left header within is =
      let l = length-run_points samples g (g + left) (omega arith) (omega arith) in
      let run : IsRun (Fits Int32 bytes) samples g (g + left) =
      (omega arith, omega arith, (omega arith, omega arith)) in
      record {
        fits = run;
        furthest = λ b r.
            let size = size_kind Int32 bytes (run_points samples g b) r.2 in
            let k = length-run_points samples g b r.0 r.1 in
            let up = r.0 in
            let in' = r.1 in
            omega arith;
      }

  -- Steim-1 from the frontier, and from the sample before it
  module _ (end : ℕ) (is : IsEnd Steim1 bytes samples g end) where
    pub from_here : IsBest (Fits Steim1 bytes) samples g 1 end g
    from_here = best_first (Fits Steim1 bytes) samples g end is.fits is.furthest

    module _ (some : 0 < g) (apart : (b : ℕ) → g - 1 ≤ b → b ≤ length samples
        → BeginsWithFour (map (λ p. p.1) (run_points samples (g - 1) b)) → ⊥) where
      without_first : (b : ℕ) → g < b → IsRun (Fits Steim1 bytes) samples (g - 1) b
          → IsRun (Fits Steim1 bytes) samples g b
      without_first b past run =
          let in' = run.1 in
          let p : ℤ × ℤ = (slice_index_or samples (g - 1) (pos 0), difference_at samples (g - 1)) in
          let up : g - 1 + 1 ≡ g = omega arith in
          let one : run_points samples (g - 1) g ≡ p ∷ [] =
          subst (λ x. run_points samples (g - 1) x ≡ p ∷ []) up
          (run_points_more samples (g - 1) (g - 1) (omega arith) (omega arith)
          ∙ ap (λ l. l ++ p ∷ []) (run_points_none samples (g - 1))) in
          let whole : run_points samples (g - 1) b ≡ p ∷ run_points samples g b =
          sym (run_points_cut samples (g - 1) g b (omega arith) (omega arith))
          ∙ ap (λ l. l ++ run_points samples g b) one in
          let can : Fits Steim1 bytes (p ∷ run_points samples g b) = subst (Fits Steim1 bytes) whole run.2 in (
            omega arith,
            in',
            rest_of_run bytes p (run_points samples g b)
                (λ four. apart b (omega arith) in' (subst (λ l. BeginsWithFour (map (λ p. p.1) l))
                (sym whole) four)) can,
          )

      pub from_here_alone : IsBest (Fits Steim1 bytes) samples g 2 end g
      from_here_alone =
          let first = from_here in
          record {
            before = first.before;
            among = omega arith;
            past = first.past;
            reached = first.reached;
            furthest = λ s b le lt run. elim (cases_lt g (s + 1)) [
              | inl here ↦ first.furthest s b le here run
              | inr before ↦ elim (cases_lt g b) [
                | inl past ↦ is.furthest b (without_first b past
                    (subst (λ x. IsRun (Fits Steim1 bytes) samples x b) (omega arith) run))
                | inr not ↦ let p = first.past in omega arith
              ]
            ];
            last = λ s le lt run. le;
          }

-- ---- steps with records of one kind

module _ (records : Records) (samples : List ℤ) (g : ℕ) where
  -- the end is that of the kind, if there are records of it
  pub end_if_chosen : (kind : Kind) (end : ℕ) → IsChosen records.kinds kind
      → IsEnd kind records.bytes samples g end → IsEndIn kind records samples g end
  end_if_chosen kind end chosen is = record {
    fits = is.fits;
    chosen = λ _. chosen;
    furthest = λ b run. is.furthest b (run.0, run.1, run.2.1);
  }

  -- else it is the frontier
  pub end_if_not : (kind : Kind) → 64 ≤ records.bytes → (IsChosen records.kinds kind → ⊥) → g ≤ length samples
      → IsEndIn kind records samples g g
  end_if_not kind header not within = record {
    fits = empty_run records.bytes samples g kind header within;
    chosen = λ on. absurd (omega arith);
    furthest = λ b run. absurd (not run.2.0);
  }

  -- the run to the end is of that kind, or empty
  pub run_or_none : (kind : Kind) (end : ℕ) → IsEndIn kind records samples g end
      → IsRun (FitsIn kind records) samples g end ⊎ (end ≡ g)
  run_or_none kind end is = elim (cases_lt g end) [
    | inl on ↦ inl (is.fits.0, is.fits.1, (is.chosen on, is.fits.2))
    | inr not ↦ let up = is.fits.0 in inr (omega arith)
  ]

  -- if each part after a cut fits by itself, no earlier start reaches further
  pub none_past : (kind : Kind) (h : ℕ) → look_back_of kind ≡ 0 → IsEndIn kind records samples g h → (s b : ℕ) → s ≤ g
      → IsRun (FitsIn kind records) samples s b → b ≤ h
  none_past kind h alone is s b le run = elim (cases_lt g b) [
    | inl past ↦
        let cut = back_step_run (FitsIn kind records) 0
        (subst (λ places. BackStepLaw places (FitsIn kind records)) alone (back_step_in kind records)) samples s g b le
        (omega arith) run in
        let high = cut.3 in
        let low = cut.2 in
        let same : cut.0 ≡ g = omega arith in
        is.furthest b (subst (λ x. IsRun (FitsIn kind records) samples x b) same cut.4)
    | inr not ↦ let up = is.fits.0 in omega arith
  ]

  -- a run that is as long as it can be from the frontier; one of no samples is of another kind, if no record is of that
  pub longest_step : (kind shown : Kind) (h : ℕ) → 64 ≤ records.bytes → IsChosen records.kinds shown
      → (IsChosen records.kinds kind → shown ≡ kind) → look_back_of kind ≡ 0 → IsEndIn kind records samples g h
      → IsStepAmong (kind ∷ []) records samples g (record { start = g; end = h; kind = shown })
  longest_step kind shown h header chosen same alone is = record {
    before = omega arith;
    past = is.fits.0;
    reached = elim (run_or_none kind h is) [
      | inl run ↦ subst (λ k. IsRun (FitsIn k records) samples g h) (sym (same run.2.0)) run
      | inr none ↦ subst (λ e. IsRun (FitsIn shown records) samples g e) (sym none) nothing
    ];
    still = λ _. refl;
    furthest = λ k among s b le run. elim among [
      | inl e ↦ none_past kind h alone is s b le (subst (λ k. IsRun (FitsIn k records) samples s b) e run)
      | inr none ↦ absurd none
    ];
    last = λ k among s le run. le;
  }
    where
      nothing : IsRun (FitsIn shown records) samples g g
      nothing =
          let run = empty_run records.bytes samples g shown header
          (let up = is.fits.0 in let in' = is.fits.1 in omega arith) in
          (run.0, run.1, (chosen, run.2))

  -- the step of Steim-1, of the best of the starts
  pub steim1_found : (end : ℕ) → IsChosen records.kinds Steim1 → IsEnd Steim1 records.bytes samples g end
      → (back h a : ℕ) → min g 1 < back → IsBest (Fits Steim1 records.bytes) samples g back h a
      → IsStepAmong (Steim1 ∷ []) records samples g (record { start = a; end = h; kind = Steim1 })
  steim1_found end chosen is back h a all best =
      one_kind records samples g Steim1 h a chosen best.past still
      (step_found (Fits Steim1 records.bytes) samples g 1 (back_step_kind Steim1 records.bytes) back
      h a all best)
    where
      still : h ≡ g → a ≡ g
      still same =
          let up = is.fits.0 in
          let least = best.furthest g end (omega arith) (omega arith) is.fits in
          let here : end ≡ h = omega arith in
          let l = best.last g (omega arith) (omega arith)
          (subst (λ b. IsRun (Fits Steim1 records.bytes) samples g b) here is.fits) in
          let low = best.before in
          omega arith

-- ---- what the ends tell

-- they are tried first
longer_rank : (kind : Kind) → Among longer_kinds kind → rank kind < 3
longer_rank kind among = elim among [
  | inl one ↦ subst (λ k. rank k < 3) (sym one) (omega arith)
  | inr others ↦ elim others [
    | inl sixteen ↦ subst (λ k. rank k < 3) (sym sixteen) (omega arith)
    | inr last ↦ elim last [
      | inl two ↦ subst (λ k. rank k < 3) (sym two) (omega arith)
      | inr none ↦ absurd none
    ]
  ]
]

module _ (records : Records) (samples : List ℤ) (g : ℕ) where
  -- an end past the frontier is of a kind of the records; so a run that ends no later is of that kind, or empty
  of_kind : (kind : Kind) (end c : ℕ) → (g < end → IsChosen records.kinds kind) → g ≤ c → c ≤ end
      → IsChosen records.kinds kind ⊎ (c ≡ g)
  of_kind kind end c chosen from to = elim (cases_lt g end) [
    | inl on ↦ inl (chosen on)
    | inr not ↦ inr (omega arith)
  ]

  -- of the kinds of which records are longer than those of 24-bit integers can be
  pub longer_ends : (end e2 e1 e16 : ℕ) → IsRun (Fits Steim2 records.bytes) samples g e2
      → (g < e2 → IsChosen records.kinds Steim2)
      → IsRun (Fits Steim1 records.bytes) samples g e1 → (g < e1 → IsChosen records.kinds Steim1)
      → IsRun (Fits Int16 records.bytes) samples g e16 → (g < e16 → IsChosen records.kinds Int16) →
      ((c : ℕ) → end ≤ c + 1 → IsRun (FitsIn Steim2 records) samples g c → c ≤ e2)
      → ((c : ℕ) → end ≤ c + 1 → IsRun (FitsIn Steim1 records) samples g c → (c ≤ e1) ⊎ (c ≤ e2)) →
      (known : ℕ) → (known ≡ e2) ⊎ (known ≡ e1) →
      ((c : ℕ) → end ≤ c + 1 → IsRun (FitsIn Int16 records) samples g c → (c ≤ e16) ⊎ (c ≤ known)) → (ends : Ends)
      → ends.steim2 ≡ e2 → ends.steim1 ≡ e1 → ends.int16 ≡ e16 → AreEndsAmong longer_kinds records samples g end ends
  longer_ends end e2 e1 e16 two chosen_two one chosen_one sixteen chosen_sixteen past_two past_one known is_known
      past_sixteen ends is2 is1 is16 =
      record { fit = fit; chosen = chosen; past = past }
    where
      fit : (kind : Kind) → Among longer_kinds kind
          → IsRun (Fits kind records.bytes) samples g (end_of ends kind)
      fit Steim2 among = rw is2 two
      fit Steim1 among = rw is1 one
      fit Int16 among = rw is16 sixteen
      fit Int24 among = absurd (let r = longer_rank Int24 among in omega arith)
      fit Int32 among = absurd (let r = longer_rank Int32 among in omega arith)

      chosen : (kind : Kind) → Among longer_kinds kind → g < end_of ends kind → IsChosen records.kinds kind
      chosen Steim2 among on = chosen_two (omega arith)
      chosen Steim1 among on = chosen_one (omega arith)
      chosen Int16 among on = chosen_sixteen (omega arith)
      chosen Int24 among on = absurd (let r = longer_rank Int24 among in omega arith)
      chosen Int32 among on = absurd (let r = longer_rank Int32 among in omega arith)

      -- a run of a kind that ends no later than Steim-2
      by_two : (kind : Kind) → Among longer_kinds kind → rank Steim2 ≤ rank kind → (c : ℕ)
          → IsRun (FitsIn kind records) samples g c → c ≤ e2 → g ≤ end_of ends kind
          → (other : Kind) × Among longer_kinds other × IsChosen records.kinds other × (rank other ≤ rank kind)
          × (c ≤ end_of ends other)
      by_two kind among low c run le from = elim (of_kind Steim2 e2 c chosen_two run.0 le) [
        | inl has ↦ (Steim2, inr (inr (inl refl)), has, low, rw is2 le)
        | inr none ↦ (kind, among, run.2.0, omega arith, omega arith)
      ]

      -- or than Steim-1
      by_one : (kind : Kind) → Among longer_kinds kind → rank Steim1 ≤ rank kind → (c : ℕ)
          → IsRun (FitsIn kind records) samples g c → c ≤ e1 → g ≤ end_of ends kind
          → (other : Kind) × Among longer_kinds other × IsChosen records.kinds other × (rank other ≤ rank kind)
          × (c ≤ end_of ends other)
      by_one kind among low c run le from = elim (of_kind Steim1 e1 c chosen_one run.0 le) [
        | inl has ↦ (Steim1, inl refl, has, low, rw is1 le)
        | inr none ↦ (kind, among, run.2.0, omega arith, omega arith)
      ]

      past : (kind : Kind) → Among longer_kinds kind → (c : ℕ) → end ≤ c + 1 → IsRun (FitsIn kind records) samples g c
          → (other : Kind) × Among longer_kinds other × IsChosen records.kinds other × (rank other ≤ rank kind)
          × (c ≤ end_of ends other)
      past Steim2 among c near run = (Steim2, among, run.2.0, omega arith, rw is2 (past_two c near run))
      past Steim1 among c near run = elim (past_one c near run) [
        | inl m ↦ (Steim1, among, run.2.0, omega arith, rw is1 m)
        | inr m ↦ by_two Steim1 among (omega arith) c run m (let up = one.0 in omega arith)
      ]
      past Int16 among c near run = elim (past_sixteen c near run) [
        | inl m ↦ (Int16, among, run.2.0, omega arith, rw is16 m)
        | inr m ↦ elim is_known [
          | inl second ↦ by_two Int16 among (omega arith) c run (omega arith) (let up = sixteen.0 in omega arith)
          | inr first ↦ by_one Int16 among (omega arith) c run (omega arith) (let up = sixteen.0 in omega arith)
        ]
      ]
      past Int24 among c near run = absurd (let r = longer_rank Int24 among in omega arith)
      past Int32 among c near run = absurd (let r = longer_rank Int32 among in omega arith)

  -- a run of one of them reaches to the greatest of their ends; it is of a kind of the records, or empty
  pub reached_by : (end reached : ℕ) (ends : Ends) → reached ≡ max (max ends.steim2 ends.steim1) ends.int16
      → AreEndsAmong longer_kinds records samples g end ends
      → (kind : Kind) × Among longer_kinds kind × (g ≤ reached) × (reached ≤ length samples)
      × (IsRun (FitsIn kind records) samples g reached ⊎ (reached ≡ g))
  reached_by end reached ends is are = elim (cases_lt (max ends.steim2 ends.steim1) ends.int16) [
    | inl sixteen ↦ at Int16 (inr (inl refl)) (omega arith)
    | inr not ↦ elim (cases_lt ends.steim2 ends.steim1) [
      | inl one ↦ at Steim1 (inl refl) (omega arith)
      | inr two ↦ at Steim2 (inr (inr (inl refl))) (omega arith)
    ]
  ]
    where
      at : (kind : Kind) → Among longer_kinds kind → end_of ends kind ≡ reached
          → (kind : Kind) × Among longer_kinds kind × (g ≤ reached) × (reached ≤ length samples)
          × (IsRun (FitsIn kind records) samples g reached ⊎ (reached ≡ g))
      at kind among same =
          let run = subst (IsRun (Fits kind records.bytes) samples g) same (are.fit kind among) in (
            kind,
            among,
            run.0,
            run.1,
            elim (of_kind kind reached reached (subst (λ e. g < e → IsChosen records.kinds kind) same
                (are.chosen kind among)) run.0 (omega arith)) [
                  | inl has ↦ inl (run.0, run.1, (has, run.2))
                  | inr none ↦ inr none
                ],
          )

  -- and of all kinds
  pub all_ends : (end last reached : ℕ) (ends all : Ends) → reached ≡ max (max ends.steim2 ends.steim1) ends.int16
      → end ≤ last → AreEndsAmong longer_kinds records samples g end ends → all.steim2 ≡ ends.steim2
      → all.steim1 ≡ ends.steim1 → all.int16 ≡ ends.int16 →
      IsRun (Fits Int24 records.bytes) samples g all.int24 → (g < all.int24 → IsChosen records.kinds Int24)
      → NonePast Int24 records samples g all.int24 reached
      → IsEnd Int32 records.bytes samples g all.int32 → AreEnds records samples g last all
  all_ends end last reached ends all greatest over are is2 is1 is16 run24 chosen24 past24 end32 =
      record { fit = fit; chosen = chosen; past = past }
    where
      same : (kind : Kind) → Among longer_kinds kind → end_of all kind ≡ end_of ends kind
      same Steim2 among = is2
      same Steim1 among = is1
      same Int16 among = is16
      same Int24 among = absurd (let r = longer_rank Int24 among in omega arith)
      same Int32 among = absurd (let r = longer_rank Int32 among in omega arith)

      fit : (kind : Kind) → Among every_kind kind
          → IsRun (Fits kind records.bytes) samples g (end_of all kind)
      fit Int32 among = end32.fits
      fit Int24 among = run24
      fit Steim1 among = rw is1 (are.fit Steim1 (inl refl))
      fit Int16 among = rw is16 (are.fit Int16 (inr (inl refl)))
      fit Steim2 among = rw is2 (are.fit Steim2 (inr (inr (inl refl))))

      chosen : (kind : Kind) → Among every_kind kind → g < end_of all kind → IsChosen records.kinds kind
      chosen Int32 among past = int32_is_chosen records.kinds
      chosen Int24 among past = chosen24 past
      chosen Steim1 among past = are.chosen Steim1 (inl refl) (omega arith)
      chosen Int16 among past = are.chosen Int16 (inr (inl refl)) (omega arith)
      chosen Steim2 among past = are.chosen Steim2 (inr (inr (inl refl))) (omega arith)

      longer : (kind : Kind) → Among longer_kinds kind → (c : ℕ) → last ≤ c + 1
          → IsRun (FitsIn kind records) samples g c → (other : Kind) × Among every_kind other
          × IsChosen records.kinds other × (rank other ≤ rank kind) × (c ≤ end_of all other)
      longer kind among c near run = let p = are.past kind among c (omega arith) run in
          (p.0, inr (inr p.1), p.2, p.3, rw (same p.0 p.1) p.4)

      -- one of the longer kinds reaches as far as a run of 24-bit integers, or the run is empty
      by_longer : (kind : Kind) → Among every_kind kind → rank kind ≤ rank Int24 → (c : ℕ)
          → IsRun (FitsIn Int24 records) samples g c → c ≤ end_of all kind
          → (other : Kind) × Among every_kind other × IsChosen records.kinds other × (rank other ≤ rank Int24)
          × (c ≤ end_of all other)
      by_longer kind among low c run le = elim (of_kind kind (end_of all kind) c (chosen kind among) run.0 le) [
        | inl has ↦ (kind, among, has, low, le)
        | inr none ↦ (Int24, each_kind Int24, run.2.0, omega arith, (let up = run24.0 in omega arith))
      ]

      past : (kind : Kind) → Among every_kind kind → (c : ℕ) → last ≤ c + 1 → IsRun (FitsIn kind records) samples g c
          → (other : Kind) × Among every_kind other × IsChosen records.kinds other × (rank other ≤ rank kind)
          × (c ≤ end_of all other)
      past Int32 among c near run = (Int32, among, run.2.0, omega arith, end32.furthest c (run.0, run.1, run.2.1))
      past Int24 among c near run = elim (past24 g c (omega arith) run) [
        | inl m ↦ (Int24, among, run.2.0, omega arith, m)
        | inr m ↦ elim (cases_lt ends.steim2 c) [
          | inr two ↦ by_longer Steim2 (each_kind Steim2) (omega arith) c run (omega arith)
          | inl more ↦ elim (cases_lt ends.steim1 c) [
            | inr one ↦ by_longer Steim1 (each_kind Steim1) (omega arith) c run (omega arith)
            | inl most ↦ by_longer Int16 (each_kind Int16) (omega arith) c run (omega arith)
          ]
        ]
      ]
      past Steim1 among c near run = longer Steim1 (inl refl) c near run
      past Int16 among c near run = longer Int16 (inr (inl refl)) c near run
      past Steim2 among c near run = longer Steim2 (inr (inr (inl refl))) c near run

-- ---- the kind of a run that is cut

module _ (records : Records) (samples : List ℤ) (g end : ℕ) (ends : Ends) (are : AreEnds records samples g end ends)
    (c : ℕ) (near : end ≤ c + 1) (order : g ≤ c) (within : c ≤ length samples) where
  -- the first kind of the records of which the end is not before the cut
  pub first_by_ends : (kind : Kind) → IsChosen records.kinds kind
      → ((other : Kind) → rank other < rank kind → IsChosen records.kinds other → end_of ends other < c)
      → c ≤ end_of ends kind → IsFirstKind records (run_points samples g c) kind
  first_by_ends kind chosen before le = (
    (
      chosen,
      (prefix_run (Fits kind records.bytes) (prefix_kind kind records.bytes) samples g c
          (end_of ends kind) order le (are.fit kind (each_kind kind))).2,
    ),
    λ other less fits.
        let p = are.past other (each_kind other) c near (order, within, fits) in
        let lower = p.3 in
        let up = p.4 in
        let short = before p.0 (omega arith) p.2 in
        omega arith,
  )

  -- a run that fits some kind, and reaches past the end of each but the last
  pub last_by_ends : (some : Kind) → FitsIn some records (run_points samples g c)
      → ((other : Kind) → rank other < rank Int32 → IsChosen records.kinds other → end_of ends other < c)
      → IsFirstKind records (run_points samples g c) Int32
  last_by_ends some fits before = first_by_ends Int32 (int32_is_chosen records.kinds) before
      (reached (are.past some (each_kind some) c near (order, within, fits)))
    where
      reached : (other : Kind) × Among every_kind other × IsChosen records.kinds other × (rank other ≤ rank some)
          × (c ≤ end_of ends other) → c ≤ end_of ends Int32
      reached p = elim (cases_lt (rank p.0) (rank Int32)) [
        | inl lower ↦ let short = before p.0 lower p.2 in let up = p.4 in absurd (omega arith)
        | inr last ↦ subst (λ k. c ≤ end_of ends k) (rank_same p.0 Int32 (let few = few_kinds p.0 in omega arith)) p.4
      ]

module _ (records : Records) (samples : List ℤ) (g end : ℕ) (ends : Ends)
    (are : AreEnds records samples g end ends) where
  none_first : (kind : Kind) → rank kind ≤ rank Steim2 → (c : ℕ) → end_of ends Steim2 < c → c ≤ end_of ends kind → ⊥
  none_first Steim2 low c past le = omega arith
  none_first Steim1 low c past le = omega arith
  none_first Int16 low c past le = omega arith
  none_first Int24 low c past le = omega arith
  none_first Int32 low c past le = omega arith

  -- a run that starts before the frontier is of no kind before Steim-1, if that of Steim-2 from the frontier ends
  -- before it
  pub not_before : (s c : ℕ) → s ≤ g → end ≤ c + 1 → c ≤ length samples → ends.steim2 < c
      → FitsIn Steim1 records (run_points samples s c) → IsFirstKind records (run_points samples s c) Steim1
  not_before s c before near within past fits = (fits, λ other lower room. none other lower room)
    where
      none : (other : Kind) → rank other < rank Steim1 → FitsIn other records (run_points samples s c) → ⊥
      none Steim2 lower room =
          let first = (are.fit Steim2 (each_kind Steim2)).0 in
          let cut = back_step_run (FitsIn Steim2 records) 0 (back_step_in Steim2 records) samples s g c before
          (omega arith) (omega arith, within, room) in
          let high = cut.3 in
          let low = cut.2 in
          let same : cut.0 ≡ g = omega arith in
          let p = are.past Steim2 (each_kind Steim2) c near
          (subst (λ x. IsRun (FitsIn Steim2 records) samples x c) same cut.4) in
          none_first p.0 p.3 c past p.4
      none Steim1 lower room = omega arith
      none Int16 lower room = omega arith
      none Int24 lower room = omega arith
      none Int32 lower room = omega arith
