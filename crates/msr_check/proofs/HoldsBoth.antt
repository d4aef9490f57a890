-- Two samples that one run holds, by the starts at and before the first of them.
use Rattle.std.proofs.Common.{◌≡◌, ◌↔◌, ℕ, ◌+◌, ◌-◌, ◌*◌, ◌<◌, ◌≤◌, ◌⊎◌, Bool, true, false, ◌||◌, IsTrue, nat_le, ℤ, pos, List, [], ◌∷◌, ◌++◌, length, map, arith, refl, sym, ap, ◌∙◌, subst, inl, inr}
use Rattle.std.specs.Prelude.{All, count_by, not, slice_index_or}
use Rattle.std.proofs.lemmas.Bool.{cases_lt}
use Rattle.std.proofs.lemmas.Bool.Decides.{nat_tests}
use Rattle.msr_base.specs.declared.kinds.Kind.{Kind}
use Rattle.msr_base.specs.declared.kinds.Kind.TheVariants.{Int16, Int24, Int32, Steim1, Steim2}
use Rattle.msr_base.specs.Kinds.{IsChosen}
use Rattle.msr_base.specs.RecordLength.{words_of}
use Rattle.msr_words.specs.Bounds.{BeginsWithFour, IsEnd, is_very_wide, is_wide}
use Rattle.msr_words.specs.Segment.{difference_at, run_points}
use Rattle.msr_words.specs.Fit.{Records, Fits, FitsIn, IsRun}
use Rattle.msr_words.specs.Laws.{IsNarrow, look_back_of, most_of}
use Rattle.msr_words.specs.Lemmas.KindLaws.{size_kind}
use Rattle.msr_words.proofs.AnyKind.{back_step_in, prefix_in}
use Rattle.msr_words.proofs.Runs.{back_step_run, length-run_points, prefix_run, run_points_cut, run_points_more, run_points_none}
use Rattle.msr_words.proofs.Stretches.{no_further, none_with_halves, none_with_wide}
use Rattle.msr_words.proofs.Dominance.{steim2_dominates}
use Rattle.msr_words.proofs.WordRoom.{end_law, rest_of_run, wide_of_steim1, wide_of_steim2}
use Rattle.msr_words.specs.Packing.{NoneHolds}
use Rattle.msr_check.specs.HoldsBoth.{HaveNoRoom, HoldsBoth, SteimHolds}
use Rattle.msr_check.specs.Known.{MeetsNarrow}

-- samples fit exactly when they end where the greatest end is, or before
pub fits_to : (records : Records) (samples : List ℤ) (kind : Kind) (start end most : ℕ)
    → IsEnd kind records.bytes samples start most → IsChosen records.kinds kind → start ≤ end → end ≤ length samples
    → IsTrue (nat_le end most) ↔ FitsIn kind records (run_points samples start end)
fits_to records samples kind start end most is chosen order within =
    let law = end_law kind records.bytes samples start most is end order in (
      λ t. let less : end ≤ most = grind (arith, nat_tests, t) in (chosen, (law.1 less).2),
      λ f. let less = law.0 (order, within, f.1) in grind (arith, nat_tests),
    )

module _ (samples : List ℤ) (first second : ℕ) (order : first < second) (within : second < length samples) where
  -- a run that is longer than any of its kind
  pub none_longer : (kind : Kind) (bytes : ℕ) → most_of kind bytes ≤ second - first → (s b : ℕ) → s ≤ first
      → second < b → IsRun (Fits kind bytes) samples s b → ⊥
  none_longer kind bytes long s b from past run =
      let size = size_kind kind bytes (run_points samples s b) run.2 in
      let l = length-run_points samples s b run.0 run.1 in
      omega arith

  pub too_long : (bytes : ℕ) → most_of Steim2 bytes ≤ second - first
      → HaveNoRoom bytes samples first second
  too_long bytes long = record {
    steim2 = none_longer Steim2 bytes long;
    steim1 = none_longer Steim1 bytes (omega arith);
  }

  pub too_wide : (bytes : ℕ) → 2 * words_of bytes
      < count_by is_wide (map (λ p. p.1) (run_points samples (first + 1) (second + 1)))
      → HaveNoRoom bytes samples first second
  too_wide bytes more = record {
    steim2 = λ s b from past run.
        let less = none_with_wide bytes samples Steim2
        (wide_of_steim2 bytes) (first + 1) (second + 1) (omega arith) more s b (omega arith) run in
        omega arith;
    steim1 = λ s b from past run.
        let less = none_with_wide bytes samples Steim1
        (wide_of_steim1 bytes) (first + 1) (second + 1) (omega arith) more s b (omega arith) run in
        omega arith;
  }

  pub too_many_halves : (bytes : ℕ) → 2 * words_of bytes
      < count_by is_wide (map (λ p. p.1) (run_points samples (first + 1) (second + 1)))
      + count_by is_very_wide (map (λ p. p.1) (run_points samples (first + 1) (second + 1))) → (s b : ℕ) → s ≤ first
      → second < b → IsRun (Fits Steim2 bytes) samples s b → ⊥
  too_many_halves bytes more s b from past run =
      let less = none_with_halves bytes samples (first + 1) (second + 1) (omega arith) more s b (omega arith) run in
      omega arith

module _ (records : Records) (samples : List ℤ) (first second : ℕ) (order : first < second)
    (within : second < length samples) where
  -- the part of the run from the first on, with as many samples before it as the kind may need, up to the second
  shorter : (kind : Kind) → HoldsBoth kind records samples first second → (s : ℕ) × (s ≤ first)
      × (first ≤ s + look_back_of kind) × IsRun (FitsIn kind records) samples s (second + 1)
  shorter kind holds =
      let from = holds.from in
      let past = holds.past in
      let less = prefix_run (FitsIn kind records) (prefix_in kind records) samples holds.start
      (second + 1) holds.end (omega arith) (omega arith) holds.run in
      let cut = back_step_run (FitsIn kind records) (look_back_of kind)
      (back_step_in kind records) samples holds.start first (second + 1) from (omega arith) less in
      (cut.0, cut.2, cut.3, cut.4)

  pub held : (kind : Kind) (start : ℕ) → start ≤ first → FitsIn kind records (run_points samples start (second + 1))
      → HoldsBoth kind records samples first second
  held kind start before fits = record {
    start = start;
    end = second + 1;
    run = (omega arith, omega arith, fits);
    from = before;
    past = omega arith;
  }

  pub held_here : (kind : Kind) → look_back_of kind ≡ 0 → HoldsBoth kind records samples first second
      → FitsIn kind records (run_points samples first (second + 1))
  held_here kind alone holds =
      let cut = shorter kind holds in
      let low = cut.1 in
      let high = cut.2 in
      let same : cut.0 ≡ first = omega arith in
      subst (λ s. FitsIn kind records (run_points samples s (second + 1))) same cut.3.2

  pub reaches_both : (kind : Kind) → IsChosen records.kinds kind → (start end : ℕ) → start ≤ first
      → IsEnd kind records.bytes samples start end → second < end → HoldsBoth kind records samples first second
  reaches_both kind chosen start end before is past = record {
    start = start;
    end = end;
    run = (is.fits.0, is.fits.1, (chosen, is.fits.2));
    from = before;
    past = past;
  }

  -- ---- Steim-1

  -- the run can leave its first sample out, if that shares a word with three others no more
  without_first : 0 < first → ((b : ℕ) → first - 1 ≤ b → b ≤ length samples
      → BeginsWithFour (map (λ p. p.1) (run_points samples (first - 1) b)) → ⊥) → (b : ℕ) → first < b
      → IsRun (Fits Steim1 records.bytes) samples (first - 1) b
      → IsRun (Fits Steim1 records.bytes) samples first b
  without_first some apart b past run =
      let in' = run.1 in
      let p : ℤ × ℤ = (slice_index_or samples (first - 1) (pos 0), difference_at samples (first - 1)) in
      let up : first - 1 + 1 ≡ first = omega arith in
      let one : run_points samples (first - 1) first ≡ p ∷ [] =
      subst (λ x. run_points samples (first - 1) x ≡ p ∷ []) up
      (run_points_more samples (first - 1) (first - 1) (omega arith) (omega arith)
      ∙ ap (λ l. l ++ p ∷ []) (run_points_none samples (first - 1))) in
      let whole : run_points samples (first - 1) b ≡ p ∷ run_points samples first b =
      sym (run_points_cut samples (first - 1) first b (omega arith) (omega arith))
      ∙ ap (λ l. l ++ run_points samples first b) one in
      let can : Fits Steim1 records.bytes (p ∷ run_points samples first b) =
      subst (Fits Steim1 records.bytes) whole run.2 in (
        omega arith,
        in',
        rest_of_run records.bytes p (run_points samples first b)
            (λ four. apart b (omega arith) in' (subst (λ l. BeginsWithFour (map (λ p. p.1) l))
            (sym whole) four)) can,
      )

  -- a run from the first on, or from the sample before it
  two_starts : HoldsBoth Steim1 records samples first second
      → IsRun (Fits Steim1 records.bytes) samples first (second + 1)
      ⊎ ((0 < first) × IsRun (Fits Steim1 records.bytes) samples (first - 1) (second + 1))
  two_starts holds =
      let cut = shorter Steim1 holds in
      let low = cut.1 in
      let high = cut.2 in
      let run : IsRun (Fits Steim1 records.bytes) samples cut.0 (second + 1) =
      (cut.3.0, cut.3.1, cut.3.2.1) in
      elim (cases_lt cut.0 first) [
        | inl before ↦
            let e : cut.0 ≡ first - 1 = omega arith in
            inr (omega arith, subst (λ s. IsRun (Fits Steim1 records.bytes) samples s (second + 1)) e run)
        | inr not ↦
            let e : cut.0 ≡ first = omega arith in
            inl (subst (λ s. IsRun (Fits Steim1 records.bytes) samples s (second + 1)) e run)
      ]

  module _ (here : ℕ) (here_is : IsEnd Steim1 records.bytes samples first here) (short : here ≤ second) where
    pub none_here : 0 ≡ first → HoldsBoth Steim1 records samples first second → ⊥
    none_here start holds = elim (two_starts holds) [
      | inl run ↦ let most = here_is.furthest (second + 1) run in omega arith
      | inr before ↦ let some = before.0 in omega arith
    ]

    pub none_apart : ((b : ℕ) → first - 1 ≤ b → b ≤ length samples
        → BeginsWithFour (map (λ p. p.1) (run_points samples (first - 1) b)) → ⊥)
        → HoldsBoth Steim1 records samples first second → ⊥
    none_apart apart holds = elim (two_starts holds) [
      | inl run ↦ let most = here_is.furthest (second + 1) run in omega arith
      | inr before ↦
          let most = here_is.furthest (second + 1)
          (without_first before.0 apart (second + 1) (omega arith) before.1) in
          omega arith
    ]

    pub none_before : (end : ℕ) → IsEnd Steim1 records.bytes samples (first - 1) end → end ≤ second
        → HoldsBoth Steim1 records samples first second → ⊥
    none_before end is less holds = elim (two_starts holds) [
      | inl run ↦ let most = here_is.furthest (second + 1) run in omega arith
      | inr before ↦ let most = is.furthest (second + 1) before.1 in omega arith
    ]

  -- ---- bounds

  pub too_many : most_of Steim1 records.bytes ≤ second - first → HoldsBoth Steim1 records samples first second
      → ⊥
  too_many long holds =
      let past = holds.past in
      none_longer samples first second order within Steim1 records.bytes long holds.start holds.end holds.from (omega arith)
      (holds.run.0, holds.run.1, holds.run.2.1)

  -- if the differences are narrow, what Steim-1 holds Steim-2 holds from the first on
  pub dominated : IsChosen records.kinds Steim2 → All (λ p. IsNarrow p.1) (run_points samples first (second + 1))
      → HoldsBoth Steim1 records samples first second → HoldsBoth Steim2 records samples first second
  dominated chosen narrow holds =
      let from = holds.from in
      let past = holds.past in
      let less = prefix_run (FitsIn Steim1 records) (prefix_in Steim1 records) samples holds.start
      (second + 1) holds.end (omega arith) (omega arith) holds.run in
      let cut = subst (Fits Steim1 records.bytes)
      (sym (run_points_cut samples holds.start first (second + 1) from (omega arith))) less.2.1 in
      held Steim2 first (omega arith) (
        chosen,
        steim2_dominates records.bytes (run_points samples holds.start first) (run_points samples first (second + 1)) narrow cut,
      )

  -- so it is if they are from the first on to the first that Steim-2 does not reach
  pub overtaken : IsChosen records.kinds Steim2 → MeetsNarrow records.bytes samples first
      → (HoldsBoth Steim2 records samples first second → ⊥) → HoldsBoth Steim1 records samples first second → ⊥
  overtaken chosen met none holds = elim (cases_lt second met.end) [
    | inl past ↦ none (reaches_both Steim2 chosen first met.end (omega arith) met.end_is past)
    | inr not ↦
        let most = no_further records.bytes samples first met.end met.end_is met.narrow holds.start holds.end holds.from
        (holds.run.0, holds.run.1, holds.run.2.1) in
        let past = holds.past in
        absurd (omega arith)
  ]

  -- ---- all kinds

  -- no run of any kind
  pub none_of_any : ((kind : Kind) → HoldsBoth kind records samples first second → ⊥)
      → NoneHolds records samples first second
  none_of_any none = record {
    none = λ a b run p q r s. none run.2.0
        (record { start = a; end = b; run = (run.0, run.1, run.2.1); from = p; past = s });
  }

  pub some_of_any : (kind : Kind) → HoldsBoth kind records samples first second → NoneHolds records samples first second → ⊥
  some_of_any kind holds none =
      let from = holds.from in
      let past = holds.past in
      none.none holds.start holds.end (holds.run.0, holds.run.1, (kind, holds.run.2)) from (omega arith)
      (omega arith) past

  some_of_steim : SteimHolds records samples first second → NoneHolds records samples first second → ⊥
  some_of_steim some none = elim some.holds [
    | inl two ↦ some_of_any Steim2 two none
    | inr one ↦ some_of_any Steim1 one none
  ]

  Says : Bool → Type 0 → Type 0
  Says answer P = IsTrue answer ↔ P

  -- none of the answers for each kind is yes exactly when no run holds both
  pub none_says : (short middle long steim : Bool) → (IsTrue short ↔ HoldsBoth Int16 records samples first second)
      → (IsTrue middle ↔ HoldsBoth Int24 records samples first second)
      → (IsTrue long ↔ HoldsBoth Int32 records samples first second) → (IsTrue steim ↔ SteimHolds records samples first second)
      → (IsTrue (not (((short || middle) || long) || steim)) ↔ NoneHolds records samples first second)
  unfolding Says
  none_says short middle long steim r m s p = (say short middle long steim r m s p, hear short middle long steim r m s p)
    where
      never : (answer : Bool) (P : Type 0) → Says answer P → answer ≡ false → P → ⊥
      never answer P says e holds = let t = says.1 holds in cc

      say : (short middle long steim : Bool) → Says short (HoldsBoth Int16 records samples first second)
          → Says middle (HoldsBoth Int24 records samples first second)
          → Says long (HoldsBoth Int32 records samples first second) → Says steim (SteimHolds records samples first second)
          → IsTrue (not (((short || middle) || long) || steim)) → NoneHolds records samples first second
      say true middle long steim r m s p h = absurd cc
      say false true long steim r m s p h = absurd cc
      say false false true steim r m s p h = absurd cc
      say false false false true r m s p h = absurd cc
      say false false false false r m s p h = none_of_any none
        where
          none : (kind : Kind) → HoldsBoth kind records samples first second → ⊥
          none Steim2 = λ two. never false (SteimHolds records samples first second) p refl (record { holds = inl two })
          none Steim1 = λ one. never false (SteimHolds records samples first second) p refl (record { holds = inr one })
          none Int16 = never false (HoldsBoth Int16 records samples first second) r refl
          none Int24 = never false (HoldsBoth Int24 records samples first second) m refl
          none Int32 = never false (HoldsBoth Int32 records samples first second) s refl

      hear : (short middle long steim : Bool) → Says short (HoldsBoth Int16 records samples first second)
          → Says middle (HoldsBoth Int24 records samples first second)
          → Says long (HoldsBoth Int32 records samples first second) → Says steim (SteimHolds records samples first second)
          → NoneHolds records samples first second → IsTrue (not (((short || middle) || long) || steim))
      hear true middle long steim r m s p none = absurd (some_of_any Int16 (r.0 refl) none)
      hear false true long steim r m s p none = absurd (some_of_any Int24 (m.0 refl) none)
      hear false false true steim r m s p none = absurd (some_of_any Int32 (s.0 refl) none)
      hear false false false true r m s p none = absurd (some_of_steim (p.0 refl) none)
      hear false false false false r m s p none = refl
