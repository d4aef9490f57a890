-- The first runs of a list, judged over the segment where it stands.
use Rattle.std.proofs.Common.{◌≡◌, ◌↔◌, ℕ, ◌+◌, ◌<◌, ◌≤◌, Bool, true, IsTrue, ℤ, List, [], ◌∷◌, ◌++◌, length, take, drop, get_or, Option, Some, None, arith, refl, sym, ap, ◌∙◌, subst}
use Rattle.std.specs.Prelude.{slice_index}
use Rattle.std.proofs.lemmas.List.{drop_more, length-take-le, take-append-drop, take-take, take_all, take_more}
use Rattle.msr_words.specs.declared.kinds.Run.{Run}
use Rattle.msr_words.specs.Fit.{Records}
use Rattle.msr_words.specs.Packing.{IsPacking, IsSeparating, Joins}
use Rattle.msr_check.proofs.Judging.{holds_more, judges_end, none_more, number_is}
use Rattle.msr_check.proofs.Rising.{none_separating}
use Rattle.msr_check.specs.Judged.{FollowsLast, HoldsSoFar, IsSoundLast, Judged, becomes_last, next_run}
use Rattle.msr_check.specs.declared.judge.LastRun.{LastRun}

-- what a judge shows if all samples before `at` are held
abbrev pub judged_to : List ℤ → ℕ → ℕ → Option LastRun → Judged
judged_to samples count at last = record { held = take at samples; last = last; count = count; holds = true }

module _ (records : Records) (samples : List ℤ) (runs : List Run) (separators : List ℕ) where
  -- the first `count` runs held, up to the sample `at`, where the others join if all runs do
  pub record ShownTo (count at : ℕ) (last : Option LastRun) : Type 0 where
    pub within : at ≤ length samples
    pub so_far : HoldsSoFar records (take at samples) (take count runs) separators (judged_to samples count at last)
    pub rest : (end : ℕ) → Joins 0 runs end → Joins at (drop count runs) end

  pub shown_none : ShownTo 0 0 None
  shown_none = record {
    within = omega arith;
    so_far = record { count_is = refl; separating = none_separating records [] separators; at = (refl, refl, refl) };
    rest = λ end joined. joined;
  }

  module _ (count at : ℕ) (last : Option LastRun) (to : ShownTo count at last) (d : Run) (one : count < length runs)
      (run : Run) (run_is : get_or runs count d ≡ run) where
    module _ (start : run.start ≡ at) (order : at < run.end) (inside : run.end ≤ length samples) where
      abbrev new : List ℤ
      new = drop at (take run.end samples)

      whole : take run.end samples ≡ take at samples ++ new
      whole = sym (ap (λ (xs : List ℤ). xs ++ new) (sym (take-take at run.end samples (omega arith)))
          ∙ take-append-drop at (take run.end samples))

      long : at ≡ length (take at samples)
      long = sym (length-take-le at samples to.within)

      more : take (count + 1) runs ≡ take count runs ++ next_run (take at samples) new run.kind ∷ []
      more =
          let end : length (take at samples ++ new) ≡ run.end =
          sym (ap length whole) ∙ length-take-le run.end samples inside in
          rw (end, ← long, ← start) (take_more runs count d one ∙ ap (λ (r : Run). take count runs ++ r ∷ []) run_is)

      abbrev judged_then : ℕ → Judged
      judged_then end =
          judged_to samples (count + 1) end (Some (becomes_last last at (slice_index separators count) run.kind))

      -- the next run holds
      pub shown_more : FollowsLast records (take run.end samples) last at (slice_index separators count)
          → ShownTo (count + 1) run.end (Some (becomes_last last at (slice_index separators count) run.kind))
      shown_more follows = record {
        within = inside;
        so_far = subst (λ (xs : List ℤ). HoldsSoFar records xs (take (count + 1) runs) separators (judged_then run.end))
            (sym whole) (subst (λ (rs : List Run). HoldsSoFar records (take at samples ++ new) rs separators
            (judged_then run.end)) (sym more) (holds_more records (take at samples) new (take count runs) separators
            run.kind (judged_to samples count at last) to.so_far (take run.end samples) at whole long follows));
        rest = λ end all.
            let joined = rw (drop_more runs count d one, run_is) at (to.rest end all) in
            joined.1;
      }

      -- or the runs are no packing with these separators
      pub shown_no_more : length runs ≡ length separators
          → (FollowsLast records (take run.end samples) last at (slice_index separators count) → ⊥)
          → IsPacking records samples runs → IsSeparating records samples separators → ⊥
      shown_no_more same none packing separating =
          let fails = none_more records (take at samples) new (take count runs) separators run.kind
          (judged_to samples count at last) to.so_far (take run.end samples) at whole long (λ _. none) in
          let all = take-append-drop run.end samples in
          let each = take-append-drop (count + 1) runs in
          fails.none (drop run.end samples) (drop (count + 1) runs)
          (rw (← more, ← whole, all, each) packing) (rw (← whole, all) separating) (rw (← more, each) same)

  -- if all runs end where the segment does, they are shown exactly when the last one is sound
  pub shown_says : (count at : ℕ) (last : Option LastRun) → ShownTo count at last → length runs ≤ count
      → length runs ≡ length separators → at ≡ length samples → (answer : Bool)
      → IsTrue answer ↔ IsSoundLast records samples last (length samples)
      → IsTrue answer ↔ (IsPacking records samples runs × IsSeparating records samples separators)
  shown_says count at last to all same end answer says =
      let so_far : HoldsSoFar records samples runs separators
      (record { held = samples; last = last; count = count; holds = true }) =
      rw (take_all at samples (omega arith), take_all count runs all) at to.so_far in
      let number = number_is records samples [] runs separators samples last so_far.at in
      let shown = judges_end records samples runs separators (length samples) _ answer (
        λ t. record { holds = refl; as_many = so_far.count_is ∙ same; number_is = number; sound = says.0 t },
        λ ends. says.1 ends.sound,
      ) (record { holds = λ _. so_far; fails = λ f. absurd cc }) in (
        λ t. ((shown.0 t).packing, (shown.0 t).separating),
        λ both. shown.1 (record { packing = both.0; separating = both.1; as_many = same; number_is = refl }),
      )
