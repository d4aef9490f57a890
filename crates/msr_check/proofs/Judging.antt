-- How a run more changes what is known of those before it.
use Rattle.std.proofs.Common.{◌≡◌, ◌↔◌, ℕ, ◌+◌, ◌-◌, ◌<◌, ◌≤◌, ◌⊎◌, Bool, true, IsTrue, ℤ, List, [], ◌∷◌, ◌++◌, length, drop, Option, Some, None, arith, refl, sym, ap, ◌∙◌, subst, inl, inr, length-append, length-drop, append_assoc, append-nil}
use Rattle.std.specs.Prelude.{All, slice_index}
use Rattle.std.proofs.lemmas.Bool.{both_ways, cases_Bool, cases_lt}
use Rattle.std.proofs.lemmas.List.{drop-drop, drop-append-le}
use Rattle.std.proofs.lemmas.List.Elements.{All-head, All-nil, All-push, All-weaker}
use Rattle.msr_base.specs.declared.kinds.Kind.{Kind}
use Rattle.msr_words.specs.declared.kinds.Run.{Run}
use Rattle.msr_words.specs.Fit.{Records, FitsIn, IsRun}
use Rattle.msr_words.specs.Packing.{IsPacking, IsSeparating, Joins, NoneHolds}
use Rattle.msr_words.proofs.Certificate.{all_split, in_its_run, joins_more}
use Rattle.msr_words.proofs.LastSamples.{apart_in_window, apart_of_window, apart_stays, apart_was, run_in_window, run_of_window, run_stays, run_was}
use Rattle.msr_check.proofs.Rising.{separating_all, separating_more}
use Rattle.msr_check.specs.Judged.{AreShown, FollowsLast, HasLast, HasLastIfAny, HoldsSoFar, IsComplete, IsFollowed, IsSoundLast, Judged, Judges, NoneShows, becomes_last, last_run, next_run, samples_after, without}
use Rattle.msr_check.specs.Next.{IsNextSeparator, SeparatingTo}
use Rattle.msr_check.specs.declared.judge.LastRun.{LastRun}

-- samples that follow change nothing of the separators
separating_stays : (records : Records) (samples more : List ℤ) (separators : List ℕ) (count : ℕ)
    → SeparatingTo records samples separators count → SeparatingTo records (samples ++ more) separators count
separating_stays records samples more separators count to = record {
  rising = to.rising;
  within = λ i h. let w = to.within i h in omega (arith, length-append samples more);
  apart = λ i j h k. apart_stays records samples (slice_index separators i) (slice_index separators j)
      (to.rising i j h k) more (to.within j k) (to.apart i j h k);
}

fits_stay : (records : Records) (samples more : List ℤ) (runs : List Run)
    → All (λ run. IsRun (FitsIn run.kind records) samples run.start run.end) runs
    → All (λ run. IsRun (FitsIn run.kind records) (samples ++ more) run.start run.end) runs
fits_stay records samples more runs all =
    All-weaker (λ run. IsRun (FitsIn run.kind records) samples run.start run.end)
    (λ run. IsRun (FitsIn run.kind records) (samples ++ more) run.start run.end)
    (λ run fits. run_stays (FitsIn run.kind records) samples more run.start run.end fits) runs all

module _ (records : Records) (samples new : List ℤ) (runs : List Run) (separators : List ℕ) (held : List ℤ) where
  -- as many samples came
  pub number_is : (last : Option LastRun) → HasLastIfAny records samples runs separators held last
      → samples_after last (length held) ≡ length samples
  number_is None at = sym (ap length at.0)
  number_is (Some last) at =
      let long = ap length at.held_is ∙ length-drop at.offset samples in
      let number = at.number in
      let some = at.some in
      let within = at.within in
      omega arith

  -- the last samples with those that came now
  more_held : (last : LastRun) (at : HasLast records samples runs separators held last)
      → held ++ new ≡ drop at.offset (samples ++ new)
  more_held last at = ap (λ xs. xs ++ new) at.held_is ∙ sym (drop-append-le at.offset samples new at.within)

  -- where they stand in the segment; two of them stand before the end, or all
  place_held : (last : Option LastRun) → HasLastIfAny records samples runs separators held last
      → (o : ℕ) × (o ≤ length samples) × (held ≡ drop o samples) × ((o ≡ 0) ⊎ (2 ≤ length held))
  place_held None at = (0, omega arith, at.2 ∙ sym at.0, inl refl)
  place_held (Some last) at =
      let some = at.some in
      (at.offset, at.within, at.held_is, elim at.two_before [ inl zero_is ↦ inl zero_is | inr two ↦ inr (omega arith) ])

  sound_last : (last : Option LastRun) (next : ℕ) → IsFollowed records (held ++ new) last (length held) next
      → IsSoundLast records (held ++ new) last (length held)
  sound_last None next followed = tt
  sound_last (Some last) next followed = followed.0

  module _ (last : Option LastRun) (at : HasLastIfAny records samples runs separators held last) where
    -- all runs so far are sound, and join to where the next one starts
    sound_so_far : IsSoundLast records (held ++ new) last (length held)
        → All (λ run. run.start < run.end) runs
        × All (λ run. IsRun (FitsIn run.kind records) (samples ++ new) run.start run.end) runs
        × Joins 0 runs (length samples)
    sound_so_far followed = sound_by last at followed
      where
        sound_by : (last : Option LastRun) → HasLastIfAny records samples runs separators held last
            → IsSoundLast records (held ++ new) last (length held)
            → All (λ run. run.start < run.end) runs
            × All (λ run. IsRun (FitsIn run.kind records) (samples ++ new) run.start run.end) runs
            × Joins 0 runs (length samples)
        sound_by None at followed =
            let none : 0 ≡ length samples = sym (ap length at.0) in
            subst (λ (rs : List Run). All (λ run. run.start < run.end) rs
            × All (λ run. IsRun (FitsIn run.kind records) (samples ++ new) run.start run.end) rs
            × Joins 0 rs (length samples)) (sym at.1) (
              All-nil (λ (run : Run). run.start < run.end),
              All-nil (λ (run : Run). IsRun (FitsIn run.kind records) (samples ++ new) run.start run.end),
              none,
            )
        sound_by (Some last) at followed =
            let number = at.number in
            let some = at.some in
            let inside = at.within in
            let long = ap length at.held_is ∙ length-drop at.offset samples in
            let whole : at.offset + length held ≡ length samples = omega arith in
            let within : at.offset ≤ length (samples ++ new) = omega (arith, length-append samples new) in
            let far : (at.offset ≡ 0) ⊎ (1 ≤ last.start) =
            (elim at.two_before [ inl zero_is ↦ inl zero_is | inr two ↦ inr (omega arith) ]) in
            let there = subst (λ (xs : List ℤ). IsRun (FitsIn last.kind records) xs last.start (length held))
            (more_held last at) followed.1 in
            let moved = run_of_window (FitsIn last.kind records) (samples ++ new) at.offset within last.start (length held)
            far there in
            let here : IsRun (FitsIn last.kind records) (samples ++ new) last.number (length samples) =
            subst (λ (n : ℕ). IsRun (FitsIn last.kind records) (samples ++ new) n (length samples)) (sym number)
            (subst (λ (n : ℕ). IsRun (FitsIn last.kind records) (samples ++ new) (at.offset + last.start) n) whole moved) in
            subst (λ (rs : List Run). All (λ run. run.start < run.end) rs
            × All (λ run. IsRun (FitsIn run.kind records) (samples ++ new) run.start run.end) rs
            × Joins 0 rs (length samples)) (sym at.runs_are) (
              All-push (λ (run : Run). run.start < run.end) at.earlier (last_run samples last) at.none_empty (omega arith),
              All-push (λ (run : Run). IsRun (FitsIn run.kind records) (samples ++ new) run.start run.end) at.earlier
                  (last_run samples last) (fits_stay records samples new at.earlier at.each_fits) here,
              joins_more at.earlier 0 last.number (last_run samples last) at.joined refl,
            )

    -- the run that comes is the last then
    last_more : (kind : Kind)
        → FollowsLast records (held ++ new) last (length held) (slice_index separators (length runs))
        → HasLast records (samples ++ new) (runs ++ next_run samples new kind ∷ []) separators (held ++ new)
        (becomes_last last (length held) (slice_index separators (length runs)) kind)
    last_more kind follows =
        let place = place_held last at in
        let low = place.1 in
        let number = number_is last at in
        let long = ap length place.2 ∙ length-drop place.0 samples in
        let both = length-append held new in
        let all = length-append samples new in
        let from = follows.from in
        let past = follows.past in
        let sound = sound_so_far (sound_last last _ follows.followed) in
        let one = length-append runs (next_run samples new kind ∷ []) in
        let index : length (runs ++ next_run samples new kind ∷ []) - 1 ≡ length runs = omega arith in
        record {
          offset = place.0;
          within = omega arith;
          held_is = ap (λ (xs : List ℤ). xs ++ new) place.2 ∙ sym (drop-append-le place.0 samples new low);
          two_before = place.3;
          number = omega arith;
          some = omega arith;
          separator = ap (λ (n : ℕ). slice_index separators n) index ∙ omega arith;
          from = omega arith;
          past = omega arith;
          earlier = runs;
          runs_are = ap (λ (n : ℕ). runs ++ (record { start = n; end = length (samples ++ new); kind = kind }) ∷ [])
              (sym number);
          none_empty = sound.0;
          each_fits = sound.1;
          joined = subst (λ (n : ℕ). Joins 0 runs n) (sym number) sound.2;
        }

    -- its separator is next
    is_next : FollowsLast records (held ++ new) last (length held) (slice_index separators (length runs))
        → IsNextSeparator records (samples ++ new) separators (length runs)
    is_next follows =
        let number = number_is last at in
        let both = length-append held new in
        let all = length-append samples new in
        let from = follows.from in
        let past = follows.past in
        record { within = omega arith; apart = λ some. apart_by last at some follows }
      where
        apart_by : (last : Option LastRun) → HasLastIfAny records samples runs separators held last → 0 < length runs
            → FollowsLast records (held ++ new) last (length held) (slice_index separators (length runs))
            → (slice_index separators (length runs - 1) < slice_index separators (length runs))
            × NoneHolds records (samples ++ new) (slice_index separators (length runs - 1)) (slice_index separators (length runs))
        apart_by None at some follows = absurd (omega (arith, ap length at.1))
        apart_by (Some last) at some follows =
            let number = number_is (Some last) at in
            let inside = at.within in
            let long = ap length at.held_is ∙ length-drop at.offset samples in
            let from = follows.from in
            let s = slice_index separators (length runs) in
            let place = length held + (s - samples_after (Some last) (length held)) in
            let next : at.offset + place ≡ s = omega arith in
            let within : at.offset ≤ length (samples ++ new) = omega (arith, length-append samples new) in
            let below = follows.followed.1.0 in
            let start = at.from in
            let far : (at.offset ≡ 0) ⊎ (2 ≤ last.separator) =
            (elim at.two_before [ inl zero_is ↦ inl zero_is | inr two ↦ inr (omega arith) ]) in
            let there = subst (λ (xs : List ℤ). NoneHolds records xs last.separator place) (more_held last at)
            follows.followed.1.1 in
            let apart = apart_of_window records (samples ++ new) at.offset within last.separator place below far there in
            let separator = at.separator in
            (omega arith, rw separator (subst (λ (n : ℕ). NoneHolds records (samples ++ new) (at.offset + last.separator) n) next apart))

    -- of a packing with as many separators each follows on the run before it
    follows_then : (kind : Kind) (more : List ℤ) (others : List Run)
        → IsPacking records ((samples ++ new) ++ more) (runs ++ next_run samples new kind ∷ others)
        → IsSeparating records ((samples ++ new) ++ more) separators
        → length (runs ++ next_run samples new kind ∷ others) ≡ length separators
        → FollowsLast records (held ++ new) last (length held) (slice_index separators (length runs))
    follows_then kind more others packing separating same =
        let number = number_is last at in
        let both = length-append held new in
        let all = length-append samples new in
        let lies = in_its_run records ((samples ++ new) ++ more) separators separating runs (next_run samples new kind) others
        packing same in
        let from = lies.0 in
        let past = lies.1 in
        record { from = omega arith; past = omega arith; followed = followed_by last at from }
      where
        followed_by : (last : Option LastRun) → HasLastIfAny records samples runs separators held last
            → length samples ≤ slice_index separators (length runs)
            → IsFollowed records (held ++ new) last (length held)
            (length held + (slice_index separators (length runs) - samples_after last (length held)))
        followed_by None at from = tt
        followed_by (Some last) at from =
            let F = FitsIn last.kind records in
            let number = at.number in
            let number_now = number_is (Some last) at in
            let some = at.some in
            let inside = at.within in
            let long = ap length at.held_is ∙ length-drop at.offset samples in
            let whole : at.offset + length held ≡ length samples = omega arith in
            let within : at.offset ≤ length (samples ++ new) = omega (arith, length-append samples new) in
            let ends : length samples ≤ length (samples ++ new) = omega (arith, length-append samples new) in
            let far : (at.offset ≡ 0) ⊎ (1 ≤ last.start) =
            (elim at.two_before [ inl zero_is ↦ inl zero_is | inr two ↦ inr (omega arith) ]) in
            let each = (all_split (λ (run : Run). IsRun (FitsIn run.kind records) ((samples ++ new) ++ more) run.start run.end)
            runs (next_run samples new kind ∷ others) packing.each_fits).0 in
            let each' = subst (λ (rs : List Run). All
            (λ run. IsRun (FitsIn run.kind records) ((samples ++ new) ++ more) run.start run.end) rs) at.runs_are each in
            let there = All-head (λ (run : Run). IsRun (FitsIn run.kind records) ((samples ++ new) ++ more) run.start run.end)
            (last_run samples last) []
            (all_split (λ (run : Run). IsRun (FitsIn run.kind records) ((samples ++ new) ++ more) run.start run.end) at.earlier
            (last_run samples last ∷ []) each').1 in
            let here = run_was F (samples ++ new) more last.number (length samples) ends there in
            let here' = subst (λ (n : ℕ). IsRun F (samples ++ new) (at.offset + last.start) n) (sym whole)
            (subst (λ (n : ℕ). IsRun F (samples ++ new) n (length samples)) number here) in
            let held_run = run_in_window F (samples ++ new) at.offset within last.start (length held) far here' in
            let count = ap length at.runs_are ∙ length-append at.earlier (last_run samples last ∷ []) in
            let total = length-append runs (next_run samples new kind ∷ others) in
            let up = separating.rising (length runs - 1) (length runs) (omega arith) (omega arith) in
            let apart = separating.apart (length runs - 1) (length runs) (omega arith) (omega arith) in
            let s = slice_index separators (length runs) in
            let place = length held + (s - samples_after (Some last) (length held)) in
            let next : s ≡ at.offset + place = omega arith in
            let separator = at.separator in
            let start = at.from in
            let below : last.separator < place = omega arith in
            let far' : (at.offset ≡ 0) ⊎ (2 ≤ last.separator) =
            (elim at.two_before [ inl zero_is ↦ inl zero_is | inr two ↦ inr (omega arith) ]) in
            let apart' = subst (λ (n : ℕ). NoneHolds records ((samples ++ new) ++ more) (at.offset + last.separator) n) next
            (subst (λ (n : ℕ). NoneHolds records ((samples ++ new) ++ more) n s) separator apart) in
            let order : at.offset + last.separator < at.offset + place = omega arith in
            let held_apart = apart_in_window records (samples ++ new) at.offset within last.separator place below far'
            (apart_was records (samples ++ new) (at.offset + last.separator) (at.offset + place) order more apart') in (
              (some, subst (λ (xs : List ℤ). IsRun F xs last.start (length held)) (sym (more_held last at)) held_run),
              (below, subst (λ (xs : List ℤ). NoneHolds records xs last.separator place) (sym (more_held last at)) held_apart),
            )

-- samples may be forgotten, but for two before the last run
pub forgets : (records : Records) (samples : List ℤ) (runs : List Run) (separators : List ℕ) (held : List ℤ)
    (last : LastRun) (count : ℕ) → count ≤ last.start - 2 → HasLast records samples runs separators held last
    → HasLast records samples runs separators (drop count held) (without last count)
forgets records samples runs separators held last count few at =
    let long = ap length at.held_is ∙ length-drop at.offset samples in
    let inside = at.within in
    let number = at.number in
    let some = at.some in
    let from = at.from in
    let past = at.past in
    let rest = length-drop count held in
    record {
      offset = at.offset + count;
      within = omega arith;
      held_is = ap (λ (xs : List ℤ). drop count xs) at.held_is ∙ drop-drop count at.offset samples;
      two_before = elim (cases_lt 0 count) [
        | inl some ↦ inr (omega arith)
        | inr none ↦ elim at.two_before [ inl zero_is ↦ inl (omega arith) | inr two ↦ inr (omega arith) ]
      ];
      number = omega arith;
      some = omega arith;
      separator = at.separator ∙ omega arith;
      from = omega arith;
      past = omega arith;
      earlier = at.earlier;
      runs_are = at.runs_are;
      none_empty = at.none_empty;
      each_fits = at.each_fits;
      joined = at.joined;
    }

-- one run more, after runs that held
module _ (records : Records) (samples new : List ℤ) (runs : List Run) (separators : List ℕ) (kind : Kind) (old : Judged)
    (so_far : HoldsSoFar records samples runs separators old) (all : List ℤ) (end : ℕ) (all_is : all ≡ old.held ++ new)
    (end_is : end ≡ length old.held) where
  follows_on : FollowsLast records all old.last end (slice_index separators old.count)
      → FollowsLast records (old.held ++ new) old.last (length old.held) (slice_index separators (length runs))
  follows_on follows = rw (all_is, end_is, so_far.count_is) at follows

  pub holds_more : FollowsLast records all old.last end (slice_index separators old.count)
      → HoldsSoFar records (samples ++ new) (runs ++ next_run samples new kind ∷ []) separators (record {
        held = all;
        last = Some (becomes_last old.last end (slice_index separators old.count) kind);
        count = old.count + 1;
        holds = true;
      })
  holds_more follows =
      let follows' = follows_on follows in
      let one = length-append runs (next_run samples new kind ∷ []) in
      let counted = so_far.count_is in
      let more : length (runs ++ next_run samples new kind ∷ []) ≡ length runs + 1 = omega arith in
      record {
        count_is = omega arith;
        separating = rw more (separating_more records (samples ++ new) separators (length runs)
            (separating_stays records samples new separators (length runs) so_far.separating)
            (is_next records samples new runs separators old.held old.last so_far.at follows'));
        at = rw (all_is, end_is, so_far.count_is)
            (last_more records samples new runs separators old.held old.last so_far.at kind follows');
      }

  -- so it is when samples are forgotten, but for two before that run
  pub judges_more : (next last : LastRun) (forgotten : ℕ) (left : List ℤ) → forgotten ≡ end - 2 → left ≡ drop forgotten all
      → last ≡ without next forgotten → old.holds ≡ true
      → FollowsLast records all old.last end (slice_index separators old.count)
      × (next ≡ becomes_last old.last end (slice_index separators old.count) kind)
      → Judges records (samples ++ new) (runs ++ next_run samples new kind ∷ []) separators
      (record { held = left; last = Some last; count = old.count + 1; holds = old.holds })
  judges_more next last forgotten left two left_is last_is was follows =
      let has = holds_more follows.0 in record {
        holds = λ _. rw (left_is, last_is, follows.1) (record {
          count_is = has.count_is;
          separating = has.separating;
          at = forgets records (samples ++ new) (runs ++ next_run samples new kind ∷ []) separators all
              (becomes_last old.last end (slice_index separators old.count) kind) forgotten (omega arith) has.at;
        });
        fails = λ f. absurd (both_ways old.holds f was);
      }

  pub none_more : (old.count < length separators
      → FollowsLast records all old.last end (slice_index separators old.count) → ⊥)
      → NoneShows records (samples ++ new) (runs ++ next_run samples new kind ∷ []) separators
  none_more none = record {
    none = λ rest others packing separating same.
        let assoc = append_assoc runs (next_run samples new kind ∷ []) others in
        let counted = so_far.count_is in
        let total = length-append runs (next_run samples new kind ∷ others) in
        let same' = sym (ap length assoc) ∙ same in
        none (omega arith) (rw (all_is, end_is, so_far.count_is) (follows_then records samples new runs separators old.held
        old.last so_far.at kind rest others (rw assoc at packing) separating same'));
  }

-- no run more
module _ (records : Records) (samples : List ℤ) (runs : List Run) (separators : List ℕ) (number : ℕ) (judged : Judged)
    (judges : Judges records samples runs separators judged) where
  ends_shown : IsComplete records judged separators number → AreShown records samples runs separators number
  ends_shown ends =
      let so_far = judges.holds ends.holds in
      let counted = so_far.count_is in
      let many = ends.as_many in
      let sound = sound_so_far records samples [] runs separators judged.held judged.last so_far.at
      (subst (λ (xs : List ℤ). IsSoundLast records xs judged.last (length judged.held)) (sym (append-nil judged.held))
      ends.sound) in
      record {
        packing = record {
          none_empty = sound.0;
          each_fits = subst (λ (xs : List ℤ). All (λ run. IsRun (FitsIn run.kind records) xs run.start run.end) runs)
              (append-nil samples) sound.1;
          joined = sound.2;
        };
        separating = separating_all records samples separators (length runs) (omega arith) so_far.separating;
        as_many = sym counted ∙ many;
        number_is = sym (number_is records samples [] runs separators judged.held judged.last so_far.at) ∙ ends.number_is;
      }

  shown_ends : AreShown records samples runs separators number → IsComplete records judged separators number
  shown_ends shown = elim (cases_Bool judged.holds) [
    | inl was ↦
        let so_far = judges.holds was in
        record {
          holds = was;
          as_many = so_far.count_is ∙ shown.as_many;
          number_is = number_is records samples [] runs separators judged.held judged.last so_far.at ∙ shown.number_is;
          sound = sound_end judged.last so_far.at;
        }
    | inr was ↦ absurd ((judges.fails was).none [] [] (rw (append-nil samples, append-nil runs) shown.packing)
        (rw append-nil shown.separating) (rw append-nil shown.as_many))
  ]
    where
      sound_end : (last : Option LastRun) → HasLastIfAny records samples runs separators judged.held last
          → IsSoundLast records judged.held last (length judged.held)
      sound_end None at = tt
      sound_end (Some last) at =
          let F = FitsIn last.kind records in
          let number = at.number in
          let some = at.some in
          let inside = at.within in
          let long = ap length at.held_is ∙ length-drop at.offset samples in
          let whole : length samples ≡ at.offset + length judged.held = omega arith in
          let far : (at.offset ≡ 0) ⊎ (1 ≤ last.start) =
          (elim at.two_before [ inl zero_is ↦ inl zero_is | inr two ↦ inr (omega arith) ]) in
          let each = subst (λ (rs : List Run). All (λ run. IsRun (FitsIn run.kind records) samples run.start run.end) rs)
          at.runs_are shown.packing.each_fits in
          let there = All-head (λ (run : Run). IsRun (FitsIn run.kind records) samples run.start run.end)
          (last_run samples last) [] (all_split (λ (run : Run). IsRun (FitsIn run.kind records) samples run.start run.end)
          at.earlier (last_run samples last ∷ []) each).1 in
          let there' = subst (λ (n : ℕ). IsRun F samples (at.offset + last.start) n) whole
          (subst (λ (n : ℕ). IsRun F samples n (length samples)) number there) in (
            some,
            subst (λ (xs : List ℤ). IsRun F xs last.start (length judged.held)) (sym at.held_is)
                (run_in_window F samples at.offset inside last.start (length judged.held) far there'),
          )

pub judges_end : (records : Records) (samples : List ℤ) (runs : List Run) (separators : List ℕ) (number : ℕ)
    (judged : Judged) (answer : Bool) → IsTrue answer ↔ IsComplete records judged separators number
    → Judges records samples runs separators judged
    → IsTrue answer ↔ AreShown records samples runs separators number
judges_end records samples runs separators number judged answer says judges = (
  λ t. ends_shown records samples runs separators number judged judges (says.0 t),
  λ shown. says.1 (shown_ends records samples runs separators number judged judges shown),
)
