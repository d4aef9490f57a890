-- What is known of the samples that a packer holds after each piece and each sample.
use Rattle.std.proofs.Common.{◌≡◌, ℕ, zero, suc, ◌+◌, ◌-◌, ◌^◌, ◌<◌, ◌≤◌, ◌⊎◌, ℤ, Bool, true, false, eqb, cond, List, [], ◌∷◌, ◌++◌, length, take, drop, Option, Some, None, IfSome, IsNone, refl, sym, ap, ◌∙◌, subst, arith, inl, inr, length-append, length-drop, append-nil}
use Rattle.std.specs.Prelude.{slice_get, slice_range}
use Rattle.std.proofs.lemmas.Bool.Decides.{nat_tests}
use Rattle.std.proofs.lemmas.List.{drop-drop, drop-append-le}
use Rattle.msr_base.specs.declared.kinds.Kind.{Kind}
use Rattle.msr_words.specs.declared.kinds.Run.{Run}
use Rattle.msr_words.specs.Segment.{run_points}
use Rattle.msr_words.specs.Fit.{Records, records_of, FitsIn, FitsAny, IsRun, IsFirstKind}
use Rattle.msr_words.specs.Laws.{most_any}
use Rattle.msr_words.proofs.AnyKind.{back_step_any, short_any, size_any}
use Rattle.msr_words.specs.Packing.{IsCanonical, IsStep, Joins}
use Rattle.msr_words.proofs.Runs.{length-run_points, run_points_stay}
use Rattle.msr_packer.specs.SoFar.{IsSoFar}
use Rattle.msr_packer.specs.HeldSamples.{BeginsAll, GivesPiece, HoldsRest, HoldsWindow, InsideIfAny, IsNextStep, IsRunToCut, IsSound, LeavesFew, ShowsRun, StandsAt, Stays, before_place, first_ungiven, frontier_of, piece_of, pieces_of, runs_of, samples_of_piece, separators_of}
use Rattle.msr_packer.specs.declared.held.RunToCut.{RunToCut}
use Rattle.msr_packer.specs.declared.held.HeldSamples.{HeldSamples}
use Rattle.msr_packer.specs.declared.held.Piece.{Piece}
use Rattle.msr_packer.proofs.PackingsExist.{HasRest, has_packing, rest_of}
use Rattle.msr_packer.proofs.Least.{forth, goes_on, last_one, one_more}
use Rattle.msr_words.proofs.LastSamples.{run_of_window, run_points_window}
use Rattle.msr_packer.proofs.Windows.{front_of_all, near_by_one, so_far_stays, step_of_window}

-- no run has more samples than a record of some kind
pub run_size : (records : Records) (samples : List ℤ) (a b : ℕ) (kind : Kind) → IsRun (FitsIn kind records) samples a b
    → b ≤ a + most_any records
run_size records samples a b kind run =
    let size = size_any records (run_points samples a b) (kind, run.2) in
    let long = length-run_points samples a b run.0 run.1 in
    omega arith

-- ---- samples that follow, and samples that are not needed any more

pub current_in_order : (records : Records) → 256 ≤ records.bytes
    → (samples : List ℤ) (runs : List Run) (separators : List ℕ) (offset : ℕ) (c : RunToCut)
    → IsRunToCut records samples runs separators offset c → (c.start ≤ c.frontier) × (c.frontier < c.end)
current_in_order records enough samples runs separators offset c is =
    let s = is.so_far in
    let before = s.step.before in
    let on = goes_on records samples enough (offset + c.frontier) (offset + c.end) (offset + c.start) s.within s.step in
    (omega arith, omega arith)

pub window_more : (records : Records) → 256 ≤ records.bytes → (samples more : List ℤ) (runs : List Run)
    (separators : List ℕ)
    (held : List ℤ) (offset : ℕ) (current : Option RunToCut)
    → HoldsWindow records samples runs separators held offset current → Stays current (length held)
    → HoldsWindow records (samples ++ more) runs separators (held ++ more) offset current
window_more records enough samples more runs separators held offset current w stays = record {
  window = ap (λ xs. xs ++ more) w.window ∙ sym (drop-append-le offset samples more w.within);
  within = omega (arith, w.within, length-append samples more);
  at = at_more current w.at stays;
}
  where
    at_more : (current : Option RunToCut) → StandsAt records samples runs separators offset current
        → Stays current (length held) → StandsAt records (samples ++ more) runs separators offset current
    at_more None at stays = at
    at_more (Some c) at stays =
        let order = current_in_order records enough samples runs separators offset c at in
        let long : length held ≡ length samples - offset = ap length w.window ∙ length-drop offset samples in
        let last : offset + c.end < length samples = omega arith in
        record {
          so_far = so_far_stays records enough samples more runs separators (offset + c.frontier) (offset + c.end)
              (offset + c.start) c.whole last at.so_far;
          one_before = at.one_before;
          whole = rw (run_points_stay samples more (offset + c.start) (offset + c.end) (omega arith)
              (omega arith)) at.whole;
          short = rw (run_points_stay samples more (offset + c.start) (offset + c.end - 1) (omega arith)
              (omega arith)) at.short;
        }

-- the samples before the one before the run are not needed
pub window_less : (records : Records) (samples : List ℤ) (runs : List Run) (separators : List ℕ) (held : List ℤ)
    (offset k : ℕ) (c d : RunToCut) → HoldsWindow records samples runs separators held offset (Some c) → k < c.start
    → d.frontier + k ≡ c.frontier → d.start + k ≡ c.start → d.end + k ≡ c.end → d.whole ≡ c.whole → d.short ≡ c.short
    → HoldsWindow records samples runs separators (drop k held) (offset + k) (Some d)
window_less records samples runs separators held offset k c d w small frontier start end whole short =
    let at = w.at in
    let s = at.so_far in
    let f : offset + k + d.frontier ≡ offset + c.frontier = omega arith in
    let g : offset + k + d.end ≡ offset + c.end = omega arith in
    let a : offset + k + d.start ≡ offset + c.start = omega arith in
    let inside = s.reached.0 in
    let last = s.reached.1 in
    record {
      window = ap (drop k) w.window ∙ drop-drop k offset samples ∙ ap (λ n. drop n samples) (omega arith);
      within = omega arith;
      at = record {
        so_far = rw (f, g, a, whole) s;
        one_before = inr (omega arith);
        whole = rw (g, a, whole) at.whole;
        short = rw (g, a, short) at.short;
      };
    }

-- ---- the step from the frontier, and the piece before it

pub record Gives (records : Records) (samples : List ℤ) (runs : List Run) (separators : List ℕ) (offset : ℕ)
    (current : Option RunToCut) (h a : ℕ) (kind : Kind) : Type 0 where
  pub so_far : IsSoFar records samples (runs ++ runs_of (pieces_of (piece_of offset current a)))
      (separators ++ separators_of (pieces_of (piece_of offset current a))) (offset + frontier_of current)
      (offset + h) (offset + a) kind
  pub one_before : (offset ≡ 0) ⊎ (1 ≤ a)

-- the kind of the run that is cut where the next one starts
cut_kind : (records : Records) (samples : List ℤ) (offset : ℕ) (c : RunToCut) (a : ℕ) (b : Bool) → eqb a c.end ≡ b
    → a ≤ c.end → c.end ≤ a + 1
    → IsFirstKind records (run_points samples (offset + c.start) (offset + c.end)) c.whole
    → IsFirstKind records (run_points samples (offset + c.start) (offset + c.end - 1)) c.short
    → IsFirstKind records (run_points samples (offset + c.start) (offset + a)) (cond b c.whole c.short)
cut_kind records samples offset c a true e low high whole short = let same : a ≡ c.end = grind (arith, nat_tests) in
    rw same whole
cut_kind records samples offset c a false e low high whole short =
    let other : eqb a c.end ≡ false = e in
    let same : a + 1 ≡ c.end = grind (arith, nat_tests) in
    let end : offset + c.end - 1 ≡ offset + a = omega arith in
    subst (λ n. IsFirstKind records (run_points samples (offset + c.start) n) c.short) end short

pub gives : (records : Records) → 256 ≤ records.bytes → (samples : List ℤ) (runs : List Run) (separators : List ℕ)
    (held : List ℤ)
    (offset : ℕ) (current : Option RunToCut) (h a : ℕ) (kind : Kind)
    → HoldsWindow records samples runs separators held offset current → frontier_of current < length held
    → IsStep (FitsAny records) held (frontier_of current) h a → IsRun (FitsIn kind records) held a h
    → Gives records samples runs separators offset current h a kind
gives records enough samples runs separators held offset None h a kind w more is reached =
    let none = w.at in
    let zero_offset : offset ≡ 0 = none.2 in
    let same : held ≡ samples = w.window ∙ ap (λ n. drop n samples) zero_offset in
    let p : offset + 0 ≡ 0 = omega arith in
    let q : offset + h ≡ h = omega arith in
    let r : offset + a ≡ a = omega arith in
    let low = is.before in
    let at : a ≡ 0 = omega arith in
    let long : length held ≡ length samples = ap length same in
    let so_far : IsSoFar records samples [] [] 0 h a kind = record {
      chosen = refl;
      joined = sym at;
      within = omega arith;
      step = subst (λ xs. IsStep (FitsAny records) xs 0 h a) same is;
      reached = subst (λ xs. IsRun (FitsIn kind records) xs a h) same reached;
    } in
    record {
      so_far = rw (none.0, none.1, p, q, r) so_far;
      one_before = inl zero_offset;
    }
gives records enough samples runs separators held offset (Some c) h a kind w more is reached =
    let from = w.at in
    let s = from.so_far in
    let within = w.within in
    let on = forth records samples (short_any records enough) (offset + c.frontier) (offset + c.end)
    (offset + c.start) s.within s.step in
    let low = s.step.before in
    let long : length held ≡ length samples - offset = ap length w.window ∙ length-drop offset samples in
    let decided : offset + c.end < length samples = omega arith in
    let far = elim from.one_before as (λ _. (offset ≡ 0) ⊎ (2 ≤ c.end)) [
      | inl e ↦ inl e
      | inr b ↦ inr (omega arith)
    ] in
    let next_is = step_of_window records enough samples offset c.end h a within decided far
    (subst (λ xs. IsStep (FitsAny records) xs c.end h a) w.window is) in
    let past = forth records samples (short_any records enough) (offset + c.end) (offset + h)
    (offset + a) decided next_is in
    let near = near_by_one (FitsAny records) (back_step_any records) samples (offset + c.end) (offset + h) (offset + a)
    (omega arith) next_is in
    let before = next_is.before in
    let reached_is = run_of_window (FitsIn kind records) samples offset within a h (inr (omega arith))
    (subst (λ xs. IsRun (FitsIn kind records) xs a h) w.window reached) in
    let run : Run = record { start = offset + c.start; end = offset + a; kind = cond (eqb a c.end) c.whole c.short } in
    let first = cut_kind records samples offset c a (eqb a c.end) refl (omega arith)
    (omega arith) from.whole from.short in
    record {
      so_far = one_more records samples runs separators (offset + c.frontier) (offset + c.end)
          (offset + c.start) c.whole s run refl (offset + h) (offset + a) kind decided next_is reached_is refl first;
      one_before = inr (omega arith);
    }

-- the window with the next step
pub window_next : (records : Records) → 256 ≤ records.bytes → (samples : List ℤ) (runs : List Run) (separators : List ℕ)
    (held : List ℤ) (offset : ℕ) (current : Option RunToCut) (next : RunToCut)
    → HoldsWindow records samples runs separators held offset current → IsNextStep records held current next
    → HoldsWindow records samples (runs ++ runs_of (pieces_of (piece_of offset current next.start)))
    (separators ++ separators_of (pieces_of (piece_of offset current next.start))) held offset (Some next)
window_next records enough samples runs separators held offset current d w next =
    let is = rw next.frontier at next.step in
    let inside = rw next.frontier at next.inside in
    let g = gives records enough samples runs separators held offset current d.end d.start d.whole w inside is
    (is.reached.0, is.reached.1, next.whole.0) in
    let long : length held ≡ length samples - offset = ap length w.window ∙ length-drop offset samples in
    let on = goes_on records held enough (frontier_of current) d.end d.start inside is in
    let within = w.within in
    let end : offset + (d.end - 1) ≡ offset + d.end - 1 = omega arith in
    let points : run_points held d.start d.end ≡ run_points samples (offset + d.start) (offset + d.end) =
    ap (λ xs. run_points xs d.start d.end) w.window ∙ run_points_window samples offset d.start d.end g.one_before in
    let fewer : run_points held d.start (d.end - 1) ≡ run_points samples (offset + d.start) (offset + d.end - 1) =
    ap (λ xs. run_points xs d.start (d.end - 1)) w.window
    ∙ run_points_window samples offset d.start (d.end - 1) g.one_before
    ∙ ap (run_points samples (offset + d.start)) end in
    record {
      window = w.window;
      within = w.within;
      at = record {
        so_far = rw next.frontier g.so_far;
        one_before = g.one_before;
        whole = subst (λ p. IsFirstKind records p d.whole) points next.whole;
        short = subst (λ p. IsFirstKind records p d.short) fewer next.short;
      };
    }

-- ---- what was not given

-- whatever samples follow, the runs so far begin their packing
pub begins_all : (records : Records) → 256 ≤ records.bytes → (samples : List ℤ) (runs : List Run) (separators : List ℕ)
    (held : List ℤ) (offset : ℕ) (current : Option RunToCut)
    → HoldsWindow records samples runs separators held offset current → Stays current (length held)
    → BeginsAll records samples runs separators
begins_all records enough samples runs separators held offset None w stays more =
    let none = w.at in
    let p = has_packing records (samples ++ more) enough in
    (p.others, p.places, rw (none.0, none.1) p.canonical)
begins_all records enough samples runs separators held offset (Some c) w stays more =
    let at = w.at in
    let long : length held ≡ length samples - offset = ap length w.window ∙ length-drop offset samples in
    let r = front_of_all records enough samples runs separators (offset + c.frontier) (offset + c.end)
    (offset + c.start) c.whole (omega arith) at.so_far more in
    (r.others, r.places, r.canonical)

-- where the samples begin that were not given
pub record Leaves (samples : List ℤ) (runs : List Run) (held : List ℤ) (offset : ℕ)
    (current : Option RunToCut) : Type 0 where
  pub joined : Joins 0 runs (offset + first_ungiven current)
  pub from_there : drop (first_ungiven current) held ≡ drop (offset + first_ungiven current) samples

pub leaves : (records : Records) (samples : List ℤ) (runs : List Run) (separators : List ℕ) (held : List ℤ) (offset : ℕ)
    (current : Option RunToCut) → HoldsWindow records samples runs separators held offset current
    → Leaves samples runs held offset current
leaves records samples runs separators held offset None w =
    let none = w.at in
    let zero_offset : offset ≡ 0 = none.2 in
    let e : offset + 0 ≡ 0 = omega arith in
    record {
      joined = rw none.0 (sym e);
      from_there = w.window ∙ ap (λ n. drop n samples) (omega arith);
    }
leaves records samples runs separators held offset (Some c) w = record {
  joined = w.at.so_far.joined;
  from_there = ap (drop c.start) w.window ∙ drop-drop c.start offset samples;
}

-- and that of all samples, if none follows
pub begins_rest : (records : Records) → 256 ≤ records.bytes → (samples : List ℤ) (runs : List Run) (separators : List ℕ)
    (held : List ℤ) (offset : ℕ) (current : Option RunToCut)
    → HoldsWindow records samples runs separators held offset current → HasRest records samples runs separators
begins_rest records enough samples runs separators held offset None w =
    let none = w.at in
    let p = has_packing records samples enough in
    record { others = p.others; places = p.places; canonical = rw (none.0, none.1) p.canonical }
begins_rest records enough samples runs separators held offset (Some c) w =
    rest_of records samples enough (length samples) runs separators (offset + c.frontier) (offset + c.end)
    (offset + c.start) c.whole w.at.so_far (omega arith)

-- if a longest run at most is held after the frontier
pub leaves_few : (records : Records) (samples : List ℤ) (runs : List Run) (separators : List ℕ) (held : List ℤ)
    (offset : ℕ) (current : Option RunToCut) → HoldsWindow records samples runs separators held offset current
    → length held ≤ frontier_of current + most_any records → LeavesFew records samples runs
leaves_few records samples runs separators held offset None w few =
    let none = w.at in
    let zero_offset : offset ≡ 0 = none.2 in
    let long : length held ≡ length samples = ap length (w.window ∙ ap (λ n. drop n samples) zero_offset) in
    record { given = 0; joined = rw none.0 refl; few = omega arith }
leaves_few records samples runs separators held offset (Some c) w few =
    let s = w.at.so_far in
    let long : length held ≡ length samples - offset = ap length w.window ∙ length-drop offset samples in
    let one = run_size records samples (offset + c.start) (offset + c.end) c.whole s.reached in
    record { given = offset + c.start; joined = s.joined; few = omega arith }

-- nothing was held
pub ends_empty : (records : Records) (samples : List ℤ) (runs : List Run) (separators : List ℕ) (held : List ℤ)
    (offset : ℕ) (current : Option RunToCut) → HoldsWindow records samples runs separators held offset current
    → length held ≡ 0 → IsCanonical records samples (runs ++ []) (separators ++ [])
ends_empty records samples runs separators held offset None w empty =
    let none = w.at in
    let same : held ≡ samples = w.window ∙ ap (λ n. drop n samples) none.2 in
    let long : length held ≡ length samples = ap length same in
    let e : 0 ≡ length samples = omega arith in
    rw (none.0, none.1) (e, e)
ends_empty records samples runs separators held offset (Some c) w empty =
    let long : length held ≡ length samples - offset = ap length w.window ∙ length-drop offset samples in
    let last = w.at.so_far.within in
    absurd (omega arith)

-- the piece of the last step is the last of the packing, if no sample stands after it
pub ends_with : (records : Records) (samples : List ℤ) (runs : List Run) (separators : List ℕ) (held : List ℤ)
    (offset : ℕ)
    (current : Option RunToCut) → HoldsWindow records samples runs separators held offset current
    → length held ≤ frontier_of current
    → IsCanonical records samples (runs ++ runs_of (pieces_of (piece_of offset current (length held))))
    (separators ++ separators_of (pieces_of (piece_of offset current (length held))))
ends_with records samples runs separators held offset None w done =
    ends_empty records samples runs separators held offset None w (omega arith)
ends_with records samples runs separators held offset (Some c) w done =
    let at = w.at in
    let s = at.so_far in
    let within = w.within in
    let long : length held ≡ length samples - offset = ap length w.window ∙ length-drop offset samples in
    let end : offset + length held ≡ length samples = omega arith in
    let most = s.reached.1 in
    let run : Run = record {
      start = offset + c.start;
      end = offset + length held;
      kind = cond (eqb (length held) c.end) c.whole c.short;
    } in
    let first = cut_kind records samples offset c (length held) (eqb (length held) c.end) refl (omega arith)
    (omega arith) at.whole at.short in
    last_one records samples runs separators (offset + c.frontier) (offset + c.end)
    (offset + c.start) c.whole s run refl (omega arith) end
    (subst (λ n. IsFirstKind records (run_points samples (offset + c.start) n) run.kind) end first)

-- ---- what is shown

slice_in_window : (samples : List ℤ) (o a b : ℕ)
    → slice_range samples (o + a) (o + b) ≡ slice_range (drop o samples) a b
slice_in_window samples o a b =
    let width : (o + b) - (o + a) ≡ b - a = omega arith in
    ap (λ n. take n (drop (o + a) samples)) width ∙ ap (take (b - a)) (sym (drop-drop a o samples))

slice_get-drop : (xs : List ℤ) (o i : ℕ) → slice_get (drop o xs) i ≡ slice_get xs (o + i)
slice_get-drop xs zero i = let same : i ≡ zero + i = omega arith in ap (slice_get xs) same
slice_get-drop [] (suc o) i = refl
slice_get-drop (x ∷ xs) (suc o) i = let same : suc (o + i) ≡ suc o + i = omega arith in slice_get-drop xs o i
    ∙ ap (slice_get (x ∷ xs)) same

before_in_window : (samples : List ℤ) (o a : ℕ) → (o ≡ 0) ⊎ (1 ≤ a)
    → before_place (drop o samples) a ≡ before_place samples (o + a)
before_in_window samples o a (inl e) =
    let same : o + a ≡ a = omega arith in
    rw same (subst (λ k. before_place (drop k samples) a ≡ before_place samples a) (sym e) refl)
before_in_window samples o zero (inr h) = absurd (omega arith)
before_in_window samples o (suc a) (inr h) =
    let same : suc (o + a) ≡ o + suc a = omega arith in
    slice_get-drop samples o a ∙ ap (before_place samples) same

-- the samples of the next piece, with the one before them
pub shows_next : (records : Records) (samples : List ℤ) (runs : List Run) (separators : List ℕ) (held : List ℤ)
    (offset : ℕ) (current : Option RunToCut) (a : ℕ) → HoldsWindow records samples runs separators held offset current
    → IfSome (piece_of offset current a) (ShowsRun samples (slice_range held (first_ungiven current) a)
    (before_place held (first_ungiven current)))
shows_next records samples runs separators held offset None a w = tt
shows_next records samples runs separators held offset (Some c) a w = record {
  run = ap (λ xs. slice_range xs c.start a) w.window ∙ sym (slice_in_window samples offset c.start a);
  before_run = ap (λ xs. before_place xs c.start) w.window ∙ before_in_window samples offset c.start w.at.one_before;
}

-- the samples of a piece, or none
pub shown_if_any : (samples shown : List ℤ) (before : Option ℤ) (piece : Option Piece)
    → IfSome piece (ShowsRun samples shown before) → (IsNone piece → shown ≡ []) → shown ≡ samples_of_piece samples piece
shown_if_any samples shown before None shows none = none refl
shown_if_any samples shown before (Some piece) shows none = shows.run

-- if no piece was given, the same runs and separators were
pub holds_still : (old mid : HeldSamples) (samples : List ℤ) (runs : List Run) (separators : List ℕ)
    → GivesPiece old mid None → HoldsRest samples runs separators old → HoldsRest samples runs separators mid
holds_still old mid samples runs separators first h =
    subst (λ xs. HoldsRest samples xs separators mid) (append-nil runs)
    (subst (λ xs. HoldsRest samples (runs ++ []) xs mid) (append-nil separators)
    (first.holds samples runs separators h))

pub gives_again : (old mid new : HeldSamples) (piece : Option Piece) → GivesPiece old mid None
    → GivesPiece mid new piece
    → GivesPiece old new piece
gives_again old mid new piece first second = record {
  sound = second.sound;
  form = second.form ∙ first.form;
  held = second.held ∙ first.held;
  offset = second.offset ∙ first.offset;
  holds = λ samples runs separators h. second.holds samples runs separators
      (holds_still old mid samples runs separators first h);
  shows = λ samples runs separators h. second.shows samples runs separators
      (holds_still old mid samples runs separators first h);
}

-- ---- places

pub if_some : (piece : Option Piece) (g h : ℕ) → g < h → IfSome piece (λ _. g < h)
if_some None g h less = tt
if_some (Some piece) g h less = less

-- where the next step lies
pub record Stepped (records : Records) (g h a : ℕ) : Type 0 where
  pub on : g < h
  pub near : g ≤ a + 1
  pub few : h ≤ a + most_any records

stepped : (records : Records) → 256 ≤ records.bytes → (held : List ℤ) (g h a : ℕ) (kind : Kind) → g < length held
    → IsStep (FitsAny records) held g h a → IsRun (FitsIn kind records) held a h → Stepped records g h a
stepped records enough held g h a kind inside step reached =
    let on = goes_on records held enough g h a inside step in
    record {
      on = on;
      near = near_by_one (FitsAny records) (back_step_any records) held g h a (omega arith) step;
      few = run_size records held a h kind reached;
    }

pub next_stepped : (records : Records) → 256 ≤ records.bytes → (held : List ℤ) (current : Option RunToCut)
    (next : RunToCut)
    → IsNextStep records held current next → Stepped records (frontier_of current) next.end next.start
next_stepped records enough held current next is =
    rw is.frontier at (stepped records enough held next.frontier next.end next.start next.whole is.inside is.step
    (is.step.reached.0, is.step.reached.1, is.whole.0))

pub start_before : (records : Records) (number : ℕ) (current : Option RunToCut) (a : ℕ)
    → InsideIfAny records number current
    → frontier_of current ≤ a + 1 → first_ungiven current ≤ a
start_before records number None a inside near = omega arith
start_before records number (Some c) a inside near = let before = inside.before in let on = inside.on in omega arith

pub stays_at : (current : Option RunToCut) (number h : ℕ) → frontier_of current ≡ h → h < number → Stays current number
stays_at None number h is less = tt
stays_at (Some c) number h is less = omega arith

pub stays_more : (held more : List ℤ) (current : Option RunToCut) → Stays current (length held)
    → Stays current (length (held ++ more))
stays_more held more None stays = tt
stays_more held more (Some c) stays = omega (arith, length-append held more)

pub sound_more : (old new : HeldSamples) (more : List ℤ) → IsSound old → new.form ≡ old.form
    → new.current ≡ old.current → new.from ≡ old.from → new.to ≡ old.to
    → new.samples.items ≡ old.samples.items ++ more → new.offset + length new.samples.items < 2 ^ 64 → IsSound new
sound_more old new more s same current from to items number =
    let order = s.order in
    let within = s.within in
    let long = ap length items ∙ length-append old.samples.items more in
    record {
      number = number;
      inside = rw (same, current) (inside_more old.current s.inside);
      order = omega arith;
      within = omega arith;
    }
  where
    inside_more : (current : Option RunToCut) → InsideIfAny (records_of old.form)
        (length old.samples.items) current → InsideIfAny (records_of old.form) (length new.samples.items) current
    inside_more None inside = tt
    inside_more (Some c) inside =
        let long = ap length items ∙ length-append old.samples.items more in
        record { before = inside.before; on = inside.on; within = omega (arith, inside.within); short = inside.short }
