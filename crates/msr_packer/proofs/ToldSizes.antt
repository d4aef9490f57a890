-- The sizes and words that are told of the groups of a run.
use Rattle.std.proofs.Common.{◌≡◌, ℕ, zero, suc, ◌+◌, ◌-◌, ◌≤◌, ℤ, pos, Bool, true, false, eqb, IsTrue, IsFalse, List, ◌++◌, length, map, take, drop, Option, Some, None, IfSome, arith, refl, sym, ap, ◌∙◌, subst, inr}
use Rattle.std.specs.Prelude.{slice_range}
use Rattle.std.proofs.lemmas.Bool.Decides.{nat_tests}
use Rattle.std.proofs.lemmas.Option.{slice_get-get_or}
use Rattle.msr_words.specs.Fit.{Records}
use Rattle.msr_words.specs.Groups.{AreGroupSizesIfKnown}
use Rattle.msr_words.specs.Segment.{differences, points, run_points}
use Rattle.msr_words.proofs.Runs.{run_from, run_from_start, run_points_stay}
use Rattle.msr_packer.specs.HeldSamples.{InsideIfAny, IsSound, KnowsSizes, ShowsPiece, ShowsRun, before_place, before_shown, first_ungiven, frontier_of, shown_by, sizes_shown}
use Rattle.msr_packer.specs.Steps.{HaveSizes}
use Rattle.msr_packer.specs.declared.held.HeldSamples.{HeldSamples}
use Rattle.msr_packer.specs.declared.held.Piece.{Piece}
use Rattle.msr_packer.specs.declared.held.RunToCut.{RunToCut}
use Rattle.msr_words.proofs.LastSamples.{run_points_window}
use Rattle.msr_filling.specs.GroupWords.{AreGroupWords}

-- no groups have no words
pub none_written : (ds : List ℤ) (count : ℕ) (sizes words : List ℕ) → count ≡ 0
    → AreGroupWords ds (take count sizes) (take count words)
none_written ds count sizes words is =
    subst (λ n. AreGroupWords ds (take n sizes) (take n words)) (sym is)
    (record { number = refl; each = λ k inside. absurd (omega arith) })

pub none_sized : (samples : List ℤ) (a b count : ℕ) (sizes words : List ℕ) → count ≡ 0
    → HaveSizes samples a b count sizes words
none_sized samples a b count sizes words is = subst (λ n. HaveSizes samples a b n sizes words) (sym is)
    (record {
      room = omega arith;
      room_of_words = omega arith;
      are = record { known = λ some. absurd (some refl) };
      written = none_written (map (λ p. p.1) (run_points samples a b)) 0 sizes words refl;
    })

-- of the same samples in a longer list
pub sized_in : (samples others : List ℤ) (a b c d count : ℕ) (sizes words : List ℕ)
    → run_points others c d ≡ run_points samples a b → HaveSizes samples a b count sizes words
    → HaveSizes others c d count sizes words
sized_in samples others a b c d count sizes words same is = record {
  room = is.room;
  room_of_words = is.room_of_words;
  are = subst (λ run. AreGroupSizesIfKnown (map (λ (p : ℤ × ℤ). p.1) run) (take count sizes)) (sym same) is.are;
  written = subst (λ run. AreGroupWords (map (λ (p : ℤ × ℤ). p.1) run) (take count sizes) (take count words))
      (sym same) is.written;
}

-- if more samples follow
pub sized_more : (samples more : List ℤ) (a b count : ℕ) (sizes words : List ℕ) → a ≤ b → b ≤ length samples
    → HaveSizes samples a b count sizes words → HaveSizes (samples ++ more) a b count sizes words
sized_more samples more a b count sizes words order within =
    sized_in samples (samples ++ more) a b a b count sizes words (run_points_stay samples more a b order within)

-- if those before the one before the run are gone
pub sized_less : (samples : List ℤ) (k a b c d count : ℕ) (sizes words : List ℕ) → 1 ≤ c → c + k ≡ a → d + k ≡ b
    → HaveSizes samples a b count sizes words → HaveSizes (drop k samples) c d count sizes words
sized_less samples k a b c d count sizes words some start end =
    let from : k + c ≡ a = omega arith in
    let to : k + d ≡ b = omega arith in
    sized_in samples (drop k samples) a b c d count sizes words
    (run_points_window samples k c d (inr some) ∙ ap (λ n. run_points samples n (k + d)) from
    ∙ ap (run_points samples a) to)

-- of a run that is cut none are told
pub sized_cut : (samples : List ℤ) (a b cut count told : ℕ) (sizes words : List ℕ) (whole : Bool) → eqb cut b ≡ whole
    → (IsTrue whole → told ≡ count) → (IsFalse whole → told ≡ 0) → HaveSizes samples a b count sizes words
    → HaveSizes samples a cut told sizes words
sized_cut samples a b cut count told sizes words true e same none is =
    let at : b ≡ cut = grind (arith, nat_tests) in
    let all : told ≡ count = same refl in
    rw all (subst (λ n. HaveSizes samples a n count sizes words) at is)
sized_cut samples a b cut count told sizes words false e same none is =
    none_sized samples a cut told sizes words (none refl)

pub frontier_within : (records : Records) (current : Option RunToCut) (number : ℕ)
    → InsideIfAny records number current → frontier_of current ≤ number
frontier_within records None number inside = omega arith
frontier_within records (Some c) number inside = inside.within

pub start_within : (records : Records) (current : Option RunToCut) (number : ℕ)
    → InsideIfAny records number current → first_ungiven current ≤ frontier_of current
start_within records None number inside = omega arith
start_within records (Some c) number inside = let before = inside.before in let on = inside.on in omega arith

-- the samples of a run with their differences are those of the segment at its place
pub points_of_run : (samples : List ℤ) (a b : ℕ) → a ≤ length samples
    → points (before_place samples a) (slice_range samples a b) ≡ run_points samples a b
points_of_run samples zero b within = let e : b - 0 ≡ b = omega arith in
    rw e (run_from_start samples b ∙ ap (λ n. take n (points None samples)) e)
points_of_run samples (suc i) b within =
    let e : suc i - 1 ≡ i = omega arith in
    ap (λ before. points before (slice_range samples (suc i) b)) (slice_get-get_or samples i (pos 0) (omega arith))
    ∙ rw e at (run_from samples (suc i) b (omega arith))

-- what is shown of the piece, with the sizes
pub shows_sizes : (held : HeldSamples) (samples : List ℤ) (piece : Option Piece) → IsSound held → KnowsSizes held
    → IfSome piece (ShowsRun samples (shown_by held) (before_shown held))
    → IfSome piece (ShowsPiece samples (shown_by held) (before_shown held) (sizes_shown held))
shows_sizes held samples None sound knows shows = tt
shows_sizes held samples (Some piece) sound knows shows = record {
  run = shows.run;
  before_run = shows.before_run;
  sizes =
      let order = sound.order in
      let within = sound.within in
      subst (λ run. AreGroupSizesIfKnown (map (λ (p : ℤ × ℤ). p.1) run) (sizes_shown held))
      (sym (points_of_run held.samples.items held.from held.to (omega arith))) knows.shown.are;
}

-- and the words of these groups
pub shows_words : (held : HeldSamples) → IsSound held → KnowsSizes held
    → AreGroupWords (differences (before_shown held) (shown_by held)) (sizes_shown held)
    (take held.sizes.shown.count held.sizes.shown.words.items)
shows_words held sound knows =
    let order = sound.order in
    let within = sound.within in
    subst (λ run. AreGroupWords (map (λ (p : ℤ × ℤ). p.1) run) (sizes_shown held)
    (take held.sizes.shown.count held.sizes.shown.words.items))
    (sym (points_of_run held.samples.items held.from held.to (omega arith))) knows.shown.written
