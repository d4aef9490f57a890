use Rattle.std.proofs.Common.{arith, refl, ◌+◌, ◌-◌, [], ◌∷◌, inl, inr}
use Rattle.msr_base.specs.declared.kinds.Kind.TheVariants.{Int16, Steim1, Steim2}
use Rattle.msr_words.specs.Fit.{FitsIn, IsRun, records_of}
use Rattle.msr_words.specs.Lemmas.KindLaws.{size_kind}
use Rattle.msr_words.specs.Segment.{run_points}
use Rattle.msr_words.proofs.Runs.{length-run_points}
use Rattle.msr_words.proofs.Stretches.{none_with_halves}
use Rattle.msr_packer.specs.declared.step.StepRun.{StepRun}
use Rattle.msr_packer.specs.Steps.{longer_kinds}
use Rattle.msr_packer.proofs.StepsByKinds.{not_shorter, one_covered, outrun, reordered}
use Rattle.msr_packer.proofs.EndsByKind.{empty_run, longer_ends}
use Rattle.msr_packer.proofs.step.steim1_without_steim2.Goals as goal

-- no run is longer than the longest of Steim-1
pub count_halves-requires-clause-few : goal.count_halves-requires-clause-few
count_halves-requires-clause-few c =
    let bytes = c.args.form.length.bytes in
    let most = c.args.form.length.most in
    let run = c.requires.by_steim1.end.fits in
    let size = size_kind Steim1 bytes (run_points c.args.samples.now c.args.frontier c.args.by_steim1.end) run.2 in
    let long = length-run_points c.args.samples.now c.args.frontier c.args.by_steim1.end run.0 run.1 in
    omega arith

pub with_wide_integers-requires-clause-step : goal.with_wide_integers-requires-clause-step
with_wide_integers-requires-clause-step c =
    let form = records_of c.args.form in
    let bytes = c.args.form.length.bytes in
    let samples = c.args.samples.now in
    let g = c.args.frontier in
    let e1 = c.args.by_steim1.end in
    let by_int16 : StepRun = record { start = c.args.frontier; end = c.integers_end-int16.result; kind = Int16 } in
    let one = c.requires.by_steim1.step in
    let run = c.requires.by_steim1.end.fits in
    let run_in : IsRun (FitsIn Steim1 form) samples g e1 = (run.0, run.1, (c.requires.chosen, run.2)) in
    let same = c.data_words-most.ensures.same in
    let counted = c.count_halves.ensures in
    let further = one.furthest Steim1 (inl refl) g e1 (omega arith) run_in in
    let longer = not_shorter c.or-best.result c.args.by_steim1.step c.or-best.ensures.first in
    let none2 = none_with_halves bytes samples (g + 1) (e1 - 1) (omega arith) (omega arith) in
    let two = one_covered form samples g Int16 (Steim1 ∷ []) c.args.by_steim1.step by_int16 c.or-best.result Steim1
    e1 refl one c.integers_end-int16.ensures.fits c.integers_end-int16.ensures.chosen (inl refl) (inl run_in)
    c.integers_end-int16.ensures.past c.or-best.ensures.one c.or-best.ensures.first c.or-best.ensures.second in
    let three = outrun form samples g Steim2 (Int16 ∷ Steim1 ∷ []) c.or-best.result two
    (λ s b le run. let less = none2 s b (omega arith) (run.0, run.1, run.2.1) in omega arith) in
    reordered form samples g longer_kinds (Steim2 ∷ Int16 ∷ Steim1 ∷ []) (λ kind among. elim among [
      | inl e ↦ inr (inr (inl e))
      | inr more ↦ elim more [
        | inl e ↦ inr (inl e)
        | inr last ↦ elim last [
          | inl e ↦ inl e
          | inr none ↦ absurd none
        ]
      ]
    ]) c.or-best.result three

pub with_wide_integers-requires-clause-ends : goal.with_wide_integers-requires-clause-ends
with_wide_integers-requires-clause-ends c =
    let bytes = c.args.form.length.bytes in
    let least = c.args.form.length.least in
    let samples = c.args.samples.now in
    let g = c.args.frontier in
    let e1 = c.args.by_steim1.end in
    let one = c.requires.by_steim1.end in
    let up = one.fits.0 in
    let same = c.data_words-most.ensures.same in
    let counted = c.count_halves.ensures in
    let over = c.or-best.ensures.first in
    let further = c.requires.by_steim1.step.furthest Steim1 (inl refl) g e1 (omega arith)
    (one.fits.0, one.fits.1, (c.requires.chosen, one.fits.2)) in
    let longer = not_shorter c.or-best.result c.args.by_steim1.step over in
    let none2 = none_with_halves bytes samples (g + 1) (e1 - 1) (omega arith) (omega arith) in
    longer_ends (records_of c.args.form) samples g c.or-best.result.end g e1 c.integers_end-int16.result
    (empty_run bytes samples g Steim2 (omega arith) (omega arith)) (λ on. absurd (omega arith))
    one.fits (λ _. c.requires.chosen)
    c.integers_end-int16.ensures.fits c.integers_end-int16.ensures.chosen
    (λ c near run. let less = none2 g c (omega arith) (run.0, run.1, run.2.1) in absurd (omega arith))
    (λ c near run. inl (one.furthest c (run.0, run.1, run.2.1)))
    e1 (inr refl)
    (λ e near run. c.integers_end-int16.ensures.past g e (omega arith) run) _ refl refl refl
