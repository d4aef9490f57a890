use Rattle.std.proofs.Common.{arith, refl, ◌+◌, ◌-◌, [], ◌∷◌, inl, inr}
use Rattle.msr_base.specs.Kinds.{IsChosen}
use Rattle.msr_base.specs.declared.kinds.Kind.TheVariants.{Int16, Steim1, Steim2}
use Rattle.msr_words.proofs.AnyKind.{int16_by_bits}
use Rattle.msr_words.proofs.Runs.{length-run_points}
use Rattle.msr_words.proofs.Stretches.{none_with_wide}
use Rattle.msr_words.proofs.WordRoom.{wide_of_steim1, wide_of_steim2}
use Rattle.msr_packer.specs.declared.step.StepRun.{StepRun}
use Rattle.msr_packer.specs.Steps.{longer_kinds}
use Rattle.msr_packer.proofs.StepsByKinds.{reordered, skipped}
use Rattle.msr_packer.proofs.EndsByKind.{empty_run, end_if_chosen, longer_ends, longest_step}
use Rattle.msr_words.specs.Fit.{records_of}
use Rattle.msr_packer.proofs.step.integers_alone.Goals as goal

pub furthest_integers-int16-requires-clause-are : goal.furthest_integers-int16-requires-clause-are
furthest_integers-int16-requires-clause-are c =
    let least = c.args.form.length.least in
    int16_by_bits c.args.form.length.bytes (omega arith)

pub count_wide-requires-clause-few : goal.count_wide-requires-clause-few
count_wide-requires-clause-few c =
    let run = c.furthest_integers-int16.ensures.fits in
    let counted = run.2.0 in
    let long = length-run_points c.args.samples.now c.args.frontier c.furthest_integers-int16.result run.0 run.1 in
    omega arith

pub with_wide_integers-requires : goal.with_wide_integers-requires
with_wide_integers-requires c =
    let form = records_of c.args.form in
    let bytes = c.args.form.length.bytes in
    let least = c.args.form.length.least in
    let samples = c.args.samples.now in
    let g = c.args.frontier in
    let e16 = c.furthest_integers-int16.result in
    let chosen : IsChosen c.args.form.kinds Int16 = cc (c.contains.ensures, c.if-not-contains.false) in
    let is = c.furthest_integers-int16.ensures in
    let by_int16 : StepRun = record { start = c.args.frontier; end = c.furthest_integers-int16.result; kind = Int16 } in
    let up = is.fits.0 in
    let same = c.data_words-most.ensures.same in
    let wide = c.count_wide.ensures in
    let none2 = none_with_wide bytes samples Steim2 (wide_of_steim2 bytes) (g + 1)
    (c.furthest_integers-int16.result - 1) (omega arith) (omega arith) in
    let none1 = none_with_wide bytes samples Steim1 (wide_of_steim1 bytes) (g + 1)
    (c.furthest_integers-int16.result - 1) (omega arith) (omega arith) in
    let one = longest_step form samples g Int16 Int16 e16 (omega arith) chosen (λ _. refl) refl
    (end_if_chosen form samples g Int16 e16 chosen is) in
    let two = skipped form samples g Steim2 (Int16 ∷ []) by_int16 refl one
    (λ s b le run. let less = none2 s b (omega arith) (run.0, run.1, run.2.1) in omega arith) in
    let three = skipped form samples g Steim1 (Steim2 ∷ Int16 ∷ []) by_int16 refl two
    (λ s b le run. let less = none1 s b (omega arith) (run.0, run.1, run.2.1) in omega arith) in
    record {
      within = c.requires;
      step = reordered form samples g longer_kinds (Steim1 ∷ Steim2 ∷ Int16 ∷ []) (λ kind among. elim among [
        | inl e ↦ inl e
        | inr more ↦ elim more [
          | inl e ↦ inr (inr (inl e))
          | inr last ↦ elim last [
            | inl e ↦ inr (inl e)
            | inr none ↦ absurd none
          ]
        ]
      ]) by_int16 three;
      ends = longer_ends form samples g e16 g g e16 (empty_run bytes samples g Steim2 (omega arith) (omega arith))
          (λ on. absurd (omega arith)) (empty_run bytes samples g Steim1 (omega arith) (omega arith))
          (λ on. absurd (omega arith)) is.fits (λ _. chosen)
          (λ c near run. let less = none2 g c (omega arith) (run.0, run.1, run.2.1) in absurd (omega arith))
          (λ c near run. let less = none1 g c (omega arith) (run.0, run.1, run.2.1) in absurd (omega arith))
          g (inl refl)
          (λ c near run. inl (is.furthest c (run.0, run.1, run.2.1))) _ refl refl refl;
    }
