use Rattle.std.proofs.Common.{arith, refl, inl, inr, [], ◌∷◌}
use Rattle.msr_base.specs.declared.kinds.Kind.TheVariants.{Int16, Steim1, Steim2}
use Rattle.msr_words.proofs.AnyKind.{int16_by_bits}
use Rattle.msr_packer.specs.declared.step.StepRun.{StepRun}
use Rattle.msr_packer.proofs.StepsByKinds.{not_shorter, one_covered, one_more, skipped, starts_here}
use Rattle.msr_packer.proofs.EndsByKind.{empty_run, longer_ends, longest_step, run_or_none}
use Rattle.msr_words.specs.Fit.{records_of}
use Rattle.msr_packer.proofs.step.step_from.Goals as goal

pub integers_end-int16-requires-clause-are : goal.integers_end-int16-requires-clause-are
integers_end-int16-requires-clause-are c =
    let least = c.args.form.length.least in
    int16_by_bits c.args.form.length.bytes (omega arith)

pub with_wide_integers-requires-clause-step : goal.with_wide_integers-requires-clause-step
with_wide_integers-requires-clause-step c =
    let form = records_of c.args.form in
    let samples = c.args.samples.now in
    let g = c.args.frontier in
    let e2 = c.steim2_end-reach.result.end in
    let by_steim2 : StepRun =
    record { start = c.args.frontier; end = c.steim2_end-reach.result.end; kind = c.tried_first.result } in
    let by_int16 : StepRun = record { start = c.args.frontier; end = c.integers_end-int16.result; kind = Int16 } in
    let least = c.args.form.length.least in
    let one = longest_step form samples g Steim2 c.tried_first.result e2 (omega arith) c.tried_first.ensures.chosen
    c.tried_first.ensures.first refl c.steim2_end-reach.ensures.end in
    let two = one_covered form samples g Int16 (Steim2 ∷ []) by_steim2 by_int16 c.or-best.result Steim2
    e2 refl one c.integers_end-int16.ensures.fits c.integers_end-int16.ensures.chosen (inl refl)
    (run_or_none form samples g Steim2 e2 c.steim2_end-reach.ensures.end) c.integers_end-int16.ensures.past
    c.or-best.ensures.one c.or-best.ensures.first c.or-best.ensures.second in
    let over = not_shorter c.or-best.result by_steim2 c.or-best.ensures.first in
    skipped form samples g Steim1 (Int16 ∷ Steim2 ∷ []) c.or-best.result
    (starts_here by_steim2 by_int16 c.or-best.result g refl refl c.or-best.ensures.one) two
    (λ s b le run. elim (c.steim1_is_short.ensures.short c.if-steim1_is_short.true s b le run) [
      | inl m ↦ omega arith
      | inr m ↦ omega arith
    ])

pub with_wide_integers-requires-clause-ends : goal.with_wide_integers-requires-clause-ends
with_wide_integers-requires-clause-ends c =
    let g = c.args.frontier in
    let least = c.args.form.length.least in
    let two = c.steim2_end-reach.ensures.end in
    longer_ends (records_of c.args.form) c.args.samples.now g c.or-best.result.end
    c.steim2_end-reach.result.end g c.integers_end-int16.result two.fits two.chosen
    (empty_run c.args.form.length.bytes c.args.samples.now g Steim1 (omega arith) (omega arith))
    (λ on. absurd (omega arith))
    c.integers_end-int16.ensures.fits c.integers_end-int16.ensures.chosen
    (λ e near run. two.furthest e run)
    (λ e near run. elim (c.steim1_is_short.ensures.short c.if-steim1_is_short.true g e (omega arith) run) [
      | inl m ↦ inr m
      | inr m ↦ absurd (omega arith)
    ])
    c.steim2_end-reach.result.end (inl refl)
    (λ e near run. c.integers_end-int16.ensures.past g e (omega arith) run) _ refl refl refl

pub with_wide_integers-requires-2-clause-step : goal.with_wide_integers-requires-2-clause-step
with_wide_integers-requires-2-clause-step c =
    let form = records_of c.args.form in
    let samples = c.args.samples.now in
    let g = c.args.frontier in
    let e2 = c.steim2_end-reach.result.end in
    let by_steim2 : StepRun =
    record { start = c.args.frontier; end = c.steim2_end-reach.result.end; kind = c.tried_first.result } in
    let by_int16 : StepRun = record { start = c.args.frontier; end = c.integers_end-int16.result; kind = Int16 } in
    let least = c.args.form.length.least in
    let one = longest_step form samples g Steim2 c.tried_first.result e2 (omega arith) c.tried_first.ensures.chosen
    c.tried_first.ensures.first refl c.steim2_end-reach.ensures.end in
    let two = one_covered form samples g Int16 (Steim2 ∷ []) by_steim2 by_int16 c.or-best.result Steim2
    e2 refl one c.integers_end-int16.ensures.fits c.integers_end-int16.ensures.chosen (inl refl)
    (run_or_none form samples g Steim2 e2 c.steim2_end-reach.ensures.end) c.integers_end-int16.ensures.past
    c.or-best.ensures.one c.or-best.ensures.first c.or-best.ensures.second in
    one_more form samples g Steim1 (Int16 ∷ Steim2 ∷ []) c.or-best.result c.steim1_unless_known-by_steim1.result.step
    c.or.result two c.steim1_unless_known-by_steim1.ensures.step c.or.ensures.one c.or.ensures.first
    c.or.ensures.second

pub with_wide_integers-requires-2-clause-ends : goal.with_wide_integers-requires-2-clause-ends
with_wide_integers-requires-2-clause-ends c =
    let two = c.steim2_end-reach.ensures.end in
    let chosen = c.steim1_is_short.ensures.chosen c.if-steim1_is_short.false in
    let one = c.steim1_unless_known-by_steim1.ensures in
    longer_ends (records_of c.args.form) c.args.samples.now c.args.frontier c.or.result.end
    c.steim2_end-reach.result.end c.steim1_unless_known-by_steim1.result.end c.integers_end-int16.result
    two.fits two.chosen one.end.fits (λ _. chosen)
    c.integers_end-int16.ensures.fits c.integers_end-int16.ensures.chosen
    (λ e near run. two.furthest e run)
    (λ e near run. inl (one.end.furthest e (run.0, run.1, run.2.1)))
    c.steim2_end-reach.result.end (inl refl)
    (λ e near run. c.integers_end-int16.ensures.past c.args.frontier e (omega arith) run) _ refl refl refl

pub returns-then-steim1_is_short : goal.returns-then-steim1_is_short
returns-then-steim1_is_short c =
    let of = c.with_wide_integers.ensures in (of.step, rw (of.steim2, of.groups) c.steim2_end-reach.ensures.sizes)

pub returns : goal.returns
returns c =
    let of = c.with_wide_integers-2.ensures in (of.step, rw (of.steim2, of.groups) c.steim2_end-reach.ensures.sizes)
