-- 24-bit integers reach no further than a run that is known already, or they are tried.
use Rattle.std.proofs.Common.{arith, refl, ◌≡◌, ◌∷◌, max}
use Rattle.msr_base.specs.declared.kinds.Kind.TheVariants.{Int24, Int32}
use Rattle.msr_base.proofs.KindLemmas.{int32_is_chosen}
use Rattle.msr_words.proofs.AnyKind.{int24_by_bits}
use Rattle.msr_packer.specs.declared.step.StepRun.{StepRun}
use Rattle.msr_packer.specs.Steps.{longer_kinds}
use Rattle.msr_packer.proofs.StepsByKinds.{not_shorter, of_form, one_covered, one_more}
use Rattle.msr_packer.proofs.EndsByKind.{all_ends, end_if_chosen, longest_step, reached_by}
use Rattle.msr_words.specs.Fit.{records_of}
use Rattle.msr_packer.proofs.step.with_wide_integers.Goals as goal

pub integers_end-int24-requires : goal.integers_end-int24-requires
integers_end-int24-requires c =
    let least = c.args.form.length.least in
    let r = reached_by (records_of c.args.form) c.args.samples.now c.args.frontier c.args.step.end
    c.max-reached.result c.args.ends (omega (arith, c.max.ensures, c.max-reached.ensures)) c.requires.ends in
    record {
      order = r.2;
      within = r.3;
      are = int24_by_bits c.args.form.length.bytes (omega arith);
      alone = refl;
      positive = omega arith;
      small = omega arith;
    }

pub returns : goal.returns
returns c =
    let least = c.args.form.length.least in
    let form = records_of c.args.form in
    let samples = c.args.samples.now in
    let g = c.args.frontier in
    let by_int24 : StepRun = record { start = c.args.frontier; end = c.integers_end-int24.result; kind = Int24 } in
    let by_int32 : StepRun = record { start = c.args.frontier; end = c.int32_end-int32.result; kind = Int32 } in
    let greatest : c.max-reached.result ≡ max (max c.args.ends.steim2 c.args.ends.steim1) c.args.ends.int16 =
    omega (arith, c.max.ensures, c.max-reached.ensures) in
    let r = reached_by form samples g c.args.step.end c.max-reached.result c.args.ends greatest c.requires.ends in
    let four = one_covered form samples g Int24 longer_kinds c.args.step by_int24 c.or.result r.0
    c.max-reached.result refl c.requires.step c.integers_end-int24.ensures.fits c.integers_end-int24.ensures.chosen
    r.1 r.4 c.integers_end-int24.ensures.past
    c.or.ensures.one c.or.ensures.first c.or.ensures.second in
    let five = one_more form samples g Int32 (Int24 ∷ longer_kinds) c.or.result by_int32 c.or-2.result four
    (longest_step form samples g Int32 Int32 c.int32_end-int32.result (omega arith) (int32_is_chosen form.kinds)
    (λ _. refl) refl
    (end_if_chosen form samples g Int32 c.int32_end-int32.result (int32_is_chosen form.kinds)
    c.int32_end-int32.ensures))
    c.or-2.ensures.one c.or-2.ensures.first c.or-2.ensures.second in
    let over = not_shorter c.or.result c.args.step c.or.ensures.first in
    let past = not_shorter c.or-2.result c.or.result c.or-2.ensures.first in
    record {
      step = record {
        step = of_form form samples g c.or-2.result five;
        kind = five.reached;
        ends = all_ends form samples g c.args.step.end c.or-2.result.end c.max-reached.result c.args.ends
            (record {
              steim2 = c.args.ends.steim2;
              groups = c.args.ends.groups;
              steim1 = c.args.ends.steim1;
              int16 = c.args.ends.int16;
              int24 = c.integers_end-int24.result;
              int32 =
                  c.int32_end-int32.result;
            }) greatest (omega arith) c.requires.ends refl refl refl
            c.integers_end-int24.ensures.fits c.integers_end-int24.ensures.chosen c.integers_end-int24.ensures.past
            c.int32_end-int32.ensures;
      };
      steim2 = refl;
      groups = refl;
    }
