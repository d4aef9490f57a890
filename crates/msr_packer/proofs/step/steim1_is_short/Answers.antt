use Rattle.std.proofs.Common.{arith, ◌+◌, ◌-◌, ◌*◌, ◌<◌, IsTrue, nat_lt, refl, inl, inr}
use Rattle.std.proofs.lemmas.Bool.Decides.{nat_tests}
use Rattle.msr_base.specs.declared.kinds.Kind.TheVariants.{Steim1}
use Rattle.msr_words.specs.Laws.{most_of}
use Rattle.msr_packer.proofs.EndsByKind.{none_longer}
use Rattle.msr_words.proofs.Stretches.{no_further}
use Rattle.msr_packer.proofs.step.steim1_is_short.Goals as goal

pub returns-then-not-contains-clause-short : goal.returns-then-not-contains-clause-short
returns-then-not-contains-clause-short c t s b le run =
    let has = run.2.0 in
    let is = c.contains.ensures in
    let not = c.if-not-contains.true in
    absurd cc

pub returns-then-reach-clause-short : goal.returns-then-reach-clause-short
returns-then-reach-clause-short c t s b le run =
    inl (no_further c.args.form.length.bytes c.args.samples.now c.args.frontier c.args.reach.end (record {
      fits = c.requires.reach.fits;
      furthest = λ b two. c.requires.reach.furthest b (two.0, two.1, (c.requires.chosen c.if-reach.true, two.2));
    }) (c.requires.narrow c.if-reach.true) s b le (run.0, run.1, run.2.1))

pub returns-clause-short : goal.returns-clause-short
returns-clause-short c t s b le run =
    let many : 4 * c.data_words-words.result + 1 < c.args.end - c.args.frontier =
    (let h : IsTrue (nat_lt (4 * c.data_words-words.result + 1) (c.args.end - c.args.frontier)) = t in
    grind (arith, nat_tests)) in
    let same = c.data_words-words.ensures.same in
    let up = c.requires.order in
    let start = c.requires.reach.fits.0 in
    inr (let e = none_longer c.args.form.length.bytes c.args.samples.now c.args.frontier Steim1
    (most_of Steim1 c.args.form.length.bytes) (c.args.end - 2) refl (omega arith) (omega arith) s b le
    (run.0, run.1, run.2.1) in
    omega arith)

pub returns-clause-chosen : goal.returns-clause-chosen
returns-clause-chosen c f = cc (c.contains.ensures, c.if-not-contains.false)
