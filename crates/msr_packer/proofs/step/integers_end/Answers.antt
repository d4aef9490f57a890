use Rattle.std.proofs.Common.{arith, inl, inr}
use Rattle.msr_base.specs.Kinds.{IsChosen}
use Rattle.msr_packer.proofs.EndsByKind.{empty_run, end_if_chosen, none_longer, none_past}
use Rattle.msr_words.specs.Fit.{records_of}
use Rattle.msr_packer.proofs.step.integers_end.Goals as goal

pub returns-then-not-contains-clause-fits : goal.returns-then-not-contains-clause-fits
returns-then-not-contains-clause-fits c =
    let least = c.args.form.length.least in
    empty_run c.args.form.length.bytes c.args.samples.now c.args.frontier c.args.kind (omega arith) (omega arith)

pub returns-then-not-contains-clause-past : goal.returns-then-not-contains-clause-past
returns-then-not-contains-clause-past c s b le run =
    let has = run.2.0 in
    let is = c.contains.ensures in
    let not = c.if-not-contains.true in
    absurd cc

pub returns-then-end-frontier-clause-fits : goal.returns-then-end-frontier-clause-fits
returns-then-end-frontier-clause-fits c =
    let least = c.args.form.length.least in
    empty_run c.args.form.length.bytes c.args.samples.now c.args.frontier c.args.kind (omega arith) (omega arith)

pub returns-then-end-frontier-clause-past : goal.returns-then-end-frontier-clause-past
returns-then-end-frontier-clause-past c s b le run =
    inr (none_longer c.args.form.length.bytes c.args.samples.now c.args.frontier c.args.kind c.most.result
    c.args.end c.most.ensures c.requires.order (omega arith) s b le (run.0, run.1, run.2.1))

pub returns-clause-fits : goal.returns-clause-fits
returns-clause-fits c = c.furthest_integers.ensures.fits

pub returns-clause-chosen : goal.returns-clause-chosen
returns-clause-chosen c on = cc (c.contains.ensures, c.if-not-contains.false)

pub returns-clause-past : goal.returns-clause-past
returns-clause-past c s b le run =
    let chosen : IsChosen c.args.form.kinds c.args.kind = cc (c.contains.ensures, c.if-not-contains.false) in
    inl (none_past (records_of c.args.form) c.args.samples.now c.args.frontier c.args.kind c.furthest_integers.result
    c.requires.alone (end_if_chosen (records_of c.args.form) c.args.samples.now c.args.frontier c.args.kind
    c.furthest_integers.result chosen c.furthest_integers.ensures) s b le run)
