use Rattle.msr_base.specs.Kinds.{IsChosen}
use Rattle.msr_base.specs.declared.kinds.Kind.TheVariants.{Steim1}
use Rattle.msr_words.specs.Fit.{records_of}
use Rattle.msr_check.proofs.HoldsBoth.{fits_to}
use Rattle.msr_check.proofs.fits.Goals as goal

pub returns-then-contains : goal.returns-then-contains
returns-then-contains c =
    let chosen : IsChosen c.args.form.kinds c.args.kind =
    (let is = c.contains.ensures in let yes = c.if-contains.true in cc) in
    fits_to (records_of c.args.form) c.args.samples.now c.args.kind c.args.start c.args.end c.in-Some.farthest
    c.in-Some.ensures chosen c.requires.order c.requires.within

pub returns-then-contains-2 : goal.returns-then-contains-2
returns-then-contains-2 c =
    let chosen : IsChosen c.args.form.kinds Steim1 =
    (let is = rw c.in-Steim1.is at c.contains-in-Steim1.ensures in let yes = c.if-contains-2.true in cc) in
    rw c.in-Steim1.is (fits_to (records_of c.args.form) c.args.samples.now Steim1 c.args.start c.args.end
    c.steim1_reach.result c.steim1_reach.ensures chosen c.requires.order c.requires.within)
