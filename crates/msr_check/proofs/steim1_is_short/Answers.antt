use Rattle.std.proofs.Common.{arith}
use Rattle.msr_base.specs.Kinds.{IsChosen}
use Rattle.msr_base.specs.declared.kinds.Kind.TheVariants.{Steim2}
use Rattle.msr_words.specs.Fit.{records_of}
use Rattle.msr_check.proofs.HoldsBoth.{dominated, overtaken, too_many}
use Rattle.msr_check.proofs.steim1_is_short.Goals as goal
use Rattle.msr_check.proofs.steim1_is_short.Goals.{then-not-contains-via-then-not-contains, then-not-contains-via-else-not-contains+then-second-first}

pub returns-then-not-contains-clause-short : goal.returns-then-not-contains-clause-short
returns-then-not-contains-clause-short c t holds = elim c.then-not-contains.branch [
  | then-not-contains-via-then-not-contains w ↦
      let is = c.contains.ensures in
      let not = w.if-not-contains.true in
      let chosen = holds.run.2.0 in
      cc
  | then-not-contains-via-else-not-contains+then-second-first w ↦
      let most = w.most.ensures in
      too_many (records_of c.args.form) c.args.samples.now c.args.first c.args.second c.requires.order c.requires.within
      (omega (arith, w.if-second-first.true)) holds
]

pub returns-then-meets_narrow-clause-short : goal.returns-then-meets_narrow-clause-short
returns-then-meets_narrow-clause-short c t =
    let chosen : IsChosen c.args.form.kinds Steim2 =
    (let is = c.contains-2.ensures in let yes = c.if-not-contains-2.false in cc) in
    overtaken (records_of c.args.form) c.args.samples.now c.args.first c.args.second c.requires.order c.requires.within
    chosen (c.meets_narrow.ensures c.if-meets_narrow.true) c.requires.none

pub returns-clause-short : goal.returns-clause-short
returns-clause-short c t holds =
    let chosen : IsChosen c.args.form.kinds Steim2 =
    (let is = c.contains-2.ensures in let yes = c.if-not-contains-2.false in cc) in
    c.requires.none (dominated (records_of c.args.form) c.args.samples.now c.args.first c.args.second c.requires.order
    c.requires.within chosen (c.are_narrow.ensures t).all holds)
