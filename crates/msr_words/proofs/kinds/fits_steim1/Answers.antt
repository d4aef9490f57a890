use Rattle.std.proofs.Common.{rules, arith, refl, ◌+◌, take, w64, SFits}
use Rattle.std.specs.Prelude.{reverse}
use Rattle.std.proofs.lemmas.Int.{to_z-of_z}
use Rattle.msr_base.specs.declared.storage.Version.TheVariants.{One}
use Rattle.msr_words.specs.Segment.{differences}
use Rattle.msr_words.specs.AreCounts.{AreCounts}
use Rattle.msr_words.specs.Lemmas.SteimLaws.{none_divides}
use Rattle.msr_words.proofs.Plain.{counts_more, counted_front, front_not, front_all}
use Rattle.msr_words.proofs.kinds.fits_steim1.Goals as goal

pub loop-at-init : goal.loop-at-init
loop-at-init c = record { counted = c.none-counts.ensures c.args.words; so_far = none_divides One c.args.words }

pub loop-at-preserved : goal.loop-at-preserved
loop-at-preserved c =
    let diff : SFits w64 c.difference_after.result = search rules in
    let with = rw c.difference_after.ensures at (simp to_z-of_z at c.with-counts.ensures) in
    let counted : AreCounts c.args.words (reverse
    (take (c.loop-at.at + 1) (differences c.args.before c.args.run.now))) c.with-counts.result =
    counts_more c.args.words c.args.before c.args.run.now c.loop-at.at c.loop-at.counts c.with-counts.result
    (omega arith) with c.loop-at.invariant.counted in
    record {
      counted = counted;
      so_far = (counted_front c.args.words c.args.before c.args.run.now c.loop-at.at c.with-counts.result
          c.within.result (omega arith) counted c.within.ensures).0 c.if-not-within.false;
    }

pub returns-then-not-within : goal.returns-then-not-within
returns-then-not-within c =
    let diff : SFits w64 c.difference_after.result = search rules in
    let with = rw c.difference_after.ensures at (simp to_z-of_z at c.with-counts.ensures) in
    let counted : AreCounts c.args.words (reverse
    (take (c.loop-at.at + 1) (differences c.args.before c.args.run.now))) c.with-counts.result =
    counts_more c.args.words c.args.before c.args.run.now c.loop-at.at c.loop-at.counts c.with-counts.result
    (omega arith) with c.loop-at.invariant.counted in
    let exact = counted_front c.args.words c.args.before c.args.run.now c.loop-at.at c.with-counts.result
    c.within.result (omega arith) counted c.within.ensures in
    front_not c.args.words (c.loop-at.at + 1)
    (differences c.args.before c.args.run.now) c.within.result exact c.if-not-within.true

pub returns : goal.returns
returns c = (
  λ t. front_all c.args.words c.loop-at.at c.args.before c.args.run.now
      (omega arith) c.loop-at.invariant.so_far,
  λ can. refl,
)
