use Rattle.std.proofs.Common.{arith, ◌<◌, IsTrue, nat_lt, refl, inl, inr, ◌-◌}
use Rattle.std.proofs.lemmas.Bool.{cases_lt}
use Rattle.std.proofs.lemmas.Bool.Decides.{nat_tests}
use Rattle.msr_base.specs.declared.kinds.Kind.TheVariants.{Steim1}
use Rattle.msr_words.specs.Fit.{records_of}
use Rattle.msr_check.proofs.HoldsBoth.{none_apart, none_before, none_here, reaches_both}
use Rattle.msr_check.proofs.steim1_holds_both.Goals as goal
use Rattle.msr_check.proofs.steim1_holds_both.Goals.{then-first-eq0-via-then-first-eq0, then-first-eq0-via-else-first-eq0+then-not-begins_with_four}

pub returns-then-second-steim1_end : goal.returns-then-second-steim1_end
returns-then-second-steim1_end c = (
  λ t. reaches_both (records_of c.args.form) c.args.samples.now c.args.first c.args.second c.requires.order
      c.requires.within Steim1 c.requires.chosen c.args.first c.steim1_end.result (omega arith) c.steim1_end.ensures
      c.if-second-steim1_end.true,
  λ holds. refl,
)

pub returns-then-first-eq0 : goal.returns-then-first-eq0
returns-then-first-eq0 c =
    let form = c.args.form in
    let samples = c.args.samples.now in
    let first = c.args.first in
    let second = c.args.second in (
      λ t. absurd cc,
      λ holds. elim c.then-first-eq0.branch [
        | then-first-eq0-via-then-first-eq0 w ↦
            absurd (none_here (records_of form) samples first second c.requires.order c.requires.within c.steim1_end.result
            c.steim1_end.ensures c.if-second-steim1_end.false (omega (arith, w.if-first-eq0.true)) holds)
        | then-first-eq0-via-else-first-eq0+then-not-begins_with_four w ↦
            absurd (none_apart (records_of form) samples first second c.requires.order c.requires.within c.steim1_end.result
            c.steim1_end.ensures c.if-second-steim1_end.false
            (w.begins_with_four.ensures w.if-not-begins_with_four.true) holds)
      ],
    )

pub returns : goal.returns
returns c =
    let form = c.args.form in
    let samples = c.args.samples.now in
    let first = c.args.first in
    let second = c.args.second in (
      λ t.
          let past : c.args.second < c.steim1_reach.result =
          (let h : IsTrue (nat_lt c.args.second c.steim1_reach.result) = t in grind (arith, nat_tests)) in
          reaches_both (records_of form) samples first second c.requires.order c.requires.within Steim1 c.requires.chosen (first - 1)
          c.steim1_reach.result (omega arith) c.steim1_reach.ensures past,
      λ holds. elim (cases_lt second c.steim1_reach.result) [
        | inl past ↦ grind (arith, nat_tests)
        | inr not ↦ absurd (none_before (records_of form) samples first second c.requires.order c.requires.within
            c.steim1_end.result c.steim1_end.ensures c.if-second-steim1_end.false c.steim1_reach.result
            c.steim1_reach.ensures not holds)
      ],
    )
