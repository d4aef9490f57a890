use Rattle.std.proofs.Common.{arith, refl}
use Rattle.msr_words.specs.Fit.{records_of}
use Rattle.msr_check.proofs.Shown.{shown_more, shown_no_more, shown_none, shown_says}
use Rattle.msr_check.proofs.is_shown.Goals as goal

pub loop-i-init : goal.loop-i-init
loop-i-init c = shown_none (records_of c.args.form) c.args.samples.now c.args.runs.now c.args.separators.now

pub returns-in_default : goal.returns-in_default
returns-in_default c = (
  λ f. absurd cc,
  λ both. absurd (shown_no_more (records_of c.args.form) c.args.samples.now c.args.runs.now c.args.separators.now c.loop-i.i
      c.loop-i.at c.loop-i.last c.loop-i.invariant _ (omega arith) _ refl (omega arith) (omega arith) (omega arith) c.requires
      c.in_default.ensures both.0 both.1),
)

pub loop-i-preserved : goal.loop-i-preserved
loop-i-preserved c =
    let more = shown_more (records_of c.args.form) c.args.samples.now c.args.runs.now c.args.separators.now c.loop-i.i
    c.loop-i.at c.loop-i.last c.loop-i.invariant _ (omega arith) _ refl (omega arith) (omega arith) (omega arith) c.in-Some.ensures.0 in
    rw c.in-Some.ensures.1 more

pub returns-then-at-samples : goal.returns-then-at-samples
returns-then-at-samples c =
    shown_says (records_of c.args.form) c.args.samples.now c.args.runs.now c.args.separators.now c.loop-i.i c.loop-i.at
    c.loop-i.last c.loop-i.invariant (omega arith) c.requires c.if-at-samples.true _ c.ends_sound.ensures
