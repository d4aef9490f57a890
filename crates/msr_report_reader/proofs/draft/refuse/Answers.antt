use Rattle.std.proofs.Common.{◌≡◌, ◌∙◌, sym, refl, arith, true, false}
use Rattle.msr_report_reader.proofs.Steps.{none_is_one, one_is_none}
use Rattle.msr_report_reader.proofs.draft.refuse.Goals as goal
use Rattle.msr_report_reader.proofs.draft.refuse.Goals.{else-begins-via-then-begins+then-text-lt-LINE_LIMIT+else-not-contains, else-begins-via-then-begins+else-text-lt-LINE_LIMIT, else-begins-via-else-begins}

pub returns-else-begins : goal.returns-else-begins
returns-else-begins c = (
  refl,
  elim c.else-begins.branch [
    | else-begins-via-then-begins+then-text-lt-LINE_LIMIT+else-not-contains w ↦ λ may one.
        let no_feed = one_is_none c.args.text.now one in
        let both : true ≡ false = sym w.if-not-contains.false ∙ w.contains.ensures.value ∙ no_feed in
        absurd cc
    | else-begins-via-then-begins+else-text-lt-LINE_LIMIT w ↦ λ may one. omega (arith, w.if-text-lt-LINE_LIMIT.false)
    | else-begins-via-else-begins w ↦ λ may one. let both : true ≡ false = sym may ∙ w.if-begins.false in absurd cc
  ],
)

pub returns-then-not-contains : goal.returns-then-not-contains
returns-then-not-contains c = (
  refl,
  (
    c.if-begins.true,
    (
      none_is_one c.args.text.now (sym c.contains.ensures.value ∙ c.if-not-contains.true),
      omega (arith, c.if-text-lt-LINE_LIMIT.true),
    ),
  ),
)
