use Rattle.std.proofs.Common.{◌∙◌, refl, sym}
use Rattle.std.proofs.lemmas.Bool.{both_ways}
use Rattle.msr_verdict.proofs.agreement.Agreement.open_by.Goals as goal
use Rattle.msr_verdict.proofs.agreement.Agreement.open_by.Goals.{then-self-2, else-self-2}

pub returns : goal.returns
returns c =
    rw (← c.self.view_is) (record {
      agrees = elim c.if-self-2.branch [
        | then-self-2 w ↦ (
          (λ t. (w.if-self-2.true, (λ f. w.is_line_of-self-inside.ensures.0 (sym w.self-is ∙ t)))),
          (λ both. w.self-is ∙ w.is_line_of-self-inside.ensures.1 (both.1 c.if-self.false)),
        )
        | else-self-2 w ↦ (
          (λ t. absurd (both_ways c.if-self-2.self (w.self-is ∙ w.if-self-2.false) t)),
          (λ both. absurd (both_ways c.self.inside.agrees w.if-self-2.false both.0)),
        )
      ];
      place = refl;
      opened = refl;
      judged = refl;
    })
