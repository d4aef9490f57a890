use Rattle.std.proofs.Common.{◌≡◌, ◌∙◌, arith, refl, sym, ap}
use Rattle.std.proofs.lemmas.Bool.{both_ways}
use Rattle.msr_verdict.specs.Compared.{Compared}
use Rattle.msr_verdict.proofs.agreement.Agreement.end.Goals as goal
use Rattle.msr_verdict.proofs.agreement.Agreement.end.Goals.{then-self, else-self}

pub returns : goal.returns
returns c =
    let place_is : c.self.inside.place ≡ c.args.self.now.place = ap (λ (j : Compared). j.place) c.self.view_is in
    rw (← c.self.view_is, c.if-not-self.false) (record {
      differs = λ f. elim c.if-self.branch [
        | then-self w ↦ absurd (both_ways c.self.inside.agrees f w.if-self.true)
        | else-self w ↦ w.self-is ∙ w.if-self.false
      ];
      agrees = λ was segment runs is judges. elim c.if-self.branch [
        | then-self w ↦
            let exact = (rw (← c.self.view_is) at (w.is_shown-self-inside.ensures.shown segment runs)) is judges in (
              (λ t. exact.0 (sym w.self-is ∙ t)),
              (λ at. w.self-is ∙ exact.1 at),
            )
        | else-self w ↦ absurd (both_ways c.self.inside.agrees w.if-self.false was)
      ];
      place = λ t. elim c.if-self.branch [
        | then-self w ↦
            let few = w.is_shown-self-inside.ensures.counted (sym w.self-is ∙ t) in
            omega (arith, place_is, c.saturating_add-self-inside.ensures)
        | else-self w ↦ absurd (both_ways _ (w.self-is ∙ w.if-self.false) t)
      ];
      closed = refl;
      judged = λ separators. c.begin.ensures _ separators;
    })
