use Rattle.std.proofs.Common.{arith, ◌≡◌, [], ◌∷◌, ◌++◌, ◌∙◌, ap, refl, inl, inr, None}
use Rattle.std.proofs.lemmas.Grind.{common_steps}
use Rattle.msr_outcomes.specs.Entries.{first_unopened, unopened_of}
use Rattle.msr_outcomes.specs.declared.outcome.Outcome.TheVariants.{Refused}
use Rattle.msr_outcomes.proofs.FirstDay.{first_more, kept_first}
use Rattle.msr_outcomes.proofs.tally.Tally.add.Goals as goal

pub returns-in-Skipped : goal.returns-in-Skipped
returns-in-Skipped c = λ before entry h channel outcome.
    let first : c.args.self.now.unopened ≡ first_unopened (before ++ entry ∷ []) =
    kept_first c.args.self.now before entry h (ap unopened_of (outcome ∙ c.in-Skipped.is)) in
    grind (arith, common_steps)

pub returns-in-Young : goal.returns-in-Young
returns-in-Young c = λ before entry h channel outcome.
    let first : c.args.self.now.unopened ≡ first_unopened (before ++ entry ∷ []) =
    kept_first c.args.self.now before entry h (ap unopened_of (outcome ∙ c.in-Young.is)) in
    grind (arith, common_steps)

pub returns-in-Known : goal.returns-in-Known
returns-in-Known c = λ before entry h channel outcome.
    let first : c.args.self.now.unopened ≡ first_unopened (before ++ entry ∷ []) =
    kept_first c.args.self.now before entry h (ap unopened_of (outcome ∙ c.in-Known.is)) in
    grind (arith, common_steps)

pub returns-in-Larger : goal.returns-in-Larger
returns-in-Larger c = λ before entry h channel outcome.
    let first : c.args.self.now.unopened ≡ first_unopened (before ++ entry ∷ []) =
    kept_first c.args.self.now before entry h
    (ap unopened_of (outcome ∙ c.in-Refused.is ∙ ap Refused c.in-Larger.is)) in
    grind (arith, common_steps)

pub returns-in-CannotOpen : goal.returns-in-CannotOpen
returns-in-CannotOpen c = λ before entry h channel outcome.
    let first : c.or-self.result ≡ first_unopened (before ++ entry ∷ []) =
    rw (c.or-self.ensures, h.unopened, first_more before entry, outcome, c.in-Refused.is, c.in-CannotOpen.is) refl in
    grind (arith, common_steps)

pub returns-in-Listing : goal.returns-in-Listing
returns-in-Listing c = λ before entry h channel outcome.
    let none : unopened_of entry.outcome ≡ None = grind (arith, common_steps) in
    let first : c.args.self.now.unopened ≡ first_unopened (before ++ entry ∷ []) =
    kept_first c.args.self.now before entry h none in
    grind (arith, common_steps)

pub returns-in_ok-add_done-in-Done : goal.returns-in_ok-add_done-in-Done
returns-in_ok-add_done-in-Done c = λ before entry h channel outcome.
    let first : c.args.self.now.unopened ≡ first_unopened (before ++ entry ∷ []) =
    kept_first c.args.self.now before entry h (elim c.in-Done.is [
      | inl done ↦ ap unopened_of (outcome ∙ done)
      | inr same ↦ ap unopened_of (outcome ∙ same)
    ]) in
    grind (arith, common_steps)
