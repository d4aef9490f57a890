use Rattle.std.proofs.Common.{◌∙◌, ap, refl, ◌++◌, ◌∷◌, Bool, true, false, decimal, List, ℕ}
use Rattle.msr_report_reader.specs.Fields.{EndsNumber}
use Rattle.msr_report_reader.specs.Draft.{stop_byte}
use Rattle.msr_report_reader.proofs.draft.separator.Goals as goal

ends_at : (last : Bool) (rest : List ℕ) → EndsNumber (stop_byte last ∷ rest)
ends_at true rest = refl
ends_at false rest = refl

pub returns-in_default-clause-only : goal.returns-in_default-clause-only
returns-in_default-clause-only c n last rest small is =
    absurd (c.in_default.ensures.only n (stop_byte last ∷ rest) small (ends_at last rest) is)

pub returns-in_default-stop-clause-only : goal.returns-in_default-stop-clause-only
returns-in_default-stop-clause-only c n last rest small is =
    let number = c.in-Some.ensures.only n (stop_byte last ∷ rest) small (ends_at last rest) is in
    absurd (c.in_default-stop.ensures.only last rest number.1)

pub returns-clause-found : goal.returns-clause-found
returns-clause-found c =
    c.in-Some.ensures.found ∙ ap (λ (l : List ℕ). decimal c.in-Some.n ++ l) c.in-Some-stop.ensures.found

pub returns-clause-only : goal.returns-clause-only
returns-clause-only c n last rest small is =
    let number = c.in-Some.ensures.only n (stop_byte last ∷ rest) small (ends_at last rest) is in
    let end = c.in-Some-stop.ensures.only last rest number.1 in
    (number.0, end.0, end.1)
