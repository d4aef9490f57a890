use Rattle.std.proofs.Common.{◌∙◌, ap, sym, List, ℕ, ◌++◌}
use Rattle.msr_report_reader.proofs.Begun.{digit_begins}
use Rattle.msr_report_reader.proofs.fields.may_be_number.Goals as goal

pub returns : goal.returns
returns c = λ n more rest small is.
    c.is_ascii_digit.ensures.value
    ∙ digit_begins c.in-Some.byte.now (c.in-Some.field-0-1.now ++ more) n rest small
    (ap (λ (t : List ℕ). t ++ more) (sym c.in-Some.ensures.cases.0) ∙ is)
