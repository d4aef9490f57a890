use Rattle.std.proofs.Common.{◌≡◌, ◌∙◌, ap, List, ℕ, ◌++◌, Option, Some, None, IfSome, Bor}
use Rattle.msr_report.specs.Text.{hex_text}
use Rattle.msr_report_reader.proofs.keys.byte_after.Goals as goal

found_after : (text word rest : List ℕ) (read : Option (ℕ × Bor (List ℕ))) → text ≡ word ++ rest
    → IfSome read (λ x. rest ≡ hex_text x.0 ++ x.1.now) → IfSome read (λ x. text ≡ word ++ (hex_text x.0 ++ x.1.now))
found_after text word rest None is found = tt
found_after text word rest (Some x) is found = is ∙ ap (λ (l : List ℕ). word ++ l) found

pub returns-in_err-after-clause-only : goal.returns-in_err-after-clause-only
returns-in_err-after-clause-only c n rest small is = absurd (c.in_err-after.ensures.only (hex_text n ++ rest) is)

pub returns-clause-found : goal.returns-clause-found
returns-clause-found c =
    found_after c.args.text.now c.args.word.now _ c.hex_byte.result c.in_ok-after.ensures.found c.hex_byte.ensures.found

pub returns-clause-only : goal.returns-clause-only
returns-clause-only c n rest small is =
    c.hex_byte.ensures.only n rest small (c.in_ok-after.ensures.only (hex_text n ++ rest) is)
