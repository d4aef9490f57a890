-- The words of a separators' line.
use Rattle.std.proofs.Common.{◌≡◌, ◌∙◌, ap, sym, refl, ℕ, List, [], ◌∷◌, ◌++◌, append_assoc, codes, decimal, flat_map}
use Rattle.std.proofs.lemmas.List.{append-nil}
use Rattle.msr_report.specs.Text.{separators_line}
use Rattle.msr_report_reader.specs.Fields.{EndsNumber}

abbrev pub spaced : ℕ → List ℕ
spaced n = 32 ∷ decimal n

pub line_then : (separators more : List ℕ) → separators_line separators ++ more ≡ codes "separators"
    ++ (flat_map spaced separators ++ (10 ∷ more))
line_then separators more = simp append_assoc

pub one_more : (ns : List ℕ) (n : ℕ) (more : List ℕ)
    → flat_map spaced ns ++ (spaced n ++ more) ≡ flat_map spaced (ns ++ n ∷ []) ++ more
one_more [] n more = ap (λ (l : List ℕ). l ++ more) (sym (append-nil (spaced n)))
one_more (m ∷ ns) n more =
    append_assoc (spaced m) (flat_map spaced ns) (spaced n ++ more)
    ∙ ap (λ (l : List ℕ). spaced m ++ l) (one_more ns n more)
    ∙ sym (append_assoc (spaced m) (flat_map spaced (ns ++ n ∷ [])) more)

pub ends_number : (ns more : List ℕ) → EndsNumber (flat_map spaced ns ++ (10 ∷ more))
ends_number [] more = refl
ends_number (n ∷ ns) more = refl
