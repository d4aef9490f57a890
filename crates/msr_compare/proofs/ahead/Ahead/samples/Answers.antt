use Rattle.std.proofs.Common.{◌≤◌, arith, drop, length, List, ℤ, ap, sym, ◌∙◌}
use Rattle.std.proofs.lemmas.List.{drop_all}
use Rattle.msr_compare.proofs.Aheads.{held_row}
use Rattle.msr_compare.proofs.Symbols.{range_to_end}
use Rattle.msr_compare.proofs.ahead.Ahead.samples.Goals as goal

pub returns-in-Some-get : goal.returns-in-Some-get
returns-in-Some-get c =
    let view = rw c.in-Some.is at c.self.view_is in
    c.in-Some-get.ensures.lookup.0.2 ∙ range_to_end c.as_slice.result.now c.self.inside.passed
    ∙ ap (λ (xs : List ℤ). drop c.self.inside.passed xs) c.as_slice.ensures
    ∙ held_row c.in-Some.row c.self.inside.begins c.self.inside.passed view

pub returns-in-None : goal.returns-in-None
returns-in-None c =
    let view = rw c.in-Some.is at c.self.view_is in
    let all : length c.as_slice.result.now ≤ c.self.inside.passed = omega (arith, c.in-None.ensures.lookup.0) in
    sym (drop_all c.self.inside.passed c.as_slice.result.now all)
    ∙ ap (λ (xs : List ℤ). drop c.self.inside.passed xs) c.as_slice.ensures
    ∙ held_row c.in-Some.row c.self.inside.begins c.self.inside.passed view
